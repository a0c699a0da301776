use Rattle.std.proofs.Common.{◌∷◌, ◌++◌, [], map, subst}
use Rattle.ostep_lex.specs.Lexeme.{located}
use Rattle.ostep_lex.specs.Lexing.{HasTokens, HasNoTokens}
use Rattle.ostep_lex.specs.Stands.{StandsInTokens}
use Rattle.ostep_lex.specs.Cursor.{IsAfter, UnlessMemory}
use Rattle.ostep_lex.proofs.LawProofs.{HasTokens-spans}
use Rattle.ostep_lex.proofs.Exits.{passed_on}
use Rattle.ostep_lex.proofs.LexerSteps.{found_more}
use Rattle.ostep_lex.proofs.lexer.tokens.Goals as goal

pub returns-in_err-rest-clause-refused : goal.returns-in_err-rest-clause-refused
returns-in_err-rest-clause-refused c =
    passed_on (UnlessMemory (λ fault. HasNoTokens c.args.octets.now)) _ c.from_residual.result c.from_residual.ensures.1 (λ n. c.in_err-rest.ensures.refused)

pub returns-in_err-token-clause-stands : goal.returns-in_err-token-clause-stands
returns-in_err-token-clause-stands c =
    passed_on (StandsInTokens c.args.octets.now) _ c.from_residual-in_err-token.result c.from_residual-in_err-token.ensures.1
    (c.in_err-token.ensures.stands _ _ c.loop-found.invariant)

pub returns-in_err-token-clause-refused : goal.returns-in_err-token-clause-refused
returns-in_err-token-clause-refused c =
    passed_on (UnlessMemory (λ fault. HasNoTokens c.args.octets.now)) _ c.from_residual-in_err-token.result c.from_residual-in_err-token.ensures.1
    (c.in_err-token.ensures.refused _ _ c.loop-found.invariant)

pub loop-found-preserved : goal.loop-found-preserved
loop-found-preserved c =
    let b : IsAfter c.args.octets.now (map located c.loop-found.found.items ++ located c.in-Some.token ∷ []) c.in-Some.after =
    rw c.in-Some.is at (c.in_ok-token.ensures.ok _ _ c.loop-found.invariant) in
    subst (λ ts. IsAfter c.args.octets.now ts c.in-Some.after) (found_more c.loop-found.found.items c.push.new.self.items c.in-Some.token c.in_ok-push.ensures.items) b

pub returns-clause-spans : goal.returns-clause-spans
returns-clause-spans c =
    let all : HasTokens c.args.octets.now (map located c.loop-found.found.items) = rw c.in_default.is at (c.in_ok-token.ensures.ok _ _ c.loop-found.invariant) in
    HasTokens-spans all
