use Rattle.std.proofs.Common.{◌≡◌, [], subst}
use Rattle.ostep_lex.specs.Gap.{Gap}
use Rattle.ostep_lex.specs.Lexeme.{lexeme_of}
use Rattle.ostep_lex.specs.Lexing.{HasNoTokens}
use Rattle.ostep_lex.specs.Stands.{FaultAt, FaultAfterGap, StandsInTokens, gap}
use Rattle.ostep_lex.specs.Cursor.{ahead, offsets_in, PassesToken, UnlessMemory}
use Rattle.ostep_lex.proofs.Exits.{passed_on}
use Rattle.ostep_lex.proofs.LexerSteps.{passes_placed, placed_shorter, after_more, after_all, after_stands, after_none}
use Rattle.ostep_lex.proofs.lexer.next_token.Goals as goal
use Rattle.ostep_lex.proofs.lexer.next_token.Goals.{In_err-kind}

pub returns-in_err-start-clause-stands : goal.returns-in_err-start-clause-stands
returns-in_err-start-clause-stands c octets tokens b =
    passed_on (StandsInTokens octets) _ c.from_residual.result c.from_residual.ensures.1 (after_stands b (λ n. c.in_err-start.ensures.err))

pub returns-in_err-start-clause-refused : goal.returns-in_err-start-clause-refused
returns-in_err-start-clause-refused c octets tokens b =
    passed_on (UnlessMemory (λ fault. HasNoTokens octets)) _ c.from_residual.result c.from_residual.ensures.1 (after_none b (λ n. c.in_err-start.ensures.err))

-- the fault after the gap
after_gap : (c : In_err-kind) → UnlessMemory (FaultAfterGap (offsets_in c.args.cursor) (ahead c.args.cursor)) c.in_err-kind.field-0.0
after_gap c n =
    let g = c.in_ok-start.ensures.ok in
    gap g.gap (subst (λ p. FaultAt p (ahead c.in_ok-start.start) c.in_err-kind.field-0.0) g.input (c.in_err-kind.ensures.err n))

pub returns-in_err-kind-clause-stands : goal.returns-in_err-kind-clause-stands
returns-in_err-kind-clause-stands c octets tokens b =
    passed_on (StandsInTokens octets) _ c.from_residual-in_err-kind.result c.from_residual-in_err-kind.ensures.1
    (after_stands b (after_gap (goal.at.returns-in_err-kind-clause-stands c).In_err-kind))

pub returns-in_err-kind-clause-refused : goal.returns-in_err-kind-clause-refused
returns-in_err-kind-clause-refused c octets tokens b =
    passed_on (UnlessMemory (λ fault. HasNoTokens octets)) _ c.from_residual-in_err-kind.result c.from_residual-in_err-kind.ensures.1
    (after_none b (after_gap (goal.at.returns-in_err-kind-clause-refused c).In_err-kind))

pub returns-in-Some-clause-ok : goal.returns-in-Some-clause-ok
returns-in-Some-clause-ok c octets tokens b =
    let t : PassesToken (lexeme_of c.in-Some.kind) c.in_ok-start.start c.in-Some.end = rw c.in-Some.is at c.in_ok-kind.ensures.ok in
    after_more b (passes_placed _ _ _ _ _ _ c.in_ok-start.ensures.ok t c.offset.ensures c.offset-in-Some.ensures)

pub returns-in-Some-clause-shorter : goal.returns-in-Some-clause-shorter
returns-in-Some-clause-shorter c =
    let t : PassesToken (lexeme_of c.in-Some.kind) c.in_ok-start.start c.in-Some.end = rw c.in-Some.is at c.in_ok-kind.ensures.ok in
    placed_shorter (passes_placed _ _ _ _ _ _ c.in_ok-start.ensures.ok t c.offset.ensures c.offset-in-Some.ensures)

pub returns-in-None-clause-ok : goal.returns-in-None-clause-ok
returns-in-None-clause-ok c octets tokens b =
    let none : ahead c.in_ok-start.start ≡ [] = rw c.in-None.is at c.in_ok-kind.ensures.ok in
    after_all b (subst (λ x. Gap (ahead c.args.cursor) x) none c.in_ok-start.ensures.ok.gap)
