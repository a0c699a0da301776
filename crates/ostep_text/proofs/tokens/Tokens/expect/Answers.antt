use Rattle.std.proofs.Common.{◌∷◌, ◌++◌, []}
use Rattle.ostep_lex.specs.Lexeme.{located}
use Rattle.ostep_lex.specs.Lexing.{HasTokens}
use Rattle.ostep_text.specs.Stands.{Stands}
use Rattle.ostep_text.specs.Reading.{HasRead}
use Rattle.ostep_lex.proofs.Exits.{passed_on}
use Rattle.ostep_text.proofs.Standing.{expected-end}
use Rattle.ostep_text.proofs.tokens.Tokens.expect.Goals as goal

pub returns-in_err-token-clause-stands : goal.returns-in_err-token-clause-stands
returns-in_err-token-clause-stands c octets tokens whole b h o =
    passed_on (Stands octets) c.in_err-token.field-0.0 c.from_residual.result c.from_residual.ensures.1 (c.in_err-token.ensures.stands octets tokens h)

pub returns-in-Some-clause-read : goal.returns-in-Some-clause-read
returns-in-Some-clause-read c octets tokens h =
    let read : HasRead octets (tokens ++ located c.in-Some.token ∷ []) c.next.new.self = rw c.in-Some.is at (c.in_ok-token.ensures.read octets tokens h) in
    read

pub returns-in-None-clause-stands : goal.returns-in-None-clause-stands
returns-in-None-clause-stands c octets tokens whole b h o =
    let all : HasTokens octets tokens = rw c.in-None.is at (c.in_ok-token.ensures.read octets tokens h) in
    expected-end tokens c.args.self.now.end whole b all h.ends o
