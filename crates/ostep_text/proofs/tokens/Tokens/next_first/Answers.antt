use Rattle.std.proofs.Common.{◌∷◌, ◌++◌, []}
use Rattle.ostep_lex.specs.Lexeme.{placed_plain}
use Rattle.ostep_lex.specs.Cursor.{IsAfter}
use Rattle.ostep_text.specs.Stands.{Stands}
use Rattle.ostep_text.specs.Reading.{HasRead}
use Rattle.ostep_lex.specs.Lexeme.{located}
use Rattle.ostep_lex.proofs.Exits.{passed_on}
use Rattle.ostep_text.proofs.tokens.Tokens.next_first.Goals as goal

pub returns-in-Some-clause-read : goal.returns-in-Some-clause-read
returns-in-Some-clause-read c octets tokens h =
    let after : IsAfter octets (tokens ++ placed_plain c.in-Some.token ∷ []) c.in-Some.after = rw c.in-Some.is at (c.next_plain.ensures.some octets tokens h.after) in
    record { after = after; ends = h.ends }

pub returns-in_err-token-clause-stands : goal.returns-in_err-token-clause-stands
returns-in_err-token-clause-stands c octets tokens h =
    passed_on (Stands octets) c.in_err-token.field-0.0 c.from_residual.result c.from_residual.ensures.1 (c.in_err-token.ensures.stands octets tokens h)

pub returns-in-Some-2-clause-read : goal.returns-in-Some-2-clause-read
returns-in-Some-2-clause-read c octets tokens h =
    let read : HasRead octets (tokens ++ located c.in-Some-2.token ∷ []) c.next.new.self = rw c.in-Some-2.is at (c.in_ok-token.ensures.read octets tokens h) in
    read
