use Rattle.std.proofs.Common.{◌∷◌, ◌++◌, []}
use Rattle.ostep_lex.specs.Lexeme.{located}
use Rattle.ostep_lex.specs.Cursor.{IsAfter}
use Rattle.ostep_text.specs.Fault.{of_tokens}
use Rattle.ostep_text.specs.Stands.{Stands}
use Rattle.ostep_lex.proofs.Exits.{passed_on}
use Rattle.ostep_text.proofs.Standing.{tokens-stand}
use Rattle.ostep_text.proofs.tokens.Tokens.next.Goals as goal

pub returns-in_err-token-clause-stands : goal.returns-in_err-token-clause-stands
returns-in_err-token-clause-stands c octets tokens h =
    passed_on (Stands octets) (of_tokens c.in_err-token.field-0.0) c.from_residual.result c.from_residual.ensures.1
    (tokens-stand octets c.in_err-token.field-0.0 (c.in_err-token.ensures.stands octets tokens h.after))

pub returns-in-Some-clause-read : goal.returns-in-Some-clause-read
returns-in-Some-clause-read c octets tokens h =
    let after : IsAfter octets (tokens ++ located c.in-Some.token ∷ []) c.in-Some.after = rw c.in-Some.is at (c.in_ok-token.ensures.ok octets tokens h.after) in
    record { after = after; ends = h.ends }
