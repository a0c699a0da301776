use Rattle.std.proofs.Common.{◌∷◌, ◌++◌, []}
use Rattle.ostep_lex.specs.Lexeme.{located}
use Rattle.ostep_lex.specs.Cursor.{IsAfter}
use Rattle.ostep_text.proofs.tokens.Tokens.expect_mark.Goals as goal

pub returns-in-Some-clause-read : goal.returns-in-Some-clause-read
returns-in-Some-clause-read c octets tokens h =
    let after : IsAfter octets (tokens ++ located c.in-Some.token ∷ []) c.in-Some.after = rw c.in-Some.is at (c.next_mark.ensures.some octets tokens h.after) in
    record { after = after; ends = h.ends }
