use Rattle.std.proofs.Common.{List, ℕ, length}
use Rattle.ostep_lex.specs.Lexeme.{Located}
use Rattle.ostep_lex.specs.Cursor.{ahead, IsAfter}
use Rattle.ostep_text.specs.Reading.{HasRead}
use Rattle.ostep_text.proofs.tokens.Tokens.refuse.Given as goal

abbrev pub decreases-loop-after : goal.decreases-loop-after
decreases-loop-after l = length (ahead l.cursor)

abbrev pub invariant-loop-after : goal.invariant-loop-after
invariant-loop-after l = (octets : List ℕ) (tokens : List Located) → HasRead octets tokens l.self → (more : List Located) × IsAfter octets more l.cursor
