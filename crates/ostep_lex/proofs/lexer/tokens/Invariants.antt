use Rattle.std.proofs.Common.{length, map}
use Rattle.ostep_lex.specs.Lexeme.{located}
use Rattle.ostep_lex.specs.Cursor.{ahead, IsAfter}
use Rattle.ostep_lex.proofs.lexer.tokens.Given as goal

abbrev pub invariant-loop-found : goal.invariant-loop-found
invariant-loop-found l = IsAfter l.octets (map located l.found.items) l.rest

abbrev pub decreases-loop-found : goal.decreases-loop-found
decreases-loop-found l = length (ahead l.rest)
