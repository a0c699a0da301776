use Rattle.std.proofs.Common.{◌≡◌, drop}
use Rattle.std.specs.Prelude.{nat_eq}
use Rattle.std.specs.List.{starts_with}
use Rattle.ostep_lex.specs.Cursor.{ahead}
use Rattle.ostep_lex.proofs.opening.begins_with.Given as goal

abbrev pub invariant-loop-octet : goal.invariant-loop-octet
invariant-loop-octet l = starts_with nat_eq (ahead l.cursor) l.word ≡ starts_with nat_eq (ahead l.rest) (drop l.octet-index l.word)
