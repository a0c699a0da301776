use Rattle.std.proofs.Common.{ℕ, List, length, ◌++◌}
use Rattle.ostep_lex.specs.declared.fault.LexFault.{LexFault}
use Rattle.ostep_lex.specs.Octets.{Octets}
use Rattle.ostep_lex.specs.Stands.{OctetsFault}
use Rattle.ostep_lex.specs.Cursor.{ahead, offsets_in, SameInput}
use Rattle.ostep_lex.proofs.octets.octets.Given as goal

abbrev pub invariant-loop-c : goal.invariant-loop-c
invariant-loop-c l = ((more end : List ℕ) → Octets (ahead l.rest) more end → Octets (ahead l.cursor) (l.octets.items ++ more) end)
    × ((fault : LexFault) → OctetsFault (offsets_in l.cursor) (ahead l.rest) fault → OctetsFault (offsets_in l.cursor) (ahead l.cursor) fault)
    × SameInput l.cursor l.rest

abbrev pub decreases-loop-c : goal.decreases-loop-c
decreases-loop-c l = length (ahead l.rest)
