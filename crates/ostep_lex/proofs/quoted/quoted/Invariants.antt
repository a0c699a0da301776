use Rattle.std.proofs.Common.{ℕ, List, length, ◌++◌}
use Rattle.ostep_lex.specs.declared.fault.LexFault.{LexFault}
use Rattle.ostep_lex.specs.Quoted.{Quoted}
use Rattle.ostep_lex.specs.Stands.{QuotedFault}
use Rattle.ostep_lex.specs.Cursor.{ahead, offsets_in, SameInput}
use Rattle.ostep_lex.proofs.quoted.quoted.Given as goal

abbrev pub invariant-loop-c : goal.invariant-loop-c
invariant-loop-c l = ((more end : List ℕ) → Quoted l.mark (ahead l.rest) more end → Quoted l.mark (ahead l.cursor) (l.units.items ++ more) end)
    × ((fault : LexFault) → QuotedFault (offsets_in l.cursor) l.start l.mark (ahead l.rest) fault → QuotedFault (offsets_in l.cursor) l.start l.mark (ahead l.cursor) fault)
    × SameInput l.cursor l.rest

abbrev pub decreases-loop-c : goal.decreases-loop-c
decreases-loop-c l = length (ahead l.rest)
