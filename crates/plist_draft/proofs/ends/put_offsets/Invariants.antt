use Rattle.std.proofs.Common.{◌≡◌, ◌++◌, drop}
use Rattle.plist_object.specs.Spelling.{references}
use Rattle.plist_draft.proofs.ends.put_offsets.Given as goal

abbrev pub invariant-loop-offset : goal.invariant-loop-offset
invariant-loop-offset l =
    l.out.items ++ references 4 (drop l.offset-index l.offsets) ≡ l.initial.out.items ++ references 4 l.offsets
