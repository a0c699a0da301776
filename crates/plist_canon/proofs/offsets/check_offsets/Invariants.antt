use Rattle.std.proofs.Common.{ℕ, ◌<◌}
use Rattle.plist_object.specs.Views.{octets_of}
use Rattle.plist_canon.specs.Checking.{Follows, IsEndBefore}
use Rattle.plist_canon.proofs.offsets.check_offsets.Given as goal

abbrev pub invariant-loop-i : goal.invariant-loop-i
invariant-loop-i l =
    let f = octets_of l.file in
    record {
      ends : IsEndBefore f l.i l.end;
      follow : (j : ℕ) → j < l.i → Follows f j;
    }
