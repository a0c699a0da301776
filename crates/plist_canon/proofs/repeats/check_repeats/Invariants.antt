use Rattle.std.proofs.Common.{ℕ, ◌<◌}
use Rattle.plist_object.specs.Views.{octets_of}
use Rattle.plist_canon.specs.Rules.{IsNoRepeat}
use Rattle.plist_canon.specs.Seen.{HasSeen}
use Rattle.plist_canon.proofs.repeats.check_repeats.Given as goal

abbrev pub invariant-loop-i : goal.invariant-loop-i
invariant-loop-i g l =
    let f = octets_of l.file in
    record {
      single : (j : ℕ) → j < l.i → IsNoRepeat f j;
      seen : HasSeen l.filter f l.i l.seen;
    }
