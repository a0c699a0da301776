use Rattle.std.proofs.Common.{◌≡◌, ◌≤◌, ◌-◌, length, get_or, map}
use Rattle.plist_value.specs.Texts.{units_of}
use Rattle.plist_object.specs.Layout.{trailer_of}
use Rattle.plist_object.specs.Views.{octets_of}
use Rattle.plist_keys.specs.declared.keys.Key.{Key}
use Rattle.plist_keys.proofs.Ranked.{RankedTo}
use Rattle.plist_keys.proofs.ranks.ranks_in_order.Given as goal

abbrev pub invariant-loop-key : goal.invariant-loop-key
invariant-loop-key l =
    let f = octets_of l.file in
    record {
      counted : length l.of_objects.items ≡ (trailer_of f).count;
      small : l.rank ≤ l.key-index;
      at : (d : Key) → l.before ≡ (get_or l.keys (l.key-index - 1) d).text;
      ranked : RankedTo f l.of_objects.items (map units_of l.texts.items) l.rank (units_of l.before);
    }
