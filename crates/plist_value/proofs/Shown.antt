-- Values and the property lists that they are.
use Rattle.std.proofs.Common.{◌≡◌, ℕ, List, sym, ap, ◌∙◌}
use Rattle.plist_value.specs.Plist.{Plist, scalar, text, bytes, list, table}
use Rattle.plist_value.specs.View.{view, view_step, view_items, view_pairs}
use Rattle.plist_value.specs.declared.value.Value as shown
use Rattle.plist_value.specs.declared.value.Value.{fold-roll-Value}
use Rattle.plist_value.specs.declared.value.Value.TheOpen.{Value-F}
use Rattle.plist_value.specs.declared.value.Value.TheVariants.{rolls-Text, rolls-Bytes, rolls-List, rolls-Table}
use Rattle.std.specs.Prelude.{Vec}
use Rattle.std.specs.declared.alloc.Global.{Global}
use Rattle.std.specs.BTreeMap.{BTreeMap}

pub view-text : (units : List ℕ) → view (shown.Text units) ≡ scalar (text units)
view-text units = ap view (sym (rolls-Text units)) ∙ fold-roll-Value Plist view_step (Value-F.Text units)

pub view-bytes : (octets : Vec ℕ Global) → view (shown.Bytes octets) ≡ scalar (bytes octets.items)
view-bytes octets = ap view (sym (rolls-Bytes octets)) ∙ fold-roll-Value Plist view_step (Value-F.Bytes octets)

pub view-list : (items : Vec shown.Value Global) → view (shown.List items) ≡ list (view_items items.items)
view-list items = ap view (sym (rolls-List items)) ∙ fold-roll-Value Plist view_step (Value-F.List items)

pub view-table : (pairs : BTreeMap (List ℕ) shown.Value) → view (shown.Table pairs) ≡ table (view_pairs pairs.entries)
view-table pairs = ap view (sym (rolls-Table pairs)) ∙ fold-roll-Value Plist view_step (Value-F.Table pairs)
