-- Items with one more at the end, and the minimal depth of a value.
use Rattle.std.proofs.Common.{◌≡◌, ℕ, ◌+◌, ◌≤◌, List, [], ◌∷◌, ◌++◌, refl, ap, ◌∙◌, arith}
use Rattle.std.specs.Prelude.{map}
use Rattle.std.proofs.lemmas.List.{map-append}
use Rattle.plist_value.specs.declared.value.Value.{Value}
use Rattle.plist_value.specs.Plist.{Plist, scalar, Items, no_items, item, IsPlist, AreItems}
use Rattle.plist_value.specs.Limits.{nodes, depth, payload, nodes_of_items, depth_of_items, payload_of_items}
use Rattle.plist_value.specs.View.{view, view_items, items_of}

pub some_depth : (v : Plist) → 1 ≤ depth v
some_depth (scalar s) = omega arith
some_depth _ = omega arith

abbrev pub push : Items → Plist → Items
push no_items v = item v no_items
push (item w vs) v = item w (push vs v)

pub items_of-push : (vs : List Plist) (v : Plist) → items_of (vs ++ v ∷ []) ≡ push (items_of vs) v
items_of-push [] v = refl
items_of-push (w ∷ vs) v = ap (item w) (items_of-push vs v)

pub view_items-push : (vs : List Value) (v : Value) → view_items (vs ++ v ∷ []) ≡ push (view_items vs) (view v)
view_items-push vs v = ap items_of (map-append view vs (v ∷ [])) ∙ items_of-push (map view vs) (view v)

pub AreItems-push : (vs : Items) (v : Plist) → AreItems vs → IsPlist v → AreItems (push vs v)
AreItems-push no_items v valid one = (one, tt)
AreItems-push (item w vs) v valid one = (valid.0, AreItems-push vs v valid.1 one)

pub nodes-push : (vs : Items) (v : Plist) → nodes_of_items (push vs v) ≡ nodes_of_items vs + nodes v
nodes-push no_items v = omega arith
nodes-push (item w vs) v = omega (arith, nodes-push vs v)

pub payload-push : (vs : Items) (v : Plist) → payload_of_items (push vs v) ≡ payload_of_items vs + payload v
payload-push no_items v = omega arith
payload-push (item w vs) v = omega (arith, payload-push vs v)

pub depth-push : (vs : Items) (v : Plist) (levels : ℕ) → depth_of_items vs ≤ levels → depth v ≤ levels → depth_of_items (push vs v) ≤ levels
depth-push no_items v levels deep one = omega arith
depth-push (item w vs) v levels deep one = omega (arith, depth-push vs v levels (omega arith) one)
