use Rattle.std.proofs.Common.{rules, IfOk, ◌≡◌, ℕ, ◌+◌, ◌<◌, ◌≤◌, ap, sym, subst, ◌∙◌, List, ◌∷◌, length, ◌++◌, [], get_or, take}
use Rattle.std.specs.Ordering.{nat_cmp}
use Rattle.std.specs.Cmp.Lexicographic.{slice_cmp}
use Rattle.std.specs.List.Sorted.{IsStrictlySortedBy}
use Rattle.std.specs.Map.{keys_of}
use Rattle.std.proofs.lemmas.List.{take_more, take_all}
use Rattle.std.proofs.lemmas.Result.{IfOk-from_err}
use Rattle.plist_value.specs.Plist.{text, Plist, scalar, table, AreItems, AreUnits, ArePairs}
use Rattle.plist_value.specs.View.{view, view_items, view_pairs}
use Rattle.plist_value.specs.declared.value.Value.{Value}
use Rattle.plist_value.proofs.Items.{push, AreItems-push, view_items-push}
use Rattle.plist_value.proofs.Shown.{view-table}
use Rattle.plist_value.proofs.Keys.{IsKeyBelow-ordered}
use Rattle.plist_draft.specs.Encoded.{SpellItemsIn, SpellsIn}
use Rattle.plist_draft.specs.View.{objects}
use Rattle.plist_draft.proofs.Valued.{Keeps-both, items-push, pairs-next, pairs-end, table-put}
use Rattle.plist_draft.proofs.values.+values.Goals as goal

items-more : (vs : List Value) (i : ℕ) (v : Value) → v ≡ get_or vs i v → i < length vs → view_items (take (i + 1) vs) ≡ push (view_items (take i vs)) (view v)
items-more vs i v is h =
    ap view_items (take_more vs i v h ∙ ap (λ u. take i vs ++ u ∷ []) (sym is)) ∙ view_items-push (take i vs) v

items-all : (vs : List Value) (i : ℕ) → length vs ≤ i → view_items (take i vs) ≡ view_items vs
items-all vs i h = ap view_items (take_all i vs h)

pub put_items-loop-item-preserved : goal.put_items-loop-item-preserved
put_items-loop-item-preserved t c =
    let all = c.args.items.now.items in
    let i = c.loop-item.item-index in
    let element = c.item-item.result in
    let items : c.deref-item-items.result.now ≡ all = c.deref-item-items.ensures.value in
    let below : i < length all = search rules in
    let more : view_items (take (i + 1) all) ≡ push (view_items (take i all)) (view element) = items-more all i element (search rules) below in
    record {
      kept = Keeps-both _ _ _ c.loop-item.invariant.kept c.put_value.ensures.kept;
      spells = rw (more, c.in_ok-push.ensures.items) (items-push _ _ _ c.in_ok-put_value.field-0 (view element) (c.put_value.ensures.kept.items _ _ c.loop-item.invariant.spells) c.in_ok-put_value.ensures.spells);
      valid = rw more (AreItems-push _ (view element) c.loop-item.invariant.valid c.in_ok-put_value.ensures.valid);
    }

pub put_items-returns-clause-spells : goal.put_items-returns-clause-spells
put_items-returns-clause-spells t c =
    subst (SpellItemsIn (objects c.loop-item.draft) c.loop-item.numbers.items) (items-all c.args.items.now.items c.loop-item.item-index (search rules)) c.loop-item.invariant.spells

pub put_pairs-loop-key-preserved : goal.put_pairs-loop-key-preserved
put_pairs-loop-key-preserved t c =
    let units = c.of_units-text.ensures.text ∙ c.units.ensures in
    let left = c.next.new.self in
    let step : c.loop-key.key-iterator ≡ (c.in-Some.key.now, c.in-Some.value.now) ∷ left = c.in-Some.ensures.steps in
    let ordered = subst (λ (ps : List (List ℕ × Value)). IsStrictlySortedBy (slice_cmp nat_cmp) (keys_of ps)) step c.loop-key.invariant.ordered in
    let below = IsKeyBelow-ordered c.in-Some.key.now c.in-Some.value.now left ordered in
    let are_units : AreUnits c.in-Some.key.now = subst (λ (us : List ℕ). AreUnits us) units c.of_units-text.ensures.valid in
    let key = subst (λ (us : List ℕ). SpellsIn (objects c.put_scalar.new.self) c.in_ok-put_scalar.field-0 (scalar (text us))) units c.in_ok-put_scalar.ensures.spells in
    record {
      can = tt;
      finite = tt;
      kept = Keeps-both _ _ _ c.loop-key.invariant.kept (Keeps-both _ _ _ c.put_scalar.ensures.kept c.put_value.ensures.kept);
      left = pairs-next _ _ _ _ _ _ _ c.in_ok-put_scalar.field-0 c.in_ok-put_value.field-0 c.in-Some.key.now (view c.in-Some.value.now) _ _ _ c.put_scalar.ensures.kept key c.put_value.ensures.kept c.in_ok-put_value.ensures.spells (ap view_pairs c.in-Some.ensures.steps) c.in_ok-push.ensures.items c.in_ok-push-2.ensures.items c.loop-key.invariant.left;
      ordered = below.1;
      valid = λ rest. c.loop-key.invariant.valid (subst (λ (ps : List (List ℕ × Value)). ArePairs (view_pairs ps)) (sym step) (are_units, c.in_ok-put_value.ensures.valid, below.0, rest));
    }

pub put_pairs-returns-clause-spells : goal.put_pairs-returns-clause-spells
put_pairs-returns-clause-spells t c =
    pairs-end _ _ _ _ _ (ap view_pairs c.in-None.ensures.steps.0) c.loop-key.invariant.left

pub put_items-returns-in_err-push-clause-spells : goal.put_items-returns-in_err-push-clause-spells
put_items-returns-in_err-push-clause-spells t c = IfOk-from_err _ _ c.from_residual-in_err-push.ensures.0

pub put_items-returns-in_err-push-clause-valid : goal.put_items-returns-in_err-push-clause-valid
put_items-returns-in_err-push-clause-valid t c = IfOk-from_err _ (λ numbers. _) c.from_residual-in_err-push.ensures.0

pub put_items-returns-in_err-push-clause-kept : goal.put_items-returns-in_err-push-clause-kept
put_items-returns-in_err-push-clause-kept t c = Keeps-both _ _ _ c.loop-item.invariant.kept c.put_value.ensures.kept

pub put_items-returns-in_err-put_value-clause-spells : goal.put_items-returns-in_err-put_value-clause-spells
put_items-returns-in_err-put_value-clause-spells t c = IfOk-from_err _ _ c.from_residual-in_err-put_value.ensures.0

pub put_items-returns-in_err-put_value-clause-valid : goal.put_items-returns-in_err-put_value-clause-valid
put_items-returns-in_err-put_value-clause-valid t c = IfOk-from_err _ (λ numbers. _) c.from_residual-in_err-put_value.ensures.0

pub put_items-returns-in_err-put_value-clause-kept : goal.put_items-returns-in_err-put_value-clause-kept
put_items-returns-in_err-put_value-clause-kept t c = Keeps-both _ _ _ c.loop-item.invariant.kept c.put_value.ensures.kept

pub put_items-returns-clause-valid : goal.put_items-returns-clause-valid
put_items-returns-clause-valid t c =
    subst AreItems (items-all c.args.items.now.items c.loop-item.item-index (search rules)) c.loop-item.invariant.valid

pub put_value-returns-in_ok-keys-in-Table-clause-spells : goal.put_value-returns-in_ok-keys-in-Table-clause-spells
put_value-returns-in_ok-keys-in-Table-clause-spells t c =
    let encoded = rw (sym c.deref-in-Table.ensures.value, sym c.deref-in-Table-2.ensures.value) at c.in_ok-keys-in-Table.ensures.spells in
    let shown : view c.args.value.now ≡ table (view_pairs c.in-Table.pairs.entries) = ap view c.in-Table.is ∙ view-table c.in-Table.pairs in
    subst (λ (v : Plist). IfOk c.put_table.result (λ number. SpellsIn (objects c.put_table.new.self) number v)) (sym shown) (table-put _ _ _ _ _ c.put_table.result encoded c.put_table.ensures.spells)
