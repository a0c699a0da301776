use Rattle.std.proofs.Common.{◌≡◌, ℕ, List, ◌∷◌, rules, subst, sym, ◌∙◌, arith}
use Rattle.std.specs.Ordering.{nat_cmp}
use Rattle.std.specs.Cmp.Lexicographic.{slice_cmp}
use Rattle.std.specs.List.Sorted.{IsStrictlySortedBy}
use Rattle.std.specs.Map.{keys_of}
use Rattle.plist_value.specs.declared.value.Value.{Value}
use Rattle.plist_value.specs.Plist.{AreUnits, ArePairs}
use Rattle.plist_value.specs.View.{view_pairs}
use Rattle.plist_value.proofs.Keys.{IsKeyBelow-ordered}
use Rattle.std.proofs.lemmas.Grind.{common_steps}
use Rattle.plist_value.proofs.limits.+fits.Goals as goal

pub charge_pairs-loop-key-preserved : goal.charge_pairs-loop-key-preserved
charge_pairs-loop-key-preserved t c =
    let left = c.next.new.self in
    let step : c.loop-key.key-iterator ≡ (c.in-Some.key.now, c.in-Some.value.now) ∷ left = c.in-Some.ensures.steps in
    let ordered = subst (λ (ps : List (List ℕ × Value)). IsStrictlySortedBy (slice_cmp nat_cmp) (keys_of ps)) step c.loop-key.invariant.ordered in
    let below = IsKeyBelow-ordered c.in-Some.key.now c.in-Some.value.now left ordered in
    let units : AreUnits c.in-Some.key.now = subst (λ (us : List ℕ). AreUnits us) (c.of_units-text.ensures.text ∙ c.units.ensures) c.of_units-text.ensures.valid in
    record {
      can = tt;
      finite = tt;
      nodes_left = search rules;
      payload_left = search rules;
      deep = search rules;
      deeper = search rules;
      ordered = below.1;
      valid = λ rest. c.loop-key.invariant.valid (subst (λ (ps : List (List ℕ × Value)). ArePairs (view_pairs ps)) (sym step) (units, c.in_ok-left-2.ensures.valid, below.0, rest));
    }

pub charge_items-loop-item-preserved : goal.charge_items-loop-item-preserved
charge_items-loop-item-preserved t c = grind (arith, common_steps)

pub charge_items-returns-in_err-left-clause-over : goal.charge_items-returns-in_err-left-clause-over
charge_items-returns-in_err-left-clause-over t c = grind (arith, common_steps)

pub charge_items-returns-clause-left : goal.charge_items-returns-clause-left
charge_items-returns-clause-left t c = grind (arith, common_steps)

pub charge_items-returns-clause-deep : goal.charge_items-returns-clause-deep
charge_items-returns-clause-deep t c = grind (arith, common_steps)

pub charge_items-returns-clause-valid : goal.charge_items-returns-clause-valid
charge_items-returns-clause-valid t c = grind (arith, common_steps)

pub charge_pairs-loop-key-init : goal.charge_pairs-loop-key-init
charge_pairs-loop-key-init t c = search rules

pub charge_pairs-returns-in_err-checked_sub-clause-over : goal.charge_pairs-returns-in_err-checked_sub-clause-over
charge_pairs-returns-in_err-checked_sub-clause-over t c = search rules

pub charge_pairs-returns-in_err-left-clause-over : goal.charge_pairs-returns-in_err-left-clause-over
charge_pairs-returns-in_err-left-clause-over t c = search rules

pub charge_pairs-returns-in_err-left-2-clause-over : goal.charge_pairs-returns-in_err-left-2-clause-over
charge_pairs-returns-in_err-left-2-clause-over t c = search rules
