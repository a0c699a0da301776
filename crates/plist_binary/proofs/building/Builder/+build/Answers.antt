use Rattle.std.proofs.Common.{◌≡◌, ◌≤◌, ◌+◌, ℕ, List, [], take, length, rules, refl, subst, sym, arith}
use Rattle.std.specs.List.{zip}
use Rattle.std.proofs.lemmas.List.{take_all}
use Rattle.std.proofs.lemmas.List.Sorted.{IsPermutation-refl}
use Rattle.std.proofs.lemmas.Slice.Zip.{length-zip}
use Rattle.plist_value.specs.Plist.{Plist, Items}
use Rattle.plist_value.specs.View.{view, view_items, view_pairs}
use Rattle.plist_value.proofs.Items.{push, some_depth, view_items-push}
use Rattle.plist_value.proofs.Shown.{view-table}
use Rattle.plist_object.specs.Objects.{holds_list, holds_table}
use Rattle.plist_object.specs.Places.{Holds}
use Rattle.plist_object.specs.Views.{octets_of, numbers_of}
use Rattle.plist_binary.specs.Building.{AreSpelled, IsSpelled}
use Rattle.plist_binary.specs.Readings.{PairsSpelled}
use Rattle.plist_binary.proofs.BuildSteps.{AllSpellWithin-list, AreSpelled-next, HoldsSome-within, HoldsText-key, IsSpelled-table, PairsSpelled-next, SpellsPairsWithin-table, SpellsWithin-value}
use Rattle.plist_binary.proofs.building.Builder.+build.Goals as goal

pub items-loop-i-preserved : goal.items-loop-i-preserved
items-loop-i-preserved t c =
    let f = octets_of c.args.self.now.file in
    let refs = numbers_of c.args.refs in
    let more = AreSpelled-next f refs c.loop-i.i c.get.result (view_items c.loop-i.items.items) (view c.in_ok-value.field-0) (omega arith) c.get.ensures c.loop-i.invariant c.in_ok-value.ensures in
    let pushed : view_items c.push.new.self.items ≡ push (view_items c.loop-i.items.items) (view c.in_ok-value.field-0) = rw c.in_ok-push.ensures.items (view_items-push c.loop-i.items.items c.in_ok-value.field-0) in
    subst (λ (vs : Items). AreSpelled f (take (c.loop-i.i + 1) refs) vs) (sym pushed) more

pub pairs-text-requires : goal.pairs-text-requires
pairs-text-requires t c =
    HoldsText-key (octets_of c.args.self.now.file) (numbers_of c.args.keys) (numbers_of c.args.values) c.args.levels c.loop-i.i _ (omega arith) c.get.ensures c.requires

pub value-held-requires : goal.value-held-requires
value-held-requires t c =
    HoldsSome-within (octets_of c.args.self.now.file) c.args.object c.args.levels c.requires

pub value-overflow_sub-levels : goal.value-overflow_sub-levels
value-overflow_sub-levels t c = omega (arith, some_depth c.requires.value, c.requires.deep)

pub value-overflow_sub-levels-in-Table : goal.value-overflow_sub-levels-in-Table
value-overflow_sub-levels-in-Table t c = omega (arith, some_depth c.requires.value, c.requires.deep)

pub value-items-requires : goal.value-items-requires
value-items-requires t c =
    let f = octets_of c.args.self.now.file in
    let refs = numbers_of c.in-List.items in
    let some : 1 ≤ c.args.levels = omega (arith, some_depth c.requires.value, c.requires.deep) in
    let holds : Holds f c.args.object (holds_list refs) = rw c.in-List.is at c.held.ensures.held in
    (search rules, AllSpellWithin-list f refs c.args.object c.args.levels holds c.requires)

pub value-pairs-requires : goal.value-pairs-requires
value-pairs-requires t c =
    let f = octets_of c.args.self.now.file in
    let keys = numbers_of c.in-Table.keys in
    let values = numbers_of c.in-Table.values in
    let some : 1 ≤ c.args.levels = omega (arith, some_depth c.requires.value, c.requires.deep) in
    let holds : Holds f c.args.object (holds_table keys values) = rw c.in-Table.is at c.held.ensures.held in
    let long : length keys ≡ length values = rw c.in-Table.is at c.held.ensures.valid in
    (search rules, SpellsPairsWithin-table f keys values c.args.object c.args.levels long holds c.requires)

pub value-returns-in_ok-pairs-in-Table : goal.value-returns-in_ok-pairs-in-Table
value-returns-in_ok-pairs-in-Table t c =
    let f = octets_of c.args.self.now.file in
    let keys = numbers_of c.in-Table.keys in
    let values = numbers_of c.in-Table.values in
    let holds : Holds f c.args.object (holds_table keys values) = rw c.in-Table.is at c.held.ensures.held in
    subst (λ (v : Plist). IsSpelled f c.args.object v) (sym (view-table c.in_ok-pairs-in-Table.field-0)) (IsSpelled-table f keys values c.args.object (view_pairs c.in_ok-pairs-in-Table.field-0.entries) holds c.in_ok-pairs-in-Table.ensures)

pub pairs-loop-i-init : goal.pairs-loop-i-init
pairs-loop-i-init t c = rw c.new-pairs.ensures.empty record { rows = []; moved = IsPermutation-refl []; spell = refl; valid = tt }

pub pairs-value-requires : goal.pairs-value-requires
pairs-value-requires t c = (
  search rules,
  SpellsWithin-value (octets_of c.args.self.now.file) (numbers_of c.args.keys) (numbers_of c.args.values) c.args.levels c.loop-i.i _ (omega arith) c.get-in-loop-i.ensures c.requires,
)

pub pairs-loop-i-preserved : goal.pairs-loop-i-preserved
pairs-loop-i-preserved t c =
    PairsSpelled-next (octets_of c.args.self.now.file) (numbers_of c.args.keys) (numbers_of c.args.values) c.args.levels c.loop-i.i _ _ _ c.in_ok-value.value c.loop-i.pairs.entries c.insert.new.self.entries (omega arith) c.get.ensures c.get-in-loop-i.ensures c.requires c.text.ensures c.in_ok-value.ensures (rw c.in_ok-key.ensures at c.in_ok-insert.ensures.entries) c.loop-i.invariant

pub pairs-returns : goal.pairs-returns
pairs-returns t c =
    let f = octets_of c.args.self.now.file in
    let all = zip (numbers_of c.args.keys) (numbers_of c.args.values) in
    let long : length all ≤ c.loop-i.i = omega (arith, length-zip (numbers_of c.args.keys) (numbers_of c.args.values)) in
    subst (λ (rows : List (ℕ × ℕ)). PairsSpelled f rows (view_pairs c.loop-i.pairs.entries)) (take_all c.loop-i.i all long) c.loop-i.invariant
