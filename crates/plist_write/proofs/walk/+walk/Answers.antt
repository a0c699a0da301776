use Rattle.std.proofs.Common.{◌≡◌, ℕ, ◌+◌, ◌-◌, ◌<◌, ◌≤◌, List, [], ◌∷◌, false, ◌++◌, length, drop, get_or, rules, refl, sym, ap, subst, ◌∙◌, arith, length-append, append_assoc}
use Rattle.std.proofs.lemmas.List.{append-nil, drop_at, get_or-drop, length-drop, drop-set-lt}
use Rattle.std.proofs.lemmas.Result.{IfOk-weaker, on_ok_weaker}
use Rattle.plist_value.specs.Plist.{Scalar}
use Rattle.plist_value.specs.Scalars.{content_of}
use Rattle.plist_object.specs.Views.{octets_of, numbers_of}
use Rattle.plist_value.specs.declared.scalar_ref.ScalarRef.{ScalarRef}
use Rattle.plist_object.specs.Objects.{holds_scalar}
use Rattle.plist_object.specs.Places.{Holds, what_holds}
use Rattle.plist_write.specs.ObjectNumbers.{kept, unique}
use Rattle.plist_write.specs.declared.plan.Plan.{Plan}
use Rattle.plist_write.specs.Plan.{is_held, AddsObject, ItemsWalked, IsUnseen, KnowsScalars}
use Rattle.plist_write.specs.Spelling.{SpellWithin, sorted_references}
use Rattle.plist_object.specs.Spelled.{SpellsWithin}
use Rattle.plist_write.proofs.Filling.{filling-start, filling-long, filling-object, filling-next, filling-end}
use Rattle.plist_write.proofs.Within.{read_within, levels_within, items_within, table_within, is_table, flat_within, value_within}
use Rattle.plist_write.proofs.Walked.{walked-scalar, walked-list, walked-table, walked-next, walked-none}
use Rattle.plist_write.proofs.Meeting.{list-apart, table-apart}
use Rattle.plist_write.proofs.Remembering.{knows-begun, knows-same, number-remembered, valid_at, walked-again}
use Rattle.plist_write.proofs.walk.+walk.Goals as goal

-- an object whose references were appended after it was added
with_references : {S H : Type 0} → (i : ℕ) (refs : List ℕ) (old mid new : Plan S H) (number : ℕ) → AddsObject i [] old mid number → new.scalars ≡ mid.scalars → new.originals ≡ mid.originals → new.memo ≡ mid.memo → new.references.items ≡ mid.references.items ++ refs → AddsObject i refs old new number
with_references i refs old mid new number adds same_scalars same_originals same_memo appended = record {
  number_is = adds.number_is;
  scalars_kept = same_scalars ∙ adds.scalars_kept;
  original_added = ap (λ originals. originals.items) same_originals ∙ adds.original_added;
  memo_kept = same_memo ∙ adds.memo_kept;
  references_added = appended ∙ ap (λ old. old ++ refs) (adds.references_added ∙ append-nil _);
}

-- what the walk of the children requires of a plan in which their container was added
children : {S H : Type 0} → (f : List ℕ) (i : ℕ) (objects : List ℕ) (levels first : ℕ) (old new : Plan S H) (number : ℕ) → first ≡ length old.references.items → ((s : Scalar) → is_held s (what_holds f i) ≡ false) → AddsObject i objects old new number → SpellWithin f objects levels → KnowsScalars f old → (first ≤ length new.references.items) × (SpellWithin f (drop first new.references.items) levels × KnowsScalars f new)
children f i objects levels first old new number at_end apart adds within knows =
    let begun : drop first new.references.items ≡ objects = ap (drop first) adds.references_added ∙ drop_at old.references.items objects first (sym at_end) in
    (omega (arith, ap length adds.references_added ∙ length-append old.references.items objects), (subst (λ (refs : List ℕ). SpellWithin f refs levels) (sym begun) within, knows-begun f i objects old new number apart adds knows))

pub walk-returns-in-Some-clause-walked : goal.walk-returns-in-Some-clause-walked
walk-returns-in-Some-clause-walked g t c =
    let f = octets_of c.args.input.now.file in
    let i = c.args.object in
    let plan = c.args.plan.now in
    let number = c.in-Some.number in
    walked-again f i c.args.levels plan number c.requires.spells (number-remembered f plan i number c.in-Some.ensures.is c.in-Some.ensures.some c.requires.knows.scalars)

-- the object contains the scalar, and was not visited
unseen : {S H : Type 0} (f : List ℕ) (i : ℕ) (r : ScalarRef) (plan : Plan S H) → KnowsScalars f plan → unique ≤ kept plan.memo i → Holds f i (holds_scalar (content_of r)) → IsUnseen f i (content_of r) plan
unseen f i r plan knows none holds = record { knows = knows; holds = holds; unseen = none }

pub walk-returns-then-is_unique-clause-walked : goal.walk-returns-then-is_unique-clause-walked
walk-returns-then-is_unique-clause-walked g t c =
    let f = octets_of c.args.input.now.file in
    let i = c.args.object in
    let old = c.args.plan.now in
    let within = c.requires.spells in
    let held = (c.requires.knows.scalars.singles i (c.is_unique.ensures c.if-is_unique.true)).0 in
    let r = held.0 in
    IfOk-weaker c.unique_scalar.result _ _
    (λ number numbers. walked-scalar f i (content_of r) old c.unique_scalar.new.self number (unseen f i r old c.requires.knows.scalars c.in_default.ensures.none held.1) (valid_at f i (content_of r) within.value within.valid within.spells held.1) (numbers f r))
    c.unique_scalar.ensures.numbers

pub walk-returns-then-is_unique-clause-knows : goal.walk-returns-then-is_unique-clause-knows
walk-returns-then-is_unique-clause-knows g t c =
    let f = octets_of c.args.input.now.file in
    let i = c.args.object in
    let plan = c.args.plan.now in
    let held = (c.requires.knows.scalars.singles i (c.is_unique.ensures c.if-is_unique.true)).0 in
    on_ok_weaker c.unique_scalar.result
    (λ keeps. record { scalars = keeps f held.0 (unseen f i held.0 plan c.requires.knows.scalars c.in_default.ensures.none held.1); ready = c.requires.knows.ready })
    c.unique_scalar.ensures.knows

pub walk_object-object_of-requires : goal.walk_object-object_of-requires
walk_object-object_of-requires g t c = read_within (octets_of c.args.input.now.file) c.args.object c.args.levels c.requires.spells

pub walk_object-overflow_sub-levels : goal.walk_object-overflow_sub-levels
walk_object-overflow_sub-levels g t c = levels_within (octets_of c.args.input.now.file) c.args.object c.args.levels c.requires.spells

pub walk_object-walk_children-requires : goal.walk_object-walk_children-requires
walk_object-walk_children-requires g t c =
    let f = octets_of c.args.input.now.file in
    let objects = numbers_of c.in-List.items in
    let some = levels_within f c.args.object c.args.levels c.requires.spells in
    let at_end : c.len-first.result ≡ length c.args.plan.now.references.items = search rules in
    let within = items_within f c.args.object c.args.levels objects c.requires.spells c.in-List.ensures.holds in
    let apart = list-apart f c.args.object objects c.in-List.ensures.holds in
    let mid = c.add.new.self in
    let new : Plan _ _ = record mid { references = c.push_all.new.references } in
    let adds = with_references c.args.object objects c.args.plan.now mid new c.in_ok-number-in-List.number c.in_ok-number-in-List.ensures.adds refl refl refl c.in_ok-push_all-in-List.ensures in
    let begun = children f c.args.object objects (c.args.levels - 1) c.len-first.result c.args.plan.now new c.in_ok-number-in-List.number at_end apart adds within c.requires.knows.scalars in
    λ κs lives. (omega (arith, c.decreases), (lives.0, (lives.1, (begun.0, (begun.1.0, record { scalars = begun.1.1; ready = c.requires.knows.ready })))))

pub walk_object-push_sorted-requires : goal.walk_object-push_sorted-requires
walk_object-push_sorted-requires g t c = record {
  table = is_table _ _ _ _ (table_within (octets_of c.args.input.now.file) c.args.object c.args.levels (numbers_of c.in-Table.keys) (numbers_of c.in-Table.values) c.in-Table.ensures.valid c.requires.spells c.in-Table.ensures.holds);
  ready = c.requires.knows.ready;
}

pub walk_object-overflow_sub-levels-in-Table : goal.walk_object-overflow_sub-levels-in-Table
walk_object-overflow_sub-levels-in-Table g t c =
    levels_within (octets_of c.args.input.now.file) c.args.object c.args.levels c.requires.spells

pub walk_object-walk_children-requires-in-Table : goal.walk_object-walk_children-requires-in-Table
walk_object-walk_children-requires-in-Table g t c =
    let f = octets_of c.args.input.now.file in
    let keys = numbers_of c.in-Table.keys in
    let values = numbers_of c.in-Table.values in
    let some = levels_within f c.args.object c.args.levels c.requires.spells in
    let at_end : c.len-first-in-Table.result ≡ length c.args.plan.now.references.items = search rules in
    let within = table_within f c.args.object c.args.levels keys values c.in-Table.ensures.valid c.requires.spells c.in-Table.ensures.holds in
    let apart = table-apart f c.args.object keys values c.in-Table.ensures.holds in
    let mid = c.add-in-Table.new.self in
    let new : Plan _ _ = record mid { references = c.push_sorted.new.references } in
    let adds = with_references c.args.object (sorted_references within.rows) c.args.plan.now mid new c.in_ok-number-in-Table.number c.in_ok-number-in-Table.ensures.adds refl refl refl (c.in_ok-push_sorted-in-Table.ensures.pushed within.rows within.pairs within.spell) in
    let begun = children f c.args.object (sorted_references within.rows) (c.args.levels - 1) c.len-first-in-Table.result c.args.plan.now new c.in_ok-number-in-Table.number at_end apart adds (flat_within f keys values (c.args.levels - 1) within) c.requires.knows.scalars in
    λ κs lives. (omega (arith, c.decreases), (lives.0, (lives.1, (begun.0, (begun.1.0, record { scalars = begun.1.1; ready = c.in_ok-push_sorted-in-Table.ensures.ready })))))

pub walk_object-returns-in-Scalar-clause-walked : goal.walk_object-returns-in-Scalar-clause-walked
walk_object-returns-in-Scalar-clause-walked g t c =
    let f = octets_of c.args.input.now.file in
    let old = c.args.plan.now in
    let new = c.scalar.new.self in
    let r = c.in-Scalar.scalar in
    IfOk-weaker c.scalar.result _ _
    (λ number numbers. walked-scalar f c.args.object (content_of r) old new number (unseen f c.args.object r old c.requires.knows.scalars c.requires.unseen c.in-Scalar.ensures.holds) c.in-Scalar.ensures.valid numbers)
    c.scalar.ensures.numbers

pub walk_object-returns-in_ok-walk_children-in-List-clause-walked : goal.walk_object-returns-in_ok-walk_children-in-List-clause-walked
walk_object-returns-in_ok-walk_children-in-List-clause-walked g t c =
    let at_end : c.len-first.result ≡ length c.args.plan.now.references.items = search rules in
    let objects = numbers_of c.in-List.items in
    let mid = c.add.new.self in
    let new : Plan _ _ = record mid { references = c.push_all.new.references } in
    let adds = with_references c.args.object objects c.args.plan.now mid new c.in_ok-number-in-List.number c.in_ok-number-in-List.ensures.adds refl refl refl c.in_ok-push_all-in-List.ensures in
    walked-list (octets_of c.args.input.now.file) c.args.object objects c.args.plan.now new c.walk_children.new.plan c.in_ok-number-in-List.number c.len-first.result at_end adds c.in_ok-walk_children-in-List.ensures.walked c.in-List.ensures.holds

pub walk_object-returns-in_ok-walk_children-in-Table-clause-walked : goal.walk_object-returns-in_ok-walk_children-in-Table-clause-walked
walk_object-returns-in_ok-walk_children-in-Table-clause-walked g t c =
    let f = octets_of c.args.input.now.file in
    let keys = numbers_of c.in-Table.keys in
    let values = numbers_of c.in-Table.values in
    let at_end : c.len-first-in-Table.result ≡ length c.args.plan.now.references.items = search rules in
    let within = table_within f c.args.object c.args.levels keys values c.in-Table.ensures.valid c.requires.spells c.in-Table.ensures.holds in
    let mid = c.add-in-Table.new.self in
    let new : Plan _ _ = record mid { references = c.push_sorted.new.references } in
    let adds = with_references c.args.object (sorted_references within.rows) c.args.plan.now mid new c.in_ok-number-in-Table.number c.in_ok-number-in-Table.ensures.adds refl refl refl (c.in_ok-push_sorted-in-Table.ensures.pushed within.rows within.pairs within.spell) in
    walked-table f c.args.object keys values within.rows within.pairs c.args.plan.now new c.walk_children-in-Table.new.plan c.in_ok-number-in-Table.number c.len-first-in-Table.result c.in-Table.ensures.valid within.spell at_end adds c.in_ok-walk_children-in-Table.ensures.walked c.in-Table.ensures.holds

pub walk_object-returns-in-Scalar-clause-knows : goal.walk_object-returns-in-Scalar-clause-knows
walk_object-returns-in-Scalar-clause-knows g t c =
    let f = octets_of c.args.input.now.file in
    on_ok_weaker c.scalar.result
    (λ keeps. record { scalars = keeps (unseen f c.args.object c.in-Scalar.scalar c.args.plan.now c.requires.knows.scalars c.requires.unseen c.in-Scalar.ensures.holds); ready = c.requires.knows.ready })
    c.scalar.ensures.knows

pub walk_children-loop-i-init : goal.walk_children-loop-i-init
walk_children-loop-i-init g t c = record {
  within = c.requires.first;
  done = [];
  filling = filling-start c.args.first c.args.plan.now.references.items c.requires.first;
  more = λ new numbers w. w;
  knows = c.requires.knows;
}

pub walk_children-walk-requires : goal.walk_children-walk-requires
walk_children-walk-requires g t c =
    let f = octets_of c.args.input.now.file in
    let start = c.args.plan.now.references.items in
    let now = c.loop-i.plan.references.items in
    let first = c.args.first in
    let i = c.loop-i.i in
    let left = length-drop first start in
    let below : i < length start = omega (arith, c.len-i-end.ensures, c.args.plan.now.references.ok.0) in
    let x = c.index-object.result.now in
    let object : c.index-object.result.now ≡ get_or now i c.index-object.result.now = search rules in
    let stands : get_or now i x ≡ get_or start i 0 = filling-object first i start now c.loop-i.invariant.done c.requires.first c.loop-i.invariant.filling x below in
    let far : first + (i - first) ≡ i = omega arith in
    let at : get_or (drop first start) (i - first) 0 ≡ get_or start i 0 = get_or-drop first start (i - first) 0 ∙ ap (λ k. get_or start k 0) far in
    let within = value_within f (drop first start) c.args.levels (i - first) c.requires.spell (omega arith) in
    λ κs lives. (omega (arith, c.decreases), (lives.0, (lives.1, (subst (λ (x : ℕ). SpellsWithin f x c.args.levels) (at ∙ sym stands ∙ sym object ∙ sym c.from.ensures) within, c.loop-i.invariant.knows))))

pub walk_children-index_mut-requires : goal.walk_children-index_mut-requires
walk_children-index_mut-requires g t c =
    let start = c.args.plan.now.references.items in
    let now = c.loop-i.plan.references.items in
    let i = c.loop-i.i in
    let below : i < length start = omega (arith, c.len-i-end.ensures, c.args.plan.now.references.ok.0) in
    let long = filling-long c.args.first i start now c.loop-i.invariant.done c.requires.first c.loop-i.invariant.filling in
    let grown = ap length c.in_ok-number.ensures.walked.references_added ∙ length-append now c.in_ok-number.ensures.walked.references in
    omega (arith, below, long, grown, c.walk.new.plan.references.ok.0)

pub walk_children-loop-i-preserved : goal.walk_children-loop-i-preserved
walk_children-loop-i-preserved g t c =
    let f = octets_of c.args.input.now.file in
    let start = c.args.plan.now.references.items in
    let now = c.loop-i.plan.references.items in
    let first = c.args.first in
    let i = c.loop-i.i in
    let n = c.in_ok-number.number in
    let done = c.loop-i.invariant.done in
    let filling = c.loop-i.invariant.filling in
    let mid = c.walk.new.plan in
    let one = c.in_ok-number.ensures.walked in
    let below : i < length start = omega (arith, c.len-i-end.ensures, c.args.plan.now.references.ok.0) in
    let x = c.index-object.result.now in
    let object : c.index-object.result.now ≡ get_or now i c.index-object.result.now = search rules in
    let stands = filling-object first i start now done c.requires.first filling x below in
    let long = filling-long first i start now done c.requires.first filling in
    record {
      within = omega (arith, below);
      done = done ++ (n ∷ []);
      filling = filling-next first i start now done c.requires.first filling mid.references.items one.references n below one.references_added;
      more = λ new numbers w.
          let all = c.loop-i.invariant.more new (n ∷ numbers) (walked-next f start i c.from.result c.loop-i.plan mid _ new n numbers below (c.from.ensures ∙ object ∙ stands) long one refl (drop-set-lt (length start) mid.references.items i n below) w) in
          subst (λ (ns : List ℕ). ItemsWalked f (length start) (drop first start) c.args.plan.now new ns) (sym (append_assoc done (n ∷ []) numbers)) all;
      knows = record { scalars = knows-same f mid _ refl refl refl c.in_ok-number.ensures.knows.scalars; ready = c.in_ok-number.ensures.knows.ready };
    }

pub walk_children-returns-clause-walked : goal.walk_children-returns-clause-walked
walk_children-returns-clause-walked g t c =
    let f = octets_of c.args.input.now.file in
    let start = c.args.plan.now.references.items in
    let first = c.args.first in
    let i = c.loop-i.i in
    let plan = c.loop-i.plan in
    let done = c.loop-i.invariant.done in
    let filling = c.loop-i.invariant.filling in
    let past : length start ≤ i = omega (arith, c.len-i-end.ensures, c.args.plan.now.references.ok.0) in
    let whole = c.loop-i.invariant.more plan [] (walked-none f start i plan past) in
    let left = length-drop first start in
    let as_many = filling.as_many in
    let within = c.loop-i.invariant.within in
    record {
      numbers = done;
      behind = filling.behind;
      walked = subst (λ (ns : List ℕ). ItemsWalked f (length start) (drop first start) c.args.plan.now plan ns) (append-nil done) whole;
      as_many = omega (arith, left, as_many, within, past);
      filled = filling-end first i start plan.references.items done c.requires.first filling past;
    }
