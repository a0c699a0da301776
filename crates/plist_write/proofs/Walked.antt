-- The whole is walked when its parts are.
use Rattle.std.proofs.Common.{◌≡◌, ℕ, ◌+◌, ◌<◌, ◌≤◌, List, [], ◌∷◌, ◌++◌, length, get_or, drop, take, sym, ap, subst, ◌∙◌}
use Rattle.std.proofs.lemmas.List.{drop_more, drop_all, drop_at, take_at, append-nil}
use Rattle.plist_value.specs.Plist.{Scalar, scalar, list, table, Items, no_items, item, Pairs, IsScalar}
use Rattle.plist_object.specs.Objects.{holds_list, holds_table}
use Rattle.plist_object.specs.Places.{Holds}
use Rattle.plist_object.specs.Spelled.{SpellItems}
use Rattle.plist_object.proofs.Uniqueness.{same_items}
use Rattle.plist_write.specs.Tree.{preorder}
use Rattle.plist_write.specs.declared.plan.Plan.{Plan}
use Rattle.plist_write.specs.Spelling.{SpellTable, sorted_references}
use Rattle.plist_write.specs.Plan.{WalksItems, AddsObject, IsUnseen, NumbersScalar, IsWalked, ItemsWalked, AreWalked}
use Rattle.plist_write.proofs.Walking.{Walks-none, Walks-item, Walks-lift}
use Rattle.plist_write.proofs.Containers.{Filled, Walks-list, Walks-table}
use Rattle.plist_write.proofs.Flat.{flat, spell-flat, valid-flat, length-keys}

pub walked-scalar : {S H : Type 0} → (f : List ℕ) (i : ℕ) (s : Scalar) (old new : Plan S H) (number : ℕ) → IsUnseen f i s old → IsScalar s → NumbersScalar f i s old new number → IsWalked f i old new number
walked-scalar f i s old new number unseen valid numbers = record {
  value = scalar s;
  valid = valid;
  spells = unseen.holds;
  walks = numbers.walks unseen;
  references = [];
  references_added = numbers.references_kept ∙ sym (append-nil _);
}

module _ {S H : Type 0} (f : List ℕ) (i : ℕ) (objects : List ℕ) (old mid done : Plan S H) (number first : ℕ) (at_end : first ≡ length old.references.items) (begins : AddsObject i objects old mid number) (walked : AreWalked f first mid done) where
  pub objects-begun : drop first mid.references.items ≡ objects
  objects-begun =
      ap (drop first) begins.references_added ∙ drop_at old.references.items objects first (sym at_end)

  pub filled : Filled objects walked.numbers walked.behind old done
  filled = record {
    as_many = walked.as_many ∙ ap length objects-begun;
    filled = walked.filled ∙ ap (λ front. front ++ (walked.numbers ++ walked.behind)) (ap (take first) begins.references_added ∙ take_at old.references.items objects first (sym at_end));
  }

  pub walked-list : Holds f i (holds_list objects) → IsWalked f i old done number
  walked-list holds =
      let children = walked.walked in
      record {
        value = list children.items;
        valid = children.valid;
        spells = (objects, (holds, subst (λ (refs : List ℕ). SpellItems f refs children.items) objects-begun children.spell));
        walks = Walks-list f children.items i objects walked.numbers walked.behind old mid done number holds begins filled children.walks;
        references = walked.numbers ++ walked.behind;
        references_added = filled.filled;
      }

pub walked-table : {S H : Type 0} → (f : List ℕ) (i : ℕ) (keys values : List ℕ) (rows : List (ℕ × ℕ)) (ps : Pairs) (old mid done : Plan S H) (number first : ℕ) → length keys ≡ length values → SpellTable f keys values rows ps → first ≡ length old.references.items → AddsObject i (sorted_references rows) old mid number → AreWalked f first mid done → Holds f i (holds_table keys values) → IsWalked f i old done number
walked-table f i keys values rows ps old mid done number first as_many spell at_end begins walked holds =
    let objects = sorted_references rows in
    let children = walked.walked in
    let begun = objects-begun f i objects old mid done number first at_end begins walked in
    let fill = filled f i objects old mid done number first at_end begins walked in
    let same : children.items ≡ flat ps = same_items f objects children.items (flat ps) children.valid (valid-flat ps spell.valid) (subst (λ (refs : List ℕ). SpellItems f refs children.items) begun children.spell) (spell-flat f rows ps spell.spell) in
    record {
      value = table ps;
      valid = spell.valid;
      spells = (keys, (values, (rows, (holds, (spell.moved, spell.spell)))));
      walks = Walks-table f ps i keys values objects walked.numbers walked.behind old mid done number holds (length-keys f keys values rows ps as_many spell.moved spell.spell) begins fill (subst (λ (vs : Items). WalksItems f (length mid.references.items) vs mid done walked.numbers) same children.walks);
      references = walked.numbers ++ walked.behind;
      references_added = fill.filled;
    }

-- one more value is walked
pub walked-next : {S H : Type 0} → (f start : List ℕ) (i x : ℕ) (plan mid next new : Plan S H) (n : ℕ) (numbers : List ℕ) → i < length start → x ≡ get_or start i 0 → length start ≤ length plan.references.items → IsWalked f x plan mid n → next.originals ≡ mid.originals → drop (length start) next.references.items ≡ drop (length start) mid.references.items → ItemsWalked f (length start) (drop (i + 1) start) next new numbers → ItemsWalked f (length start) (drop i start) plan new (n ∷ numbers)
walked-next f start i x plan mid next new n numbers h is within one same_originals same_references rest =
    let v = one.value in
    let split : drop i start ≡ x ∷ drop (i + 1) start = drop_more start i 0 h ∙ ap (λ y. y ∷ drop (i + 1) start) (sym is) in
    record {
      items = item v rest.items;
      valid = (one.valid, rest.valid);
      spell = subst (λ (refs : List ℕ). SpellItems f refs (item v rest.items)) (sym split) (one.spells, rest.spell);
      walks = Walks-item f (length start) v rest.items plan next new n numbers (Walks-lift f (length start) (preorder v) (λ k. k ∷ []) plan mid next (n ∷ []) one.walks within same_originals same_references) rest.walks;
    }

pub walked-none : {S H : Type 0} → (f start : List ℕ) (i : ℕ) (plan : Plan S H) → length start ≤ i → ItemsWalked f (length start) (drop i start) plan plan []
walked-none f start i plan past = record {
  items = no_items;
  valid = tt;
  spell = drop_all i start past;
  walks = Walks-none f (length start) plan;
}
