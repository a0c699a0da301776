use Rattle.std.proofs.Common.{◌≡◌, [], ◌∷◌, ◌++◌, nat_cmp, refl, sym, ap, ◌∙◌, subst, append_assoc, arith}
use Rattle.std.specs.Cmp.Lexicographic.{slice_cmp}
use Rattle.std.specs.List.Sorted.{IsStrictlySortedBy}
use Rattle.std.specs.Map.{keys_of}
use Rattle.plist_value.specs.View.{view_pairs, view}
use Rattle.plist_value.proofs.Pairs.{Entry, view_pairs-insert_entry, put_last}
use Rattle.std.proofs.lemmas.Grind.{common_steps}
use Rattle.plist_value.proofs.Shown.{view-list, view-table}
use Rattle.plist_value.specs.Plist.{list, table}
use Rattle.plist_value.proofs.copies.+copy.Goals as goal

pub copy_pairs-loop-key-preserved : goal.copy_pairs-loop-key-preserved
copy_pairs-loop-key-preserved t c =
    let l = c.loop-key in
    let done = l.invariant.0 in
    let e : Entry = (c.in-Some.key.now, c.in-Some.value.now) in
    let left = c.next.new.self in
    let all : c.args.pairs.now.entries ≡ done ++ e ∷ left = l.invariant.1 ∙ ap (λ es. done ++ es) c.in-Some.ensures.steps in
    let last = put_last done e left (subst (λ es. IsStrictlySortedBy (slice_cmp nat_cmp) (keys_of es)) all c.iter-key-items.ensures.ordered) in
    let key : c.in_ok-key.key ≡ e.0 = c.in_ok-key.ensures in (
      done ++ e ∷ [],
      all ∙ sym (append_assoc done (e ∷ []) left),
      ap view_pairs c.in_ok-insert.ensures.entries ∙ view_pairs-insert_entry l.copies.entries c.in_ok-key.key c.in_ok-copy.field-0 ∙ rw (key, c.in_ok-copy.ensures, l.invariant.2) last,
    )

pub copy-returns-in-Moment : goal.copy-returns-in-Moment
copy-returns-in-Moment t c = rw c.in-Moment.is refl

pub copy-returns-in_ok-copy-in-Text : goal.copy-returns-in_ok-copy-in-Text
copy-returns-in_ok-copy-in-Text t c = grind (arith, common_steps)

pub copy-returns-in-Whole : goal.copy-returns-in-Whole
copy-returns-in-Whole t c = grind (arith, common_steps)

pub copy-returns-in-Flag : goal.copy-returns-in-Flag
copy-returns-in-Flag t c = grind (arith, common_steps)

pub copy-returns-in-Real4 : goal.copy-returns-in-Real4
copy-returns-in-Real4 t c = grind (arith, common_steps)

pub copy-returns-in-Real8 : goal.copy-returns-in-Real8
copy-returns-in-Real8 t c = grind (arith, common_steps)

pub copy-returns-in_ok-copy_items-in-List : goal.copy-returns-in_ok-copy_items-in-List
copy-returns-in_ok-copy_items-in-List t c = view-list c.in_ok-copy_items-in-List.field-0 ∙ ap list c.in_ok-copy_items-in-List.ensures ∙ sym (ap view c.in-List.is ∙ view-list c.in-List.items)

pub copy-returns-in_ok-copy_pairs-in-Table : goal.copy-returns-in_ok-copy_pairs-in-Table
copy-returns-in_ok-copy_pairs-in-Table t c = view-table c.in_ok-copy_pairs-in-Table.field-0 ∙ ap table c.in_ok-copy_pairs-in-Table.ensures ∙ sym (ap view c.in-Table.is ∙ view-table c.in-Table.pairs)

pub copy_items-loop-item-preserved : goal.copy_items-loop-item-preserved
copy_items-loop-item-preserved t c = grind (arith, common_steps)

pub copy_items-returns : goal.copy_items-returns
copy_items-returns t c = grind (arith, common_steps)
