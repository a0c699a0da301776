-- Inserting an entry into a dictionary, and comparing two dictionaries.
use Rattle.std.proofs.Common.{◌≡◌, ℕ, List, [], ◌∷◌, ◌++◌, length, Ordering, Less, Greater, nat_cmp, refl, ap, suc, ◌∙◌}
use Rattle.std.proofs.lemmas.Cmp.{nat_list_cmp_total}
use Rattle.std.specs.BTreeMap.{insert_entry}
use Rattle.std.specs.Cmp.Lexicographic.{slice_cmp}
use Rattle.std.specs.List.{AllByRecursion}
use Rattle.std.specs.List.Sorted.{IsStrictlySortedBy}
use Rattle.std.specs.Map.{keys_of}
use Rattle.std.specs.Ordering.{match_ordering, ordering_reverse}
use Rattle.plist_value.specs.declared.value.Value.{Value}
use Rattle.plist_value.specs.Plist.{Plist, Pairs, no_pairs, pair}
use Rattle.plist_value.specs.View.{view, view_items, view_pairs}

abbrev pub Entry : Type 0
Entry = List ℕ × Value

-- inserts an entry among sorted entries, or replaces the one with its key
abbrev pub put_pair : List ℕ → Plist → Pairs → Pairs
put_pair key v no_pairs = pair key v no_pairs
put_pair key v (pair next w ps) = match_ordering (slice_cmp nat_cmp key next) (pair key v (pair next w ps)) (pair next v ps) (pair next w (put_pair key v ps))

view_pairs-match_ordering : (o : Ordering) (a b c : List Entry) → view_pairs (match_ordering o a b c) ≡ match_ordering o (view_pairs a) (view_pairs b) (view_pairs c)
view_pairs-match_ordering Less a b c = refl
view_pairs-match_ordering _ a b c = refl

pub view_pairs-insert_entry : (es : List Entry) (key : List ℕ) (v : Value) → view_pairs (insert_entry (slice_cmp nat_cmp) es key v) ≡ put_pair key (view v) (view_pairs es)
view_pairs-insert_entry [] key v = refl
view_pairs-insert_entry (e ∷ es) key v = view_pairs-match_ordering (slice_cmp nat_cmp key e.0) _ _ _ ∙ rw (view_pairs-insert_entry es key v)

below_middle : (first : Entry) (es : List Entry) (e : Entry) (more : List Entry) → AllByRecursion (λ y. slice_cmp nat_cmp first.0 y ≡ Less) (keys_of (es ++ e ∷ more)) → slice_cmp nat_cmp first.0 e.0 ≡ Less
below_middle first [] e more h = h.0
below_middle first (x ∷ es) e more h = below_middle first es e more h.1

-- a key above all those before it is inserted last
pub put_last : (done : List Entry) (e : Entry) (more : List Entry) → IsStrictlySortedBy (slice_cmp nat_cmp) (keys_of (done ++ e ∷ more)) → put_pair e.0 (view e.1) (view_pairs done) ≡ view_pairs (done ++ e ∷ [])
unfolding IsStrictlySortedBy
put_last [] e more h = refl
put_last (first ∷ done) e more h =
    let above : slice_cmp nat_cmp e.0 first.0 ≡ Greater =
    nat_list_cmp_total.antisymm e.0 first.0 ∙ ap ordering_reverse (below_middle first done e more h.0) in
    rw above (ap (pair first.0 (view first.1)) (put_last done e more h.1))

pub view_items-long : (xs ys : List Value) → view_items xs ≡ view_items ys → length xs ≡ length ys
view_items-long [] [] e = refl
view_items-long (x ∷ xs) (y ∷ ys) e = let rest : view_items xs ≡ view_items ys = cc in ap suc (view_items-long xs ys rest)
view_items-long _ _ e = cc
