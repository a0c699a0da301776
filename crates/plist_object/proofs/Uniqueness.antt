-- An object encodes at most one value.
use Rattle.std.proofs.Common.{◌≡◌, ℕ, List, [], ◌∷◌, refl, sym, ap, subst}
use Rattle.std.specs.declared.cmp.Ordering.{Ordering}
use Rattle.std.specs.declared.cmp.Ordering.TheVariants.{Less}
use Rattle.std.specs.Ordering.{nat_cmp, on}
use Rattle.std.specs.Cmp.{IsTotalOrder}
use Rattle.std.specs.Cmp.Lexicographic.{slice_cmp}
use Rattle.std.specs.List.{AllByRecursion, zip}
use Rattle.std.specs.List.Sorted.{IsStrictlySortedBy, IsPermutation}
use Rattle.std.proofs.lemmas.Cmp.{nat_list_cmp_total, on_total}
use Rattle.plist_value.specs.Plist.{text, Plist, scalar, list, table, Items, no_items, item, Pairs, no_pairs, pair, IsPlist, AreItems, ArePairs, IsKeyBelow}
use Rattle.plist_object.specs.Objects.{Content, holds_scalar, holds_list, holds_table}
use Rattle.plist_object.specs.Places.{units_in}
use Rattle.plist_object.specs.Places.{Holds, what_holds}
use Rattle.plist_object.specs.Spelled.{Spells, SpellItems, SpellPairs}
use Rattle.plist_object.proofs.Ascending.{same_order}
use Rattle.plist_value.proofs.Keys.{below_next}

pub same_held : (f : List ℕ) (i : ℕ) (a b : Content) → Holds f i a → Holds f i b → a ≡ b
same_held f i a b holds_a holds_b = cc (holds_a.reads, holds_b.reads)

-- the units of the key that a row refers to
unfoldable pub key_of : List ℕ → (ℕ × ℕ) → List ℕ
key_of f row = units_in (what_holds f row.0)

pub key_of-held : (f : List ℕ) (row : ℕ × ℕ) (key : List ℕ) → Holds f row.0 (holds_scalar (text key)) → key_of f row ≡ key
unfolding key_of what_holds
key_of-held f row key holds = rw holds.reads refl

unfoldable pub by_key : List ℕ → (ℕ × ℕ) → (ℕ × ℕ) → Ordering
by_key f = on (key_of f) (slice_cmp nat_cmp)

pub by_key_total : (f : List ℕ) → IsTotalOrder (by_key f)
unfolding by_key
by_key_total f = on_total (key_of f) nat_list_cmp_total

-- a key below the first of the pairs is below the key of each row
rows_above : (f key : List ℕ) (rows : List (ℕ × ℕ)) (ps : Pairs) → SpellPairs f rows ps → ArePairs ps → IsKeyBelow key ps → AllByRecursion (λ row. slice_cmp nat_cmp key (key_of f row) ≡ Less) rows
rows_above f key [] ps spells valid below = tt
rows_above f key (row ∷ rows) no_pairs spells valid below =
    absurd (let none : row ∷ rows ≡ [] = spells in cc)
rows_above f key (row ∷ rows) (pair next v ps) spells valid below = (
  subst (λ (us : List ℕ). slice_cmp nat_cmp key us ≡ Less) (sym (key_of-held f row next spells.0)) below,
  rows_above f key rows ps spells.2 valid.3 (below_next key next ps below valid.2),
)

-- rows that encode the pairs of a dictionary ascend
pub rows_ascend : (f : List ℕ) (rows : List (ℕ × ℕ)) (ps : Pairs) → SpellPairs f rows ps → ArePairs ps → IsStrictlySortedBy (by_key f) rows
unfolding IsStrictlySortedBy by_key
rows_ascend f [] ps spells valid = tt
rows_ascend f (row ∷ rows) no_pairs spells valid = absurd (let none : row ∷ rows ≡ [] = spells in cc)
rows_ascend f (row ∷ rows) (pair key v ps) spells valid = (
  subst (λ (us : List ℕ). AllByRecursion (λ (r : ℕ × ℕ). slice_cmp nat_cmp us (key_of f r) ≡ Less) rows) (sym (key_of-held f row key spells.0)) (rows_above f key rows ps spells.2 valid.3 valid.2),
  rows_ascend f rows ps spells.2 valid.3,
)

-- two orders of a dictionary's rows that encode pairs of dictionaries are equal
pub same_rows : (f : List ℕ) (held rows others : List (ℕ × ℕ)) (ps qs : Pairs) → IsPermutation held rows → IsPermutation held others → SpellPairs f rows ps → SpellPairs f others qs → ArePairs ps → ArePairs qs → rows ≡ others
same_rows f held rows others ps qs to_rows to_others spells_ps spells_qs valid_ps valid_qs =
    same_order (by_key_total f) held rows others to_rows to_others (rows_ascend f rows ps spells_ps valid_ps) (rows_ascend f others qs spells_qs valid_qs)

mutual
  pub same_value : (f : List ℕ) (i : ℕ) (v w : Plist) → IsPlist v → IsPlist w → Spells f i v → Spells f i w → v ≡ w
  same_value f i (scalar s) (scalar t) valid_v valid_w a b =
      let held = same_held f i (holds_scalar s) (holds_scalar t) a b in cc
  same_value f i (scalar s) (list ws) valid_v valid_w a b =
      absurd (let held = same_held f i (holds_scalar s) (holds_list b.0) a b.1.0 in cc)
  same_value f i (scalar s) (table qs) valid_v valid_w a b =
      absurd (let held = same_held f i (holds_scalar s) (holds_table b.0 b.1.0) a b.1.1.1.0 in cc)
  same_value f i (list vs) (scalar t) valid_v valid_w a b =
      absurd (let held = same_held f i (holds_list a.0) (holds_scalar t) a.1.0 b in cc)
  same_value f i (list vs) (list ws) valid_v valid_w a b =
      let held = same_held f i (holds_list a.0) (holds_list b.0) a.1.0 b.1.0 in
      let refs : b.0 ≡ a.0 = cc in
      ap list (same_items f a.0 vs ws valid_v valid_w a.1.1 (subst (λ (refs : List ℕ). SpellItems f refs ws) refs b.1.1))
  same_value f i (list vs) (table qs) valid_v valid_w a b =
      absurd (let held = same_held f i (holds_list a.0) (holds_table b.0 b.1.0) a.1.0 b.1.1.1.0 in cc)
  same_value f i (table ps) (scalar t) valid_v valid_w a b =
      absurd (let held = same_held f i (holds_table a.0 a.1.0) (holds_scalar t) a.1.1.1.0 b in cc)
  same_value f i (table ps) (list ws) valid_v valid_w a b =
      absurd (let held = same_held f i (holds_table a.0 a.1.0) (holds_list b.0) a.1.1.1.0 b.1.0 in cc)
  same_value f i (table ps) (table qs) valid_v valid_w a b =
      let held = same_held f i (holds_table a.0 a.1.0) (holds_table b.0 b.1.0) a.1.1.1.0 b.1.1.1.0 in
      let keys : b.0 ≡ a.0 = cc in
      let values : b.1.0 ≡ a.1.0 = cc in
      let zipped : zip b.0 b.1.0 ≡ zip a.0 a.1.0 = cc in
      let moved = subst (λ (held : List (ℕ × ℕ)). IsPermutation held b.1.1.0) zipped b.1.1.1.1.0 in
      let rows = same_rows f (zip a.0 a.1.0) a.1.1.0 b.1.1.0 ps qs a.1.1.1.1.0 moved a.1.1.1.1.1 b.1.1.1.1.1 valid_v valid_w in
      ap table (same_pairs f a.1.1.0 ps qs valid_v valid_w a.1.1.1.1.1 (subst (λ (rows : List (ℕ × ℕ)). SpellPairs f rows qs) (sym rows) b.1.1.1.1.1))

  pub same_items : (f refs : List ℕ) (vs ws : Items) → AreItems vs → AreItems ws → SpellItems f refs vs → SpellItems f refs ws → vs ≡ ws
  same_items f refs no_items no_items valid_v valid_w a b = refl
  same_items f [] no_items (item w ws) valid_v valid_w a b = absurd b
  same_items f (i ∷ refs) no_items (item w ws) valid_v valid_w a b =
      absurd (let none : i ∷ refs ≡ [] = a in cc)
  same_items f [] (item v vs) ws valid_v valid_w a b = absurd a
  same_items f (i ∷ refs) (item v vs) no_items valid_v valid_w a b =
      absurd (let none : i ∷ refs ≡ [] = b in cc)
  same_items f (i ∷ refs) (item v vs) (item w ws) valid_v valid_w a b =
      let first = same_value f i v w valid_v.0 valid_w.0 a.0 b.0 in
      let rest = same_items f refs vs ws valid_v.1 valid_w.1 a.1 b.1 in
      cc

  pub same_pairs : (f : List ℕ) (rows : List (ℕ × ℕ)) (ps qs : Pairs) → ArePairs ps → ArePairs qs → SpellPairs f rows ps → SpellPairs f rows qs → ps ≡ qs
  same_pairs f rows no_pairs no_pairs valid_p valid_q a b = refl
  same_pairs f [] no_pairs (pair key w qs) valid_p valid_q a b = absurd b
  same_pairs f (row ∷ rows) no_pairs (pair key w qs) valid_p valid_q a b =
      absurd (let none : row ∷ rows ≡ [] = a in cc)
  same_pairs f [] (pair key v ps) qs valid_p valid_q a b = absurd a
  same_pairs f (row ∷ rows) (pair key v ps) no_pairs valid_p valid_q a b =
      absurd (let none : row ∷ rows ≡ [] = b in cc)
  same_pairs f (row ∷ rows) (pair key v ps) (pair other w qs) valid_p valid_q a b =
      let held = same_held f row.0 (holds_scalar (text key)) (holds_scalar (text other)) a.0 b.0 in
      let first = same_value f row.1 v w valid_p.1 valid_q.1 a.1 b.1 in
      let rest = same_pairs f rows ps qs valid_p.3 valid_q.3 a.2 b.2 in
      cc
