-- Rows are sorted by their keys in at most one way.
use Rattle.std.proofs.Common.{◌≡◌, ℕ, false, List, Less, Greater, nat_cmp, refl, sym, subst, ap, ◌∙◌}
use Rattle.std.proofs.lemmas.Cmp.{nat_list_cmp_total}
use Rattle.std.specs.Cmp.Lexicographic.{slice_cmp, pointwise, bytes_decides}
use Rattle.std.specs.Ordering.{ordering_reverse}
use Rattle.std.specs.Prelude.{nat_eq}
use Rattle.plist_value.specs.Plist.{Plist, Pairs, no_pairs, pair, IsKeyBelow}
use Rattle.ostep_text.specs.Sorting.{StandsAmong, first, later, AreReordered, none, row, IsAscending, AreSorted, has_key}
use Rattle.std.proofs.lemmas.Bool.{false_from_ne_true}
use Rattle.plist_value.proofs.Keys.{below_next}

-- a key below the first of ascending keys is below each of them
pub below_each : {key : List ℕ} {v : Plist} {others all : Pairs} → StandsAmong key v others all → (low : List ℕ) → IsKeyBelow low all → IsAscending all
    → slice_cmp nat_cmp low key ≡ Less
below_each first low b h = b
below_each {key} (later {next = next} s) low b h = nat_list_cmp_total.trans low next key b (below_each s next h.0 h.1)

below_others : {key : List ℕ} {v : Plist} {others all : Pairs} → StandsAmong key v others all → (low : List ℕ) → IsKeyBelow low all → IsAscending all
    → IsKeyBelow low others
below_others {key} {others = others} first low b h = below_next low key others b h.0
below_others (later s) low b h = b

-- ascending pairs still ascend without one of them
others_ascend : {key : List ℕ} {v : Plist} {others all : Pairs} → StandsAmong key v others all → IsAscending all → IsAscending others
others_ascend first h = h.1
others_ascend (later {next = next} s) h = (below_others s next h.0 h.1, others_ascend s h.1)

not_both : (low high : List ℕ) → slice_cmp nat_cmp low high ≡ Less → slice_cmp nat_cmp high low ≡ Less → ⊥
not_both low high b h =
    let e : Less ≡ Greater = sym h ∙ (nat_list_cmp_total.antisymm high low ∙ ap ordering_reverse b) in cc e

-- a pair has only one place among ascending pairs
one_place : {key : List ℕ} {v : Plist} {others ps qs : Pairs} → StandsAmong key v others ps → StandsAmong key v others qs → IsAscending ps → IsAscending qs
    → ps ≡ qs
one_place first first h k = refl
one_place {key} first (later {next = next} s) h k = absurd (not_both key next h.0 (below_each s next k.0 k.1))
one_place {key} (later {next = next} s) first h k = absurd (not_both key next k.0 (below_each s next h.0 h.1))
one_place (later {next = next} {w = w} s) (later t) h k = ap (pair next w) (one_place s t h.1 k.1)

reordered-same : {rows ps qs : Pairs} → AreReordered rows ps → AreReordered rows qs → IsAscending ps → IsAscending qs → ps ≡ qs
reordered-same none none h k = refl
reordered-same (row {key = key} {v = v} {all = ps} r s) (row t u) h k =
    let e = reordered-same r t (others_ascend s h) (others_ascend u k) in
    one_place (subst (λ x. StandsAmong key v x ps) e s) u h k

pub AreSorted-same : {rows ps qs : Pairs} → AreSorted rows ps → AreSorted rows qs → ps ≡ qs
AreSorted-same s t = reordered-same s.same t.same s.ascending t.ascending

other_key : (key next : List ℕ) → slice_cmp nat_cmp key next ≡ Less → pointwise nat_eq key next ≡ false
other_key key next b =
    false_from_ne_true (pointwise nat_eq key next) (λ e. let same : next ≡ key = sym ((bytes_decides key next).0 e) in
    let below : slice_cmp nat_cmp key key ≡ Less = subst (λ x. slice_cmp nat_cmp key x ≡ Less) same b in not_both key key below below)

-- a key below ascending pairs is not among their keys
pub low_key : (key : List ℕ) (ps : Pairs) → IsKeyBelow key ps → IsAscending ps → has_key key ps ≡ false
low_key key no_pairs b h = refl
low_key key (pair next v ps) b h = rw (other_key key next b) (low_key key ps (below_next key next ps b h.0) h.1)
