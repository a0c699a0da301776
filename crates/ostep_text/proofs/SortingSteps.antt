-- Inserting one more row into the sorted rows.
use Rattle.std.proofs.Common.{◌≡◌, ℕ, ◌+◌, ◌*◌, ◌≤◌, Bool, true, false, List, length, Ordering, Less, Equal, Greater, nat_cmp, refl, sym, ap, subst, ◌∙◌, arith}
use Rattle.std.specs.Prelude.{nat_eq, ◌||◌}
use Rattle.std.specs.Cmp.Lexicographic.{slice_cmp, pointwise, bytes_decides}
use Rattle.std.specs.Ordering.{match_ordering, ordering_reverse}
use Rattle.std.proofs.lemmas.Cmp.{nat_list_cmp_total}
use Rattle.std.proofs.lemmas.Map.Lookups.{exact_bytes}
use Rattle.plist_value.specs.Plist.{Plist, Pairs, no_pairs, pair, IsPlist, ArePairs, AreUnits, IsKeyBelow}
use Rattle.plist_value.specs.Limits.{nodes, depth, payload, nodes_of_pairs, depth_of_pairs, payload_of_pairs}
use Rattle.plist_value.proofs.Pairs.{put_pair}
use Rattle.ostep_text.specs.Sorting.{has_key, StandsAmong, first, later, AreReordered, none, row, IsAscending}
use Rattle.ostep_text.proofs.PhraseSteps.{push_row, has_key-head, has_key-tail}
use Rattle.ostep_text.proofs.SizeLemmas.{among-nodes, among-depth, among-payload}

-- two rows among others, in exchanged order
pub record Exchanged (key : List ℕ) (v : Plist) (k : List ℕ) (w : Plist) (others all : Pairs) : Type 0 where
  pub middle : Pairs
  pub outer : StandsAmong key v others middle
  pub inner : StandsAmong k w middle all

pub exchange : {key k : List ℕ} {v w : Plist} {others ps all : Pairs} → StandsAmong k w others ps → StandsAmong key v ps all → Exchanged key v k w others all
exchange {key} {v = v} {others = others} t first = record { middle = pair key v others; outer = first; inner = later t }
exchange first (later {all = all} s) = record { middle = all; outer = s; inner = first }
exchange (later {next = n} {w = u} t) (later s) =
    let e = exchange t s in
    record { middle = pair n u e.middle; outer = later e.outer; inner = later e.inner }

pub as-they-are : (ps : Pairs) → AreReordered ps ps
as-they-are no_pairs = none
as-they-are (pair key v ps) = row (as-they-are ps) first

pub reordered-more : {rows ps all : Pairs} {key : List ℕ} {v : Plist} → AreReordered rows ps → StandsAmong key v ps all → AreReordered (push_row rows key v) all
reordered-more none s = row none s
reordered-more (row r t) s = let e = exchange t s in row (reordered-more r e.outer) e.inner

pub put-at : (o : Ordering) (key next : List ℕ) (v w : Plist) (ps : Pairs) → slice_cmp nat_cmp key next ≡ o
    → put_pair key v (pair next w ps) ≡ match_ordering o (pair key v (pair next w ps)) (pair next v ps) (pair next w (put_pair key v ps))
put-at o key next v w ps e = ap (λ (x : Ordering). match_ordering x (pair key v (pair next w ps)) (pair next v ps) (pair next w (put_pair key v ps))) e

-- a new row comes before the first one or after it
put-by : (P : Pairs → Type 0) (key next : List ℕ) (v w : Plist) (ps : Pairs) (o : Ordering) → slice_cmp nat_cmp key next ≡ o → pointwise nat_eq key next ≡ false
    → (slice_cmp nat_cmp key next ≡ Less → P (pair key v (pair next w ps))) → (slice_cmp nat_cmp next key ≡ Less → P (pair next w (put_pair key v ps))) → P (put_pair key v (pair next w ps))
put-by P key next v w ps Less e d before behind = subst P (sym (put-at Less key next v w ps e)) (before e)
put-by P key next v w ps Greater e d before behind = subst P (sym (put-at Greater key next v w ps e)) (behind (nat_list_cmp_total.antisymm next key ∙ ap ordering_reverse e))
put-by P key next v w ps Equal e d before behind = absurd (let same : pointwise nat_eq key next ≡ true = (bytes_decides key next).1 (exact_bytes key next e) in cc (same, d))

put-either : (P : Pairs → Type 0) (key next : List ℕ) (v w : Plist) (ps : Pairs) → has_key key (pair next w ps) ≡ false → (slice_cmp nat_cmp key next ≡ Less → P (pair key v (pair next w ps)))
    → (slice_cmp nat_cmp next key ≡ Less → P (pair next w (put_pair key v ps))) → P (put_pair key v (pair next w ps))
put-either P key next v w ps d = put-by P key next v w ps (slice_cmp nat_cmp key next) refl (has_key-head key next w ps d)

pub put-stands : (key : List ℕ) (v : Plist) (ps : Pairs) → has_key key ps ≡ false → StandsAmong key v ps (put_pair key v ps)
put-stands key v no_pairs d = first
put-stands key v (pair next w ps) d =
    put-either (λ x. StandsAmong key v (pair next w ps) x) key next v w ps d (λ e. first) (λ f. later (put-stands key v ps (has_key-tail key next w ps d)))

-- a key that is below the pairs and below the new key
below-put : (low key : List ℕ) (v : Plist) (ps : Pairs) → slice_cmp nat_cmp low key ≡ Less → IsKeyBelow low ps → has_key key ps ≡ false → IsKeyBelow low (put_pair key v ps)
below-put low key v no_pairs b h d = b
below-put low key v (pair next w ps) b h d = put-either (λ x. IsKeyBelow low x) key next v w ps d (λ e. b) (λ f. h)

pub put-pairs : (key : List ℕ) (v : Plist) (ps : Pairs) → AreUnits key → IsPlist v → ArePairs ps → has_key key ps ≡ false → ArePairs (put_pair key v ps)
put-pairs key v no_pairs u i a d = (u, i, tt, tt)
put-pairs key v (pair next w ps) u i a d =
    let others = has_key-tail key next w ps d in
    put-either (λ x. ArePairs x) key next v w ps d (λ e. (u, i, e, a)) (λ f. (a.0, a.1, below-put next key v ps f (a.2) others, put-pairs key v ps u i (a.3) others))

pub pairs-ascend : (ps : Pairs) → ArePairs ps → IsAscending ps
pairs-ascend no_pairs a = tt
pairs-ascend (pair key v ps) a = (a.2, pairs-ascend ps (a.3))

pub put-nodes : (key : List ℕ) (v : Plist) (ps : Pairs) → has_key key ps ≡ false → nodes_of_pairs (put_pair key v ps) ≡ nodes_of_pairs ps + (1 + nodes v)
put-nodes key v ps d = omega (arith, among-nodes (put-stands key v ps d))

pub put-payload : (key : List ℕ) (v : Plist) (ps : Pairs) → has_key key ps ≡ false → payload_of_pairs (put_pair key v ps) ≡ payload_of_pairs ps + (2 * length key + payload v)
put-payload key v ps d = omega (arith, among-payload (put-stands key v ps d))

pub put-depth : (key : List ℕ) (v : Plist) (ps : Pairs) (levels : ℕ) → has_key key ps ≡ false → 1 ≤ levels → depth v ≤ levels → depth_of_pairs ps ≤ levels → depth_of_pairs (put_pair key v ps) ≤ levels
put-depth key v ps levels d one deep all = omega (arith, among-depth (put-stands key v ps d))

pub or-swap : (b c d : Bool) → (b || (c || d)) ≡ (c || (b || d))
or-swap true true d = refl
or-swap _ _ d = refl

pub among_has : {k : List ℕ} {v : Plist} {others all : Pairs} (key : List ℕ) → StandsAmong k v others all → has_key key all ≡ (pointwise nat_eq key k || has_key key others)
among_has key first = refl
among_has {k} key (later {next = next} {others = others} s) =
    ap (λ b. pointwise nat_eq key next || b) (among_has key s) ∙ or-swap (pointwise nat_eq key next) (pointwise nat_eq key k) (has_key key others)

pub reordered-has : {rows ps : Pairs} (key : List ℕ) → AreReordered rows ps → has_key key rows ≡ has_key key ps
reordered-has key none = refl
reordered-has key (row {key = k} {rows = rows} {others = others} {all = all} r s) = ap (λ b. pointwise nat_eq key k || b) (reordered-has key r) ∙ sym (among_has key s)

pub put-ascends : (key : List ℕ) (v : Plist) (ps : Pairs) → IsAscending ps → has_key key ps ≡ false → IsAscending (put_pair key v ps)
put-ascends key v no_pairs a d = (tt, tt)
put-ascends key v (pair next w ps) a d =
    let others = has_key-tail key next w ps d in
    put-either (λ x. IsAscending x) key next v w ps d (λ e. (e, a)) (λ f. (below-put next key v ps f (a.0) others, put-ascends key v ps (a.1) others))
