-- Counting keys and what is read of them.
use Rattle.std.proofs.Common.{◌≡◌, ℕ, zero, suc, ◌+◌, ◌<◌, ◌≤◌, Bool, true, false, List, [], ◌∷◌, length, Option, Some, None, Ok, refl, sym, ap, subst, ◌∙◌, inl, inr, arith, add-zero, zero-add, slice_index_or, slice_set, replicate, take, ◌++◌}
use Rattle.std.specs.Prelude.{IfNone, IfSome, MatchOption, ◌≢◌}
use Rattle.std.specs.List.{Contains}
use Rattle.std.specs.Option.{is_none}
use Rattle.std.proofs.Math.Seq.{take-nil}
use Rattle.std.proofs.lemmas.Bool.{true≢false}
use Rattle.std.proofs.lemmas.Bool.Decides.{eqb_tells}
use Rattle.std.proofs.lemmas.List.{get_or-set_other}
use Rattle.std.proofs.lemmas.List.Elements.{Contains-get_or}
use Rattle.plist_object.specs.Objects.{holds_table}
use Rattle.plist_object.specs.Places.{what_holds}
use Rattle.plist_keys.specs.Overlap.{AreKeysMarked, FitSoFar, IsKey, KeysOverlap, keys_before, keys_in, length_at, marked_length}

-- the keys of the dictionaries before object i were counted, and the marked objects read
abbrev pub Counted : List ℕ → ℕ → Option ℕ → ℕ → List Bool → Type 0
Counted f i room named seen = MatchOption room (KeysOverlap f) (λ room. FitSoFar f i room named seen)

-- so they are if the next object has no more keys
pub Counted-later : (f : List ℕ) (i : ℕ) (room : Option ℕ) (named : ℕ) (seen : List Bool) → Counted f i room named seen → Counted f (suc i) room named seen
Counted-later f i None named seen overlap = overlap
Counted-later f i (Some room) named seen fit = record { counted = omega (arith, fit.counted); keys = fit.keys; read = fit.read }

keys_next : (f : List ℕ) (i : ℕ) (keys values : List ℕ) → what_holds f i ≡ Ok (holds_table keys values) → keys_before f (suc i) ≡ keys_before f i + length keys
keys_next f i keys values reads = ap (λ held. keys_before f i + length (keys_in held)) reads

-- or if its keys are counted
pub Counted-next : (f : List ℕ) (i : ℕ) (keys values : List ℕ) (room : Option ℕ) (named left : ℕ) (seen : List Bool) → what_holds f i ≡ Ok (holds_table keys values) → named ≡ left + length keys → Counted f i room named seen → Counted f (suc i) room left seen
Counted-next f i keys values None named left seen reads is overlap = overlap
Counted-next f i keys values (Some room) named left seen reads is fit = record {
  counted = omega (arith, fit.counted, is, keys_next f i keys values reads);
  keys = fit.keys;
  read = fit.read;
}

-- and if they are too many, keys overlap
pub Counted-many : (f : List ℕ) (i : ℕ) (keys values : List ℕ) (room : Option ℕ) (named : ℕ) (seen : List Bool) → what_holds f i ≡ Ok (holds_table keys values) → named < length keys → Counted f i room named seen → KeysOverlap f
Counted-many f i keys values None named seen reads few overlap = overlap
Counted-many f i keys values (Some room) named seen reads few fit =
    inl (record { end = suc i; many = omega (arith, fit.counted, few, keys_next f i keys values reads) })

pub IsKey-at : (f : List ℕ) (i k d : ℕ) (keys values : List ℕ) → what_holds f i ≡ Ok (holds_table keys values) → k < length keys → IsKey f (slice_index_or keys k d)
IsKey-at f i k d keys values reads within = record {
  dictionary = i;
  named = subst (λ names. Contains names (slice_index_or keys k d)) (sym (ap keys_in reads)) (Contains-get_or keys k d within);
}

-- a mark more adds the length of its object
marked_length-set : (f : List ℕ) (k : ℕ) (marks : List Bool) (j : ℕ) → j < length marks → slice_index_or marks j false ≡ false
    → marked_length f k (slice_set marks j true) ≡ marked_length f k marks + length_at f (k + j)
marked_length-set f k [] j within unmarked = absurd (omega (arith, within))
marked_length-set f k (true ∷ marks) zero within unmarked = absurd (true≢false unmarked)
marked_length-set f k (false ∷ marks) zero within unmarked =
    let same : length_at f (k + 0) ≡ length_at f k = ap (length_at f) (add-zero k) in
    omega (arith, same)
marked_length-set f k (true ∷ marks) (suc j) within unmarked =
    let rest = marked_length-set f (suc k) marks j (omega (arith, within)) unmarked in
    let same : length_at f (suc k + j) ≡ length_at f (k + suc j) = ap (length_at f) (omega arith) in
    omega (arith, rest, same)
marked_length-set f k (false ∷ marks) (suc j) within unmarked =
    let rest = marked_length-set f (suc k) marks j (omega (arith, within)) unmarked in
    let same : length_at f (suc k + j) ≡ length_at f (k + suc j) = ap (length_at f) (omega arith) in
    omega (arith, rest, same)

keys_marked : (f : List ℕ) (object : ℕ) (seen : List Bool) → IsKey f object → AreKeysMarked f seen → AreKeysMarked f (slice_set seen object true)
keys_marked f object seen key keys k marked =
    elim (eqb_tells k object) [
      | inl same ↦ subst (IsKey f) (sym same.1) key
      | inr other ↦ keys k (sym (get_or-set_other seen object k true false other.1) ∙ marked)
    ]

long_at : (f : List ℕ) (object : ℕ) (seen : List Bool) → object < length seen → slice_index_or seen object false ≡ false
    → marked_length f 0 (slice_set seen object true) ≡ marked_length f 0 seen + length_at f object
long_at f object seen within unmarked =
    marked_length-set f 0 seen object within unmarked ∙ ap (λ j. marked_length f 0 seen + length_at f j) (zero-add object)

-- a key was read
pub Counted-read : (f : List ℕ) (i object size : ℕ) (room rest : Option ℕ) (named : ℕ) (seen : List Bool) → object < length seen → slice_index_or seen object false ≡ false
    → size ≤ length_at f object → IfSome rest (λ left. room ≡ Some (left + size)) → IfNone rest (IfSome room (λ left. left < size)) → IsKey f object
    → Counted f i room named seen → Counted f i rest named (slice_set seen object true)
Counted-read f i object size None None named seen within unmarked fits some none key overlap = overlap
Counted-read f i object size None (Some left) named seen within unmarked fits some none key overlap = absurd cc
Counted-read f i object size (Some room) None named seen within unmarked fits some none key fit = inr (record {
  marks = slice_set seen object true;
  keys = keys_marked f object seen key fit.keys;
  long = omega (arith, long_at f object seen within unmarked, fit.read, none, fits);
})
Counted-read f i object size (Some room) (Some left) named seen within unmarked fits some none key fit =
    let is : room ≡ left + size = cc in
    record {
      counted = fit.counted;
      keys = keys_marked f object seen key fit.keys;
      read = omega (arith, long_at f object seen within unmarked, fit.read, is, fits);
    }

-- no object is marked at first
none_in : (n k : ℕ) → slice_index_or (replicate n false) k false ≡ false
none_in zero k = refl
none_in (suc n) zero = refl
none_in (suc n) (suc k) = none_in n k

pub none_marked : (f : List ℕ) (marks old : List Bool) (n count : ℕ) → marks ≡ take n old ++ replicate count false → old ≡ [] → AreKeysMarked f marks
none_marked f marks old n count is empty k marked =
    let made : marks ≡ replicate count false = is ∙ rw (empty, take-nil) refl in
    absurd (true≢false (sym marked ∙ ap (λ all. slice_index_or all k false) made ∙ none_in count k))

pub Counted-overlap : (f : List ℕ) (i : ℕ) (room : Option ℕ) (named : ℕ) (seen : List Bool) → is_none room ≡ true → Counted f i room named seen → KeysOverlap f
Counted-overlap f i None named seen none overlap = overlap
Counted-overlap f i (Some room) named seen none fit = absurd (true≢false (sym none))
