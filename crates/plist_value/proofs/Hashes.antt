-- Feeding units four at a time, and eight at a time.
use Rattle.std.proofs.Common.{◌≡◌, ℕ, ◌+◌, ◌<◌, ◌≤◌, List, [], ◌∷◌, ◌++◌, length, drop, take, slice_index, refl, arith}
use Rattle.std.proofs.lemmas.List.{drop_more}
use Rattle.std.specs.Hash as fed
use Rattle.plist_value.specs.Hashes.{fed_narrow, fed_units, seven_and, word_from}

-- the next four units are one number
pub fed_units-word : (units : List ℕ) (i : ℕ) → i + 4 ≤ length units → fed_units (drop i units) ≡ fed.u64 (word_from i units) ++ fed_units (drop (i + 4) units)
fed_units-word units i h =
    let a : drop i units ≡ slice_index units i ∷ drop (i + 1) units = drop_more units i 0 (omega arith) in
    let b : drop (i + 1) units ≡ slice_index units (i + 1) ∷ drop (i + 1 + 1) units = drop_more units (i + 1) 0 (omega arith) in
    let c : drop (i + 1 + 1) units ≡ slice_index units (i + 1 + 1) ∷ drop (i + 1 + 1 + 1) units = drop_more units (i + 1 + 1) 0 (omega arith) in
    let d : drop (i + 1 + 1 + 1) units ≡ slice_index units (i + 1 + 1 + 1) ∷ drop (i + 1 + 1 + 1 + 1) units = drop_more units (i + 1 + 1 + 1) 0 (omega arith) in
    let two : i + 2 ≡ i + 1 + 1 = omega arith in
    let four : i + 4 ≡ i + 1 + 1 + 1 + 1 = omega arith in
    rw (a, b, c, d, four, two)

-- eight narrow units are one write
pub fed_narrow-eight : (xs : List ℕ) → 8 ≤ length xs → fed_narrow xs ≡ take 8 xs ∷ fed_narrow (drop 8 xs)
fed_narrow-eight (a ∷ b ∷ c ∷ d ∷ e ∷ f ∷ g ∷ k ∷ rest) h = refl
fed_narrow-eight _ h = absurd (omega arith)

pub seven_and-eight : (xs : List ℕ) → 8 ≤ length xs → seven_and xs (slice_index xs 7) ≡ take 8 xs
seven_and-eight (a ∷ b ∷ c ∷ d ∷ e ∷ f ∷ g ∷ k ∷ rest) h = refl
seven_and-eight _ h = absurd (omega arith)

-- fewer than eight narrow units are the last write
pub fed_narrow-last : (xs : List ℕ) → length xs < 8 → fed_narrow xs ≡ seven_and xs (128 + length xs) ∷ []
fed_narrow-last (a ∷ b ∷ c ∷ d ∷ e ∷ f ∷ g ∷ k ∷ rest) h = absurd (omega arith)
fed_narrow-last _ h = refl
