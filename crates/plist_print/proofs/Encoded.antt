-- Units in UTF-8, written byte by byte.
use Rattle.std.proofs.Common.{◌≡◌, ℕ, ◌+◌, ◌/◌, ◌%◌, ◌<◌, ◌≤◌, true, false, List, [], ◌∷◌, ◌++◌, length, take, refl, ap, ◌∙◌, append_assoc, arith}
use Rattle.std.specs.Prelude.{nat_lt, slice_set}
use Rattle.std.proofs.Math.ListN.{length-set}
use Rattle.std.proofs.Math.Utf8.{encode}
use Rattle.std.proofs.lemmas.Grind.{take-set_at}
use Rattle.std.proofs.lemmas.Bool.Decides.{nat_tests}

pub encode-two : (u : ℕ) → 128 ≤ u → u < 2048 → encode u ≡ (192 + u / 64) ∷ (128 + u % 64) ∷ []
unfolding encode
encode-two u above below =
    let more : nat_lt u 128 ≡ false = grind (arith, nat_tests) in
    let less : nat_lt u 2048 ≡ true = grind (arith, nat_tests) in
    rw (more, less)

pub encode-three : (u : ℕ) → 2048 ≤ u → u < 65536 → encode u ≡ (224 + u / 4096) ∷ (128 + u / 64 % 64) ∷ (128 + u % 64) ∷ []
unfolding encode
encode-three u above below =
    let long : nat_lt u 128 ≡ false = grind (arith, nat_tests) in
    let longer : nat_lt u 2048 ≡ false = grind (arith, nat_tests) in
    let less : nat_lt u 65536 ≡ true = grind (arith, nat_tests) in
    rw (long, longer, less)

pub take-two : (xs : List ℕ) (i a b : ℕ) → i + 2 ≤ length xs → take (i + 2) (slice_set (slice_set xs i a) (i + 1) b) ≡ take i xs ++ (a ∷ b ∷ [])
take-two xs i a b fits =
    take-set_at (slice_set xs i a) (i + 1) (i + 2) b (omega arith) (omega (arith, length-set xs i a))
    ∙ ap (λ os. os ++ (b ∷ [])) (take-set_at xs i (i + 1) a refl (omega arith))
    ∙ append_assoc (take i xs) (a ∷ []) (b ∷ [])

pub take-three : (xs : List ℕ) (i a b c : ℕ) → i + 3 ≤ length xs → take (i + 3) (slice_set (slice_set (slice_set xs i a) (i + 1) b) (i + 2) c) ≡ take i xs ++ (a ∷ b ∷ c ∷ [])
take-three xs i a b c fits =
    take-set_at (slice_set (slice_set xs i a) (i + 1) b) (i + 2) (i + 3) c (omega arith) (omega (arith, length-set xs i a, length-set (slice_set xs i a) (i + 1) b))
    ∙ ap (λ os. os ++ (c ∷ [])) (take-two xs i a b (omega arith))
    ∙ append_assoc (take i xs) (a ∷ b ∷ []) (c ∷ [])
