-- A number fits its least width.
use Rattle.std.proofs.Common.{ℕ, ◌^◌, ◌<◌, ◌≤◌, ltb, arith}
use Rattle.std.proofs.lemmas.Bool.{cond_both, ltb-true}
use Rattle.plist_object.specs.Spelling.{least_width}

pub least_width-least : (n : ℕ) → 1 ≤ least_width n
least_width-least n =
    cond_both (ltb n 256) 1 _ (λ w. 1 ≤ w) (λ _. omega arith) (λ _.
    cond_both (ltb n 65536) 2 _ (λ w. 1 ≤ w) (λ _. omega arith) (λ _.
    cond_both (ltb n 4294967296) 4 8 (λ w. 1 ≤ w) (λ _. omega arith) (λ _. omega arith)))

pub least_width-holds : (n : ℕ) → n < 18446744073709551616 → n < 256 ^ least_width n
least_width-holds n h =
    cond_both (ltb n 256) 1 _ (λ w. n < 256 ^ w) (λ e. let below = ltb-true n 256 e in omega arith) (λ _.
    cond_both (ltb n 65536) 2 _ (λ w. n < 256 ^ w) (λ e. let below = ltb-true n 65536 e in omega arith) (λ _.
    cond_both (ltb n 4294967296) 4 8 (λ w. n < 256 ^ w) (λ e. let below = ltb-true n 4294967296 e in omega arith) (λ _. omega arith)))
