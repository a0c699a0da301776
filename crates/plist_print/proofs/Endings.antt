-- The end of the lines of a container.
use Rattle.std.proofs.Common.{◌≡◌, ℕ, suc, ◌+◌, ◌*◌, min, List, [], ◌∷◌, ◌++◌, replicate, ◌⊎◌, inl, inr, sym, ap, ◌∙◌, arith, append_assoc}
use Rattle.std.proofs.lemmas.Bool.{cases_lt}
use Rattle.std.proofs.lemmas.List.{append_cancel_left, replicate-append-replicate}
use Rattle.plist_print.specs.Printed.{indent}
use Rattle.plist_print.proofs.Fronts.{head_of, tail_of, heads}

-- If equal texts begin with the spaces of a level and with those of the next, the first continues
-- with a space or, from 32 levels on, like the second.
pub deeper : (level c : ℕ) (x y : List ℕ) → indent level ++ (c ∷ x) ≡ indent (suc level) ++ y → (c ≡ 32) ⊎ (c ∷ x ≡ y)
deeper level c x y same = elim (cases_lt level 32) [
  | inl below ↦ (
      let less : 2 * min level 32 ≡ 2 * level = omega arith in
      let more : 2 * min (suc level) 32 ≡ 2 * level + 2 = omega arith in
      let wide : indent (suc level) ++ y ≡ indent level ++ (32 ∷ 32 ∷ y) =
      ap (λ n. replicate n 32 ++ y) more ∙ ap (λ b. b ++ y) (sym (replicate-append-replicate (2 * level) 2 32)) ∙ append_assoc (replicate (2 * level) 32) (32 ∷ 32 ∷ []) y ∙ ap (λ n. replicate n 32 ++ (32 ∷ 32 ∷ y)) (sym less) in
      inl (heads c 32 x (32 ∷ y) (append_cancel_left (indent level) (c ∷ x) (32 ∷ 32 ∷ y) (same ∙ wide)))
      )
  | inr past ↦ (
      let equal : 2 * min (suc level) 32 ≡ 2 * min level 32 = omega arith in
      inr (append_cancel_left (indent level) (c ∷ x) y (same ∙ ap (λ n. replicate n 32 ++ y) equal))
      )
]

pub regrouped : (a p q r : List ℕ) → (a ++ (p ++ q)) ++ r ≡ a ++ (p ++ (q ++ r))
regrouped a p q r = append_assoc a (p ++ q) r ∙ ap (λ t. a ++ t) (append_assoc p q r)

pub unrolled : (a b c p q r : List ℕ) → (a ++ (b ++ (c ++ (p ++ q)))) ++ r ≡ a ++ (b ++ (c ++ (p ++ (q ++ r))))
unrolled a b c p q r =
    append_assoc a (b ++ (c ++ (p ++ q))) r ∙ ap (λ t. a ++ t) (append_assoc b (c ++ (p ++ q)) r ∙ ap (λ t. b ++ t) (append_assoc c (p ++ q) r ∙ ap (λ t. c ++ t) (append_assoc p q r)))

-- what follows the rows of a container
abbrev pub ending : ℕ → ℕ → List ℕ → List ℕ
ending level close r = (indent level ++ (close ∷ 10 ∷ [])) ++ r

pub endings-front : (level close : ℕ) (r s : List ℕ) → ending level close r ≡ ending level close s → r ≡ s
endings-front level close r s same =
    let e = append_cancel_left (indent level) (close ∷ 10 ∷ r) (close ∷ 10 ∷ s) (sym (append_assoc (indent level) (close ∷ 10 ∷ []) r) ∙ same ∙ append_assoc (indent level) (close ∷ 10 ∷ []) s) in
    ap (λ l. tail_of (tail_of l)) e

pub ending-no_row : (level close : ℕ) (r : List ℕ) (b s : List ℕ) → (close ≡ 32 → ⊥) → (close ≡ head_of (b ++ s) → ⊥) → ending level close r ≡ (indent (suc level) ++ b) ++ s → ⊥
ending-no_row level close r b s h k same =
    elim (deeper level close (10 ∷ r) (b ++ s) (sym (append_assoc (indent level) (close ∷ 10 ∷ []) r) ∙ same ∙ append_assoc (indent (suc level)) b s)) [
      | inl blank ↦ h blank
      | inr row ↦ k (ap head_of row)
    ]
