-- Units that need no escape, and runs of them.
use Rattle.std.proofs.Common.{◌≡◌, ℕ, zero, suc, ◌+◌, ◌-◌, ◌<◌, ◌≤◌, true, List, [], ◌∷◌, ◌++◌, ◌∙◌, inl, inr, length, take, drop, refl, ap, sym, cond, arith}
use Rattle.std.specs.Prelude.{flat_map, take_while}
use Rattle.std.proofs.lemmas.Bool.{cases_Bool}
use Rattle.std.proofs.lemmas.Bool.Decides.{nat_tests}
use Rattle.std.proofs.lemmas.List.{drop-drop, length-drop, length-take, take_all}
use Rattle.std.proofs.lemmas.List.Folds.{length-prefix_len}
use Rattle.std.proofs.lemmas.List.Sums.{prefix_len-le-length, take_while-cons}
use Rattle.plist_value.specs.Escapes.{is_literal, literal_run, quoted_unit}

-- text in which such units are as they are begins with a run of them
module _ (text : List ℕ → List ℕ) (same : (u : ℕ) (us : List ℕ) → is_literal u ≡ true → text (u ∷ us) ≡ u ∷ text us) where
  begins : (n : ℕ) (us : List ℕ) → text us ≡ take_while is_literal (take n us) ++ text (drop (length (take_while is_literal (take n us))) us)
  begins zero us = refl
  begins (suc n) [] = refl
  begins (suc n) (u ∷ us) = elim (cases_Bool (is_literal u)) [
    | inl is ↦ rw (take_while-cons is_literal u (take n us) ∙ ap (λ b. cond b (u ∷ take_while is_literal (take n us)) []) is) (same u us is ∙ ap (λ os. u ∷ os) (begins n us))
    | inr not ↦ rw (take_while-cons is_literal u (take n us) ∙ ap (λ b. cond b (u ∷ take_while is_literal (take n us)) []) not) refl
  ]

  -- the text from a run on
  pub run-text : (us run : List ℕ) (i : ℕ) → run ≡ literal_run (drop i us) → text (drop i us) ≡ run ++ text (drop (i + length run) us)
  run-text us run i is =
      begins 4096 (drop i us)
      ∙ ap (λ os. os ++ text (drop (length os) (drop i us))) (sym is)
      ∙ ap (λ os. run ++ text os) (drop-drop (length run) i us)

literal-quoted : (u : ℕ) → is_literal u ≡ true → quoted_unit u ≡ u ∷ []
literal-quoted u is = grind (arith, nat_tests, is)

pub run-quoted : (us run : List ℕ) (i : ℕ) → run ≡ literal_run (drop i us) → flat_map quoted_unit (drop i us) ≡ run ++ flat_map quoted_unit (drop (i + length run) us)
run-quoted = run-text (flat_map quoted_unit) (λ u us is. ap (λ os. os ++ flat_map quoted_unit us) (literal-quoted u is))

-- a run in bytes that are the units
pub run-of : {us octets run : List ℕ} (i : ℕ) → us ≡ octets → run ≡ literal_run (take (length octets - i) (drop i octets)) → run ≡ literal_run (drop i us)
run-of {octets = octets} i same is =
    is ∙ ap literal_run (take_all (length octets - i) (drop i octets) (omega (arith, length-drop i octets))) ∙ ap (λ os. literal_run (drop i os)) (sym same)

pub run-within : (us run : List ℕ) (i : ℕ) → i < length us → run ≡ literal_run (drop i us) → i + length run ≤ length us
run-within us run i within is =
    let first = take 4096 (drop i us) in
    omega (arith, within, ap length is, length-prefix_len is_literal first, prefix_len-le-length is_literal first, length-take 4096 (drop i us), length-drop i us)
