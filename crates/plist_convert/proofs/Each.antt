-- A run for each path, from the run of one path after another.
use Rattle.std.proofs.Common.{ap, arith, inl, inr, map, refl, sym, ℕ, List, [], ◌∷◌, drop, length, ◌≡◌, ◌∙◌, ◌<◌, ◌≤◌, ◌+◌, ◌⊎◌}
use Rattle.std.specs.Prelude.{max}
use Rattle.std.specs.List.{slice_index_or}
use Rattle.std.specs.Borrow.{Bor}
use Rattle.std.proofs.lemmas.Bool.{cases_lt}
use Rattle.std.proofs.lemmas.List.{drop-map, drop_all, drop_more}
use Rattle.plist_convert.specs.Answer.{Said}
use Rattle.plist_convert.specs.Ending.{HaveFailed}
use Rattle.plist_convert.specs.Files.{FileName}
use Rattle.plist_convert.specs.Runs.{IsFileRun, IsRunOfEach}
use Rattle.plist_convert.specs.State.{State}

-- the results for a file, by its path and its bytes
abbrev pub Results : Type 1
Results = FileName → List ℕ → Said → Type 0

-- the paths as bytes
abbrev pub names_of : List (Bor (List ℕ)) → List FileName
names_of = map (λ path. path.now)

-- The first i paths have their runs: with a run for each of the others there is a run for each path.
abbrev pub GoesOn : Results → List FileName → State → State → ℕ → ℕ → Type 0
GoesOn Answers paths before now i least =
    (after : State) (status : ℕ) → IsRunOfEach Answers (drop i paths) least now after status → IsRunOfEach Answers paths 0 before after status

path_here : (paths : List (Bor (List ℕ))) (i : ℕ) (d : Bor (List ℕ)) → i < length paths
    → drop i (names_of paths) ≡ (slice_index_or paths i d).now ∷ drop (i + 1) (names_of paths)
path_here paths i d within =
    drop-map (λ p. p.now) i paths ∙ ap names_of (drop_more paths i d within)
    ∙ ap (λ rest. (slice_index_or paths i d).now ∷ rest) (sym (drop-map (λ p. p.now) (i + 1) paths))

-- all paths have their runs
pub ends : (Answers : Results) (paths : List (Bor (List ℕ))) (before now : State) (i status : ℕ) → length paths ≤ i
    → GoesOn Answers (names_of paths) before now i status → IsRunOfEach Answers (names_of paths) 0 before now status
unfolding IsRunOfEach
ends Answers paths before now i status past so_far =
    let none : drop i (names_of paths) ≡ [] = drop-map (λ p. p.now) i paths ∙ ap names_of (drop_all i paths past) in
    so_far now status (rw none (refl, refl))

-- the run of this path
abbrev Here : Results → List (Bor (List ℕ)) → ℕ → Bor (List ℕ) → State → State → ℕ → Type 0
Here Answers paths i d = let path = (slice_index_or paths i d).now in IsFileRun (Answers path) path

-- the line of this path cannot be printed
pub cut_off : (Answers : Results) (paths : List (Bor (List ℕ))) (before now after : State) (i status one : ℕ) (d : Bor (List ℕ)) → i < length paths
    → GoesOn Answers (names_of paths) before now i status → Here Answers paths i d now after one
    → HaveFailed now.print_failures after.print_failures → IsRunOfEach Answers (names_of paths) 0 before after 4
unfolding IsRunOfEach
cut_off Answers paths before now after i status one d within so_far run failed =
    so_far after 4 (rw (path_here paths i d within)
    (record { middle = after; own = one; done = run; printed = λ printed. absurd (printed failed); cut = λ _. (refl, refl) }))

-- the line of this path is printed
pub goes_on : (Answers : Results) (paths : List (Bor (List ℕ))) (before now next : State) (i status one : ℕ) (d : Bor (List ℕ)) → i < length paths
    → GoesOn Answers (names_of paths) before now i status → Here Answers paths i d now next one
    → (HaveFailed now.print_failures next.print_failures → ⊥) → GoesOn Answers (names_of paths) before next (i + 1) (max status one)
unfolding IsRunOfEach
goes_on Answers paths before now next i status one d within so_far run printed = λ after last each.
    so_far after last (rw (path_here paths i d within)
    (record { middle = next; own = one; done = run; printed = λ _. each; cut = λ failed. absurd (printed failed) }))

none_failed : (before after : ℕ) → after ≤ before → after < 18446744073709551615 → HaveFailed before after → ⊥
none_failed before after most below (inl more) = omega (arith, most, more)
none_failed before after most below (inr top) = omega (arith, below, top)

at_top_or_not : (before after : ℕ) → after ≤ before → HaveFailed before after ⊎ (HaveFailed before after → ⊥)
at_top_or_not before after most = elim (cases_lt after 18446744073709551615) [
  | inl below ↦ inr (none_failed before after most below)
  | inr top ↦ inl (inr top)
]

pub failed_or_not : (before after : ℕ) → HaveFailed before after ⊎ (HaveFailed before after → ⊥)
failed_or_not before after = elim (cases_lt before after) [
  | inl more ↦ inl (inl more)
  | inr most ↦ at_top_or_not before after most
]
