-- Appending a piece to bytes taken, compared with known ones.
use Rattle.std.proofs.Common.{◌≡◌, ◌∙◌, ap, sym, refl, ℕ, ◌+◌, ◌≤◌, true, false, List, ◌++◌, length, drop, take}
use Rattle.std.specs.Prelude.{◌≢◌, nat_eq}
use Rattle.std.specs.List.{starts_with}
use Rattle.std.proofs.lemmas.Bool.{false≢true}
use Rattle.std.proofs.lemmas.Bool.Decides.{Decides-eqb}
use Rattle.std.proofs.lemmas.List.{append_assoc, length-take-le}
use Rattle.std.proofs.lemmas.Slice.Eq.{starts_is}
use Rattle.std.proofs.Math.Seq.{drop-append_seam, take-add, take-append_seam}

-- the known bytes continue with the piece
pub goes_on : (known piece : List ℕ) (count : ℕ) → starts_with nat_eq (drop count known) piece ≡ true
    → take (count + length piece) known ≡ take count known ++ piece
goes_on known piece count starts =
    let rest = drop (length piece) (drop count known) in
    let split : drop count known ≡ piece ++ rest = (starts_is Decides-eqb (drop count known) piece _ refl).0 starts in
    take-add count (length piece) known ∙ ap (λ l. take count known ++ take (length piece) l) split ∙ ap (λ l. take count known ++ l) (take-append_seam piece rest)

-- the known bytes do not continue with the piece
pub goes_apart : (known piece : List ℕ) (count : ℕ) → count ≤ length known → starts_with nat_eq (drop count known) piece ≡ false
    → (rest : List ℕ) → (take count known ++ piece) ++ rest ≢ known
goes_apart known piece count within apart rest same =
    let front = take count known in
    let behind : drop (length front) (front ++ (piece ++ rest)) ≡ piece ++ rest = drop-append_seam front (piece ++ rest) in
    let long : length front ≡ count = length-take-le count known within in
    let split : drop count known ≡ piece ++ rest = ap (drop count) (sym same ∙ append_assoc front piece rest) ∙ ap (λ n. drop n (front ++ (piece ++ rest))) (sym long) ∙ behind in
    false≢true (sym apart ∙ (starts_is Decides-eqb (drop count known) piece _ refl).1 rest split)
