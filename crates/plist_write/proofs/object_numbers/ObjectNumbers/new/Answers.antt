use Rattle.std.proofs.Common.{◌≡◌, ◌-◌, ◌++◌, ℕ, length, get_or, replicate, take, refl, ap, ◌∙◌, inl, inr, arith, List, []}
use Rattle.std.proofs.Math.Seq.{take-nil}
use Rattle.std.proofs.lemmas.Bool.{cases_lt}
use Rattle.std.proofs.lemmas.List.{get_or-replicate, get_or_past, length-replicate}
use Rattle.plist_write.specs.ObjectNumbers.{no_number}
use Rattle.plist_write.proofs.object_numbers.ObjectNumbers.new.Goals as goal

none_kept : (count i : ℕ) → get_or (replicate count no_number) i no_number ≡ no_number
none_kept count i = elim (cases_lt i count) [
  | inl within ↦ get_or-replicate count i no_number no_number within
  | inr past ↦ get_or_past (replicate count no_number) i no_number (omega (arith, past, length-replicate count no_number))
]

-- the content of an empty list after it was resized
filled : (count long : ℕ) (old new : List ℕ) → old ≡ [] → long ≡ 0 → new ≡ take count old ++ replicate (count - long) no_number → new ≡ replicate count no_number
filled count long old new none zero is =
    let all : count - 0 ≡ count = omega arith in
    is ∙ rw (none, zero, take-nil, all) refl

pub returns-clause-listed : goal.returns-clause-listed
returns-clause-listed c =
    ap length (filled c.args.count _ _ _ c.new-numbers.ensures.items c.new-numbers.ensures.len c.in_ok-resize.ensures.items) ∙ length-replicate c.args.count no_number

pub returns-clause-none : goal.returns-clause-none
returns-clause-none c = λ i.
    ap (λ memo. get_or memo i no_number) (filled c.args.count _ _ _ c.new-numbers.ensures.items c.new-numbers.ensures.len c.in_ok-resize.ensures.items) ∙ none_kept c.args.count i
