-- What the bits show about the scalars of a file.
use Rattle.std.proofs.Common.{ℕ, ◌<◌, List, length, subst, arith, inl, inr}
use Rattle.std.proofs.lemmas.Bool.{cases_lt}
use Rattle.plist_value.specs.Plist.{Scalar}
use Rattle.plist_object.specs.Layout.{trailer_of}
use Rattle.plist_write.specs.ObjectNumbers.{IsAlone, IsUnique, MarksUnique, FindsUnique}
use Rattle.plist_write.specs.declared.object_numbers.ObjectNumbers.{ObjectNumbers}
use Rattle.plist_write.specs.RepeatFilter.{HasAdded, HoldsIt, IsUnlike, MayRepeat}
use Rattle.plist_write.specs.declared.repeat_filter.RepeatFilter.{RepeatFilter}

module _ (f : List ℕ) (n : ℕ) (filter : RepeatFilter) (added : HasAdded f n filter) where
  -- of two equal scalars each may repeat another
  pub later_may : (j k : ℕ) (s : Scalar) → j < k → k < n → HoldsIt f j s → HoldsIt f k s → MayRepeat filter k
  later_may j k s apart below first second = (added.again j k s apart below first second).1

  pub earlier_may : (j k : ℕ) (s : Scalar) → j < k → k < n → HoldsIt f j s → HoldsIt f k s → MayRepeat filter j
  earlier_may j k s apart below first second = (added.again j k s apart below first second).0

-- a scalar that shares no bit is in one object only
pub alone-apart : (f : List ℕ) (filter : RepeatFilter) → HasAdded f (trailer_of f).count filter → (i : ℕ) → (MayRepeat filter i → ⊥) → IsAlone f i
alone-apart f filter added i apart s j here there =
    let n = (trailer_of f).count in
    elim (cases_lt i j) [
      | inl later ↦ absurd (apart (earlier_may f n filter added i j s later there.listed here.reads there.reads))
      | inr upto ↦ elim (cases_lt j i) [
        | inl earlier ↦ absurd (apart (later_may f n filter added j i s earlier here.listed there.reads here.reads))
        | inr from ↦ omega arith
      ]
    ]

-- an object whose bit no other has
single-unlike : (f : List ℕ) (filter : RepeatFilter) → HasAdded f (trailer_of f).count filter → (i : ℕ) → i < length filter.bits.items → IsUnlike filter i → IsUnique f i
single-unlike f filter added i below unlike =
    let listed : i < (trailer_of f).count = subst (λ (n : ℕ). i < n) added.added below in
    let contained = added.are_scalars i listed unlike.0 in
    ((contained.0, record { listed = listed; reads = contained.1 }), alone-apart f filter added i unlike.1)

-- objects that are marked because of their bits are single
pub marked-singles : (f : List ℕ) (filter : RepeatFilter) → HasAdded f (trailer_of f).count filter → (old new : ObjectNumbers) → MarksUnique filter old.numbers.items new.numbers.items → FindsUnique f old new
marked-singles f filter added old new marks = record {
  as_many = marks.as_many;
  each = λ i. elim (marks.each i) [
    | inl same ↦ inl same
    | inr marked ↦ inr (marked.0, (marked.1.0, single-unlike f filter added i marked.1.1.0 marked.1.1.1))
  ];
}
