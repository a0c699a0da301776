-- The scalars seen so far, among the objects that may repeat another.
use Rattle.std.specs.Prelude.{◌≡◌, ◌↔◌, Bool, true, ℕ, ◌<◌, List}
use Rattle.std.specs.Option.{is_some}
use Rattle.plist_value.specs.Plist.{Scalar}
use Rattle.plist_value.specs.Scalars.{content_of}
use Rattle.plist_value.specs.declared.scalar_ref.ScalarRef.{ScalarRef}
use Rattle.plist_write.specs.ScalarNumbers.{AreNumbered, number_stored}
use Rattle.plist_write.specs.RepeatFilter.{HoldsIt, MayRepeat}
use Rattle.plist_write.specs.declared.scalar_numbers.ScalarNumbers.{ScalarNumbers}
use Rattle.plist_write.specs.declared.repeat_filter.RepeatFilter.{RepeatFilter}

-- whether an equal scalar was seen
abbrev pub was_seen : {S H : Type 0} → ScalarNumbers S H → ScalarRef → Bool
was_seen seen r = is_some (number_stored seen r)

-- an object before i that may repeat another contains the scalar
abbrev pub IsHeldBefore : RepeatFilter → List ℕ → ℕ → Scalar → Type 0
IsHeldBefore filter f i s = (earlier : ℕ)
    × ((earlier < i) × (MayRepeat filter earlier × HoldsIt f earlier s))

-- the scalars of such objects, and no others, were seen
pub record HasSeen {S H : Type 0} (filter : RepeatFilter) (f : List ℕ) (i : ℕ)
    (seen : ScalarNumbers S H) : Type 0 where
  pub numbered : AreNumbered seen
  pub each : (r : ScalarRef) → (was_seen seen r ≡ true) ↔ IsHeldBefore filter f i (content_of r)
