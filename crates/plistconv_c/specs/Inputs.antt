-- What is refused of an input, which may have at most `MAX_INPUT` bytes.
use Rattle.std.specs.Prelude.{◌≡◌, ◌<◌, ◌≤◌, ℕ, List, length}
use Rattle.plist_value.specs.Plist.{Plist}
use Rattle.plist_canon.specs.Checking.{IsCheckFault}
use Rattle.plist_canon.specs.declared.checking.CheckFault.{CheckFault}
use Rattle.plist_forms.specs.Accepted.{IsAccepted}
use Rattle.plist_forms.specs.Fault.{check_fault_for}
use Rattle.plist_forms.specs.Refusals.{IsRefused}
use Rattle.plist_forms.specs.declared.faults.Fault.{Fault}
use Rattle.plist_forms.specs.declared.faults.Fault.TheVariants.{InputTooLarge}
use Rattle.plist_forms.specs.declared.loading.TheConstants.{MAX_INPUT}
use Rattle.plist_forms.specs.declared.pairs.PairFault.{PairFault}
use Rattle.plist_forms.specs.declared.pairs.PairFault.TheVariants.{First, Second}

-- the input is too large, and the fault says so
pub record IsTooLarge (octets : List ℕ) (fault : Fault) : Type 0 where
  pub large : MAX_INPUT < length octets
  pub is : fault ≡ InputTooLarge

-- the input is too large, which is then the only refusal; or it is not, and is refused for the
-- fault
pub data IsInputRefused (octets : List ℕ) (fault : Fault) : Type 0 where
  too_large : IsTooLarge octets fault → IsInputRefused octets fault
  refused : length octets ≤ MAX_INPUT → IsRefused octets fault → IsInputRefused octets fault

-- the input is accepted, and encodes the value
pub record IsInputAccepted (octets : List ℕ) (value : Plist) : Type 0 where
  pub within : length octets ≤ MAX_INPUT
  pub accepted : IsAccepted octets value

-- which of the two is refused, and why; the second only if the first is accepted
abbrev pub IsPairRefused : List ℕ → List ℕ → PairFault → Type 0
IsPairRefused first second (First fault) = IsInputRefused first fault
IsPairRefused first second (Second fault) = (v : Plist)
    × (IsInputAccepted first v × IsInputRefused second fault)

-- the input is too large, or its check fails with this fault
pub data IsCheckRefused (octets : List ℕ) (fault : Fault) : Type 0 where
  too_large : IsTooLarge octets fault → IsCheckRefused octets fault
  refused : (cause : CheckFault) → length octets ≤ MAX_INPUT → IsCheckFault octets cause
      → fault ≡ check_fault_for cause
      → IsCheckRefused octets fault
