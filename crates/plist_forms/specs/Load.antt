-- What loading takes from a source.
use Rattle.std.specs.Prelude.{◌≡◌, ◌≢◌, ◌↔◌, ℕ, ◌<◌, ◌≤◌, List, ◌++◌, length, take, Vec}
use Rattle.std.specs.Prelude.{IsErrOf, None, Option, Result, Some}
use Rattle.std.specs.Io.KnownBytes.{Consumes}
use Rattle.plist_devices.specs.Count.{HasFailed, one_more}
use Rattle.plist_forms.specs.declared.faults.Fault.{Fault}
use Rattle.plist_forms.specs.declared.faults.Fault.TheVariants.{ReadFailed, InputTooLarge}
use Rattle.plist_forms.specs.declared.faults.Fault.TheVariants.{OutOfMemory}
use Rattle.plist_forms.specs.declared.loading.TheConstants.{MAX_INPUT}
use Rattle.plist_forms.specs.declared.taken.Taken.{Taken}
use Rattle.plist_forms.specs.declared.taken.Taken.TheVariants.{Known, Other}

-- The call took some bytes, the first of those to come, and P holds of them.
abbrev pub Takes : Option (List ℕ) → Option (List ℕ) → (List ℕ → Type 0) → Type 0
Takes to_come rest P = (taken : List ℕ) × Consumes to_come rest taken × P taken

-- What loading does to its source: ReadFailed is returned if and only if the source fails, which it
-- does at most once, and InputTooLarge if and only if it gives more than the maximum.
pub record Loads {T : Type 0} (to_come rest : Option (List ℕ)) (before after : ℕ)
    (result : Result T Fault) : Type 0 where
  pub failed : IsErrOf result ReadFailed ↔ HasFailed before after
  pub at_once : IsErrOf result ReadFailed → after ≡ one_more before
  pub kept : ¬ IsErrOf result ReadFailed → after ≡ before
  pub too_large :
      Takes to_come rest (λ taken. IsErrOf result InputTooLarge ↔ (MAX_INPUT < length taken))

-- the refusals of loading
abbrev pub IsLoadFault : Fault → Type 0
IsLoadFault ReadFailed = Unit {0}
IsLoadFault InputTooLarge = Unit {0}
IsLoadFault (OutOfMemory sent) = sent ≡ 0
IsLoadFault _ = ⊥

-- the bytes found, with `None` for the known ones
abbrev pub octets_or : {Z : Type 0} → List ℕ → Option (Vec ℕ Z) → List ℕ
octets_or known (Some octets) = octets.items
octets_or known None = known

-- the bytes taken so far
abbrev pub octets_taken : List ℕ → Taken → List ℕ
octets_taken known (Known count) = take count known
octets_taken known (Other octets) = octets.items

-- The bytes taken are a prefix of the known ones in the first case, and are not in the second.
abbrev pub ComparesWith : List ℕ → Taken → Type 0
ComparesWith known (Known count) = count ≤ length known
ComparesWith known (Other octets) = (rest : List ℕ) → octets.items ++ rest ≢ known
