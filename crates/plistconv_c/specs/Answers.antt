-- The result of each call of the library.
use Rattle.std.specs.Prelude.{◌≡◌, ◌≤◌, ℕ, List, Bool, true, false, length}
use Rattle.plist_value.specs.Plist.{Plist}
use Rattle.plist_object.specs.Layout.{IsLaid}
use Rattle.plist_canon.specs.Checking.{IsVerdict}
use Rattle.plist_canon.specs.Locality.{IsCanonical}
use Rattle.plist_canon.specs.declared.checking.Verdict.{Verdict}
use Rattle.plist_canon.specs.declared.checking.Verdict.TheVariants.{Canonical, Broken}
use Rattle.plist_forms.specs.Pair.{IsPair}
use Rattle.plist_forms.specs.declared.faults.Fault.{Fault}
use Rattle.plist_forms.specs.declared.faults.Fault.TheVariants.{OutOfMemory, WriteFailed}
use Rattle.plist_forms.specs.declared.loading.TheConstants.{MAX_INPUT}
use Rattle.plistconv_c.specs.Given.{IsGiven}
use Rattle.plistconv_c.specs.Inputs.{IsInputAccepted, IsInputRefused, IsCheckRefused}
use Rattle.plistconv_c.specs.Refusals.{no_refusal, refusal_of}
use Rattle.plistconv_c.specs.declared.checking.Finding.{Finding}
use Rattle.plistconv_c.specs.declared.refusals.Refused.{Refused}

-- the output for the input is in the buffer
pub record IsMade (Makes : List ℕ → List ℕ → Type 0) (octets before after : List ℕ) (count : ℕ)
    (reported : Refused) : Type 0 where
  pub within : length octets ≤ MAX_INPUT
  pub output : List ℕ
  pub of : Makes octets output
  pub given : IsGiven output before after count
  pub none : reported ≡ no_refusal

-- the refusal describes the fault of the first input, and the buffer is unchanged
pub record IsDescribed (fault : Fault) (before after : List ℕ) (count : ℕ) (reported : Refused)
    (number : ℕ) : Type 0 where
  pub reported_is : reported ≡ refusal_of fault 1
  pub number_reported : number ≡ reported.number
  pub kept : after ≡ before
  pub nothing : count ≡ 0

-- there is no output for this cause, the refusal describes it, and the buffer is unchanged
pub record IsUnmade (Cause : Fault → Type 0) (before after : List ℕ) (count : ℕ)
    (reported : Refused) (number : ℕ) : Type 0 where
  pub fault : Fault
  pub cause : Cause fault
  pub described : IsDescribed fault before after count reported number

-- the refusal of a call that gathers its output: a put fails only if memory runs out
abbrev pub gathered_fault : Fault → Fault
gathered_fault (WriteFailed sent) = OutOfMemory 0
gathered_fault (OutOfMemory sent) = OutOfMemory 0
gathered_fault fault = fault

-- the input is accepted: it encodes a value
pub record IsLinted (octets : List ℕ) (reported : Refused) : Type 0 where
  pub value : Plist
  pub accepted : IsInputAccepted octets value
  pub none : reported ≡ no_refusal

-- the input is refused, and the refusal describes why
pub record IsRefusalReported (octets : List ℕ) (reported : Refused) (number : ℕ) : Type 0 where
  pub fault : Fault
  pub refused : IsInputRefused octets fault
  pub reported_is : reported ≡ refusal_of fault 1
  pub number_reported : number ≡ reported.number

-- 1 for yes, 0 for no
abbrev pub number_of : Bool → ℕ
number_of true = 1
number_of false = 0

-- both are accepted, and the result is whether their values are equal
pub record IsCompared (first second : List ℕ) (equal : ℕ) (reported : Refused) : Type 0 where
  pub first_within : length first ≤ MAX_INPUT
  pub second_within : length second ≤ MAX_INPUT
  pub same : Bool
  pub pair : IsPair first second same
  pub answer : equal ≡ number_of same
  pub none : reported ≡ no_refusal

-- the input that is refused, and its fault; the second only if the first is accepted
pub data RefusedInput (first second : List ℕ) (fault : Fault) (input : ℕ) : Type 0 where
  first_refused : IsInputRefused first fault → input ≡ 1 → RefusedInput first second fault input
  second_refused : (v : Plist) → IsInputAccepted first v → IsInputRefused second fault → input ≡ 2
      → RefusedInput first second fault input

-- one of the two is refused, and the refusal describes why
pub record IsRefusedPair (first second : List ℕ) (equal : ℕ) (reported : Refused)
    (number : ℕ) : Type 0 where
  pub fault : Fault
  pub input : ℕ
  pub refused : RefusedInput first second fault input
  pub reported_is : reported ≡ refusal_of fault input
  pub number_reported : number ≡ reported.number
  pub nothing : equal ≡ 0

-- the verdict in numbers
abbrev pub finding_of : Verdict → Finding
finding_of Canonical = record { object = 0; canonical = 1; rule = 0 }
finding_of (Broken rule object) = record { object = object; canonical = 0; rule = rule }

-- the bytes have the layout, and the finding describes the verdict on them
pub record IsChecked (octets : List ℕ) (finding : Finding) (reported : Refused) : Type 0 where
  pub within : length octets ≤ MAX_INPUT
  pub laid : IsLaid octets
  pub verdict : Verdict
  pub found : IsVerdict octets verdict
  pub finding_reported : finding ≡ finding_of verdict
  pub canonical : finding.canonical ≡ 1 → IsCanonical octets
  pub other : finding.canonical ≡ 0 → ¬ IsCanonical octets
  pub none : reported ≡ no_refusal

-- the input is too large, does not have the layout, or memory ran out, and the refusal says so
pub record IsUnchecked (octets : List ℕ) (finding : Finding) (reported : Refused)
    (number : ℕ) : Type 0 where
  pub fault : Fault
  pub refused : IsCheckRefused octets fault
  pub reported_is : reported ≡ refusal_of fault 1
  pub number_reported : number ≡ reported.number
  pub nothing : finding ≡ record { object = 0; canonical = 0; rule = 0 }
