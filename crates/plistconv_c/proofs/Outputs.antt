-- What the caller of an export is given, from what the call made.
use Rattle.std.proofs.Common.{arith, Err, List, Ok, Result, ℕ, length, ◌≡◌, ◌≤◌, ◌≢◌}
use Rattle.std.specs.Prelude.{IfErr, IfOk, OnOk}
use Rattle.plist_forms.specs.declared.faults.Fault.{Fault}
use Rattle.plist_forms.specs.declared.loading.TheConstants.{MAX_INPUT}
use Rattle.plistconv_c.specs.Answers.{IsDescribed, IsMade, IsUnmade}
use Rattle.plistconv_c.specs.Given.{IsGiven}
use Rattle.plistconv_c.specs.Refusals.{no_refusal}
use Rattle.plistconv_c.specs.declared.refusals.Refused.{Refused}
use Rattle.plistconv_c.proofs.Codes.{code_above}

module _ {V : Type 0} (before after : List ℕ) (count : ℕ) (reported : Refused) (number : ℕ) where
  pub made : (items : V → List ℕ) (output : Result V Fault) (Makes : List ℕ → List ℕ → Type 0) (octets : List ℕ)
      → OnOk output (length octets ≤ MAX_INPUT) → IfOk output (λ v. Makes octets (items v)) → IfOk output (λ v. IsGiven (items v) before after count)
      → IfOk output (λ _. (number ≡ 0) × (reported ≡ no_refusal))
      → IfErr output (λ fault. IsDescribed fault before after count reported number) → number ≡ 0
      → IsMade Makes octets before after count reported
  made items (Ok v) Makes octets within of given none described zero =
      record { within = within; output = items v; of = of; given = given; none = none.1 }
  made items (Err fault) Makes octets within of given none described zero =
      let number_is = described.number_reported in
      let reported_is = described.reported_is in
      absurd (omega (arith, code_above fault, rw reported_is at number_is, zero))

  pub unmade : (output : Result V Fault) (Cause : Fault → Type 0) → IfErr output Cause
      → IfOk output (λ _. (number ≡ 0) × (reported ≡ no_refusal))
      → IfErr output (λ fault. IsDescribed fault before after count reported number) → number ≢ 0
      → IsUnmade Cause before after count reported number
  unmade (Ok v) Cause cause none described some = absurd (some none.0)
  unmade (Err fault) Cause cause none described some = record { fault = fault; cause = cause; described = described }
