-- The report that a refusal describes, and the line printed for it.
use Rattle.std.specs.Prelude.{◌≡◌, ◌⊎◌, ℕ, List}
use Rattle.plist_value.specs.declared.refusals.Report.{Report}
use Rattle.plist_forms.specs.Fault.{report_of}
use Rattle.plist_forms.specs.Line.{line_of}
use Rattle.plist_forms.specs.declared.faults.Fault.{Fault}
use Rattle.plistconv_c.specs.Given.{IsGiven}
use Rattle.plistconv_c.specs.Refusals.{refusal_of}
use Rattle.plistconv_c.specs.declared.refusals.Refused.{Refused}

-- the refusal describes some fault
abbrev pub IsReported : Refused → Type 0
IsReported reported = (fault : Fault) × ((input : ℕ) × (reported ≡ refusal_of fault input))

-- The buffer has the line of the fault that the refusal describes. There is such a fault, and if
-- there are several, they have the same line.
pub record IsLineGiven (path before after : List ℕ) (count : ℕ) (reported : Refused) : Type 0 where
  pub known : IsReported reported
  pub given : (fault : Fault) → (input : ℕ) → reported ≡ refusal_of fault input
      → IsGiven (line_of path fault) before after count

-- the refusal describes no fault
abbrev pub IsUnreported : Refused → Type 0
IsUnreported reported = (fault : Fault) → (input : ℕ) → reported ≡ refusal_of fault input → ⊥

-- the refusal describes a fault with this report
pub record IsReport (reported : Refused) (report : Report) : Type 0 where
  pub fault : Fault
  pub described : reported ≡ refusal_of fault reported.input
  pub same : report_of fault ≡ report

-- memory ran out for the line, or the refusal describes no fault; the buffer is unchanged
pub record IsNoLine (before after : List ℕ) (count : ℕ) (reported : Refused)
    (number : ℕ) : Type 0 where
  pub reason : ((number ≡ 60) × IsReported reported) ⊎ ((number ≡ 255) × IsUnreported reported)
  pub kept : after ≡ before
  pub nothing : count ≡ 0
