-- The results for bytes that were loaded: the printed text and the exit status.
use Rattle.std.specs.Prelude.{◌≡◌, ◌↔◌, ◌⊎◌, ◌++◌, ℕ, Bool, false, List, Option, Some, None, codes}
use Rattle.std.specs.Prelude.{if◌then◌else◌, string_bytes}
use Rattle.plist_value.specs.Plist.{Plist}
use Rattle.plist_object.specs.Layout.{IsLaid}
use Rattle.plist_canon.specs.Checking.{IsCheckFault, IsVerdict}
use Rattle.plist_canon.specs.Locality.{IsCanonical}
use Rattle.plist_canon.specs.declared.checking.CheckFault.{CheckFault}
use Rattle.plist_canon.specs.declared.checking.Verdict.{Verdict}
use Rattle.plist_canon.specs.declared.checking.Verdict.TheVariants.{Canonical}
use Rattle.plist_explain.specs.Topics.{all_lines, explanation_of}
use Rattle.plist_forms.specs.Accepted.{IsAccepted}
use Rattle.plist_forms.specs.Fault.{check_fault_for, code_of, status_for}
use Rattle.plist_forms.specs.Line.{line_of}
use Rattle.plist_forms.specs.Pair.{IsPair, IsRefusedPair}
use Rattle.plist_forms.specs.Refusals.{IsRefused}
use Rattle.plist_forms.specs.Status.{status_code}
use Rattle.plist_forms.specs.declared.faults.Fault.{Fault}
use Rattle.plist_forms.specs.declared.pairs.PairFault.{PairFault}
use Rattle.plist_forms.specs.declared.pairs.PairFault.TheVariants.{First, Second}
use Rattle.plist_convert.specs.Verdicts.{verdict_line_of, verdict_status_for}
use Rattle.plist_convert.specs.declared.answers.Answer.{Answer}
use Rattle.plist_convert.specs.declared.answers.Task.{Task}
use Rattle.plist_convert.specs.declared.answers.Task.TheVariants as task

-- a printed text and the exit status
pub record Said : Type 0 where
  pub text : List ℕ
  pub status : ℕ

-- the text and the status of a result
abbrev pub said_of : Answer → Said
said_of answer = record { text = string_bytes answer.text; status = status_code answer.status }

-- this line with a line end, and this status
abbrev pub said : List ℕ → ℕ → Said
said line status = record { text = line ++ codes "\n"; status = status }

-- the line and the status of a refusal
abbrev pub refusal : List ℕ → Fault → Said
refusal path fault = said (line_of path fault) (status_for (code_of fault))

abbrev pub verdict_said : (named : Bool) → List ℕ → Verdict → Said
verdict_said named path verdict =
    said (verdict_line_of named path verdict) (verdict_status_for verdict)

abbrev pub accepted_said : List ℕ → Said
accepted_said path = said (path ++ codes ": OK") 0

abbrev pub equality_said : Bool → Said
equality_said equal = if equal then said (codes "equal") 0 else said (codes "different") 1

-- the explanation of a word, or an error if the word names nothing
abbrev pub explanation_said : List ℕ → Option (List ℕ) → Said
explanation_said word (Some text) = record { text = text; status = 0 }
explanation_said word None =
    said (codes "error: '"
    ++ (word ++ codes "' is no refusal and no rule: plistconv explain lists them")) 3

abbrev pub word_said : List ℕ → Said
word_said word = explanation_said word (explanation_of word)

-- the result of `explain`: the explanation of a word, or without one a line for each subject
abbrev pub explained_said : Option (List ℕ) → Said
explained_said (Some word) = word_said word
explained_said None = record { text = all_lines; status = 0 }

-- the refusal of one of two files, with the path of that file
abbrev pub pair_refusal : List ℕ → List ℕ → PairFault → Said
pair_refusal first second (First fault) = refusal first fault
pair_refusal first second (Second fault) = refusal second fault

-- equal texts and equal statuses
abbrev pub Says : Said → Said → Type 0
Says s t = (s.text ≡ t.text) × (s.status ≡ t.status)

-- the line of the verdict that is true of the bytes
pub record IsJudged (named : Bool) (path octets : List ℕ) (s : Said) : Type 0 where
  pub verdict : Verdict
  pub laid : IsLaid octets
  pub stands : IsVerdict octets verdict
  pub canonical : (verdict ≡ Canonical) ↔ IsCanonical octets
  pub says : Says s (verdict_said named path verdict)

-- the line of a fault of the layout, or out of memory
pub record IsUnchecked (octets path : List ℕ) (s : Said) : Type 0 where
  pub fault : CheckFault
  pub stands : IsCheckFault octets fault
  pub says : Says s (refusal path (check_fault_for fault))

-- the result of `check` for a file, whose path the line of a verdict has or not
abbrev pub IsCheckAnswerOf : (named : Bool) → List ℕ → List ℕ → Said → Type 0
IsCheckAnswerOf named path octets s = IsJudged named path octets s ⊎ IsUnchecked octets path s

-- the result of `check` for one file, unless its path is asked for
abbrev pub IsCheckAnswer : List ℕ → List ℕ → Said → Type 0
IsCheckAnswer = IsCheckAnswerOf false

-- the line of a refusal with this cause
pub record IsRefusalFor (Cause : Fault → Type 0) (path : List ℕ) (s : Said) : Type 0 where
  pub fault : Fault
  pub cause : Cause fault
  pub says : Says s (refusal path fault)

-- the line of bytes that encode a value
pub record IsAcceptedAnswer (path octets : List ℕ) (s : Said) : Type 0 where
  pub value : Plist
  pub accepted : IsAccepted octets value
  pub says : Says s (accepted_said path)

-- the result of `lint`
abbrev pub IsLintAnswer : List ℕ → List ℕ → Said → Type 0
IsLintAnswer path octets s =
    IsAcceptedAnswer path octets s ⊎ IsRefusalFor (IsRefused octets) path s

-- the result of a task for a file
abbrev pub AnswersTask : Task → List ℕ → List ℕ → Said → Type 0
AnswersTask (task.Check named) = IsCheckAnswerOf named
AnswersTask task.Lint = IsLintAnswer

-- the word for two values that are equal or different
pub record IsComparison (a b : List ℕ) (s : Said) : Type 0 where
  pub equal : Bool
  pub pair : IsPair a b equal
  pub says : Says s (equality_said equal)

-- the line of a refusal of one of two inputs
pub record IsRefusedComparison (first second a b : List ℕ) (s : Said) : Type 0 where
  pub fault : PairFault
  pub refused : IsRefusedPair a b fault
  pub says : Says s (pair_refusal first second fault)

-- the result of `same`
abbrev pub IsSameAnswer : List ℕ → List ℕ → List ℕ → List ℕ → Said → Type 0
IsSameAnswer first second a b s = IsComparison a b s ⊎ IsRefusedComparison first second a b s
