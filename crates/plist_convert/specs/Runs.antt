-- What each command does, as a relation between the states before and after.
use Rattle.std.specs.Prelude.{◌≡◌, ◌⊎◌, ◌||◌, ℕ, ◌<◌, Bool, List, [], ◌∷◌, length, max, nat_lt}
use Rattle.std.specs.Prelude.{Option, Result, MatchResult, codes}
use Rattle.plist_devices.specs.Count.{one_more}
use Rattle.plist_forms.specs.Accepted.{IsCanonicalOf}
use Rattle.plist_forms.specs.Fault.{write_fault_for}
use Rattle.plist_forms.specs.Load.{Takes}
use Rattle.plist_forms.specs.Printed.{IsPrintOf}
use Rattle.plist_forms.specs.Refusals.{IsRefused}
use Rattle.plist_forms.specs.declared.faults.Fault.{Fault}
use Rattle.plist_forms.specs.declared.faults.Fault.TheVariants as refusal_kind
use Rattle.plist_forms.specs.declared.forms.Form.{Form}
use Rattle.plist_forms.specs.declared.loading.TheConstants.{MAX_INPUT}
use Rattle.plist_write.specs.Sending.{IsWritten}
use Rattle.plist_write.specs.declared.faults.WriteFault.{WriteFault}
use Rattle.plist_forms.specs.Output.{IsOutput, IsOutputFault}
use Rattle.plist_forms.specs.Transfer.{IsInput}
use Rattle.plist_convert.specs.Files.{FileName, FileHolds, IsStored, IsUnloaded, SameFiles}
use Rattle.plist_convert.specs.Answer.{IsCheckAnswerOf, IsLintAnswer, IsRefusalFor}
use Rattle.plist_convert.specs.Answer.{IsSameAnswer, Said, explained_said, refusal}
use Rattle.plist_convert.specs.Ending.{Ends, HaveFailed}
use Rattle.plist_convert.specs.State.{Ending, Input, State, Wanting}

-- The file at the path is not loaded, and the line of that refusal is printed.
pub record IsUnread (path : FileName) (before after : State) (status : ℕ) : Type 0 where
  pub fault : Fault
  pub cause : IsUnloaded before.files path before.disk_failures after.disk_failures fault
  pub kept : SameFiles before.files after.files
  pub ends : Ending before after (refusal path fault) status

-- The result for the bytes at the path is printed.
pub record IsAnswered (Answers : List ℕ → Said → Type 0) (path : FileName) (before after : State)
    (status : ℕ) : Type 0 where
  pub octets : List ℕ
  pub stands : FileHolds before.files path octets
  pub said : Said
  pub answers : Answers octets said
  pub kept : SameFiles before.files after.files
  pub unfailed : after.disk_failures ≡ before.disk_failures
  pub ends : Ending before after said status

-- Out of memory for the result.
pub record IsWanting (before after : State) (status : ℕ) : Type 0 where
  pub kept : SameFiles before.files after.files
  pub unfailed : after.disk_failures ≡ before.disk_failures
  pub ends : Wanting before after status

-- A command that prints a result for one file.
abbrev pub IsFileRun : (List ℕ → Said → Type 0) → FileName → State → State → ℕ → Type 0
IsFileRun Answers path before after status =
    IsUnread path before after status
    ⊎ (IsAnswered Answers path before after status ⊎ IsWanting before after status)

-- The run of one path, and then those of others, unless its line cannot be printed: then the run
-- ends with 4.
pub record IsFollowed (One : State → State → ℕ → Type 0)
    (Others : (least : ℕ) → State → State → ℕ → Type 0)
    (least : ℕ) (before after : State) (status : ℕ) : Type 0 where
  pub middle : State
  pub own : ℕ
  pub done : One before middle own
  pub printed : (HaveFailed before.print_failures middle.print_failures → ⊥)
      → Others (max least own) middle after status
  pub cut : HaveFailed before.print_failures middle.print_failures
      → (after ≡ middle) × (status ≡ 4)

-- The results for each of the files are printed, in the order given. The status is the greatest of
-- theirs and the least one, but 4 if a line cannot be printed: its path is then the last.
unfoldable pub IsRunOfEach : (FileName → List ℕ → Said → Type 0) → List FileName → (least : ℕ)
    → State → State → ℕ → Type 0
IsRunOfEach Answers [] least before after status = (after ≡ before) × (status ≡ least)
IsRunOfEach Answers (path ∷ rest) least before after status =
    IsFollowed (IsFileRun (Answers path) path) (IsRunOfEach Answers rest) least before after status

-- Each line of `check` has its path: it is asked for, or there are several.
abbrev pub are_named : (named : Bool) → List FileName → Bool
are_named named paths = named || nat_lt 1 (length paths)

-- `check [--with-filename] IN..`
abbrev pub IsCheckRun : (named : Bool) → List FileName → State → State → ℕ → Type 0
IsCheckRun named paths = IsRunOfEach (IsCheckAnswerOf (are_named named paths)) paths 0

-- `lint IN..`
abbrev pub IsLintRun : List FileName → State → State → ℕ → Type 0
IsLintRun paths = IsRunOfEach IsLintAnswer paths 0

-- The first file is loaded, and the second is not.
pub record IsSecondUnread (first second : FileName) (before after : State)
    (status : ℕ) : Type 0 where
  pub octets : List ℕ
  pub stands : FileHolds before.files first octets
  pub unread : IsUnread second before after status

-- The result for the bytes at the two paths is printed.
pub record IsCompared (first second : FileName) (before after : State) (status : ℕ) : Type 0 where
  pub a : List ℕ
  pub b : List ℕ
  pub first_stands : FileHolds before.files first a
  pub second_stands : FileHolds before.files second b
  pub said : Said
  pub answers : IsSameAnswer first second a b said
  pub kept : SameFiles before.files after.files
  pub unfailed : after.disk_failures ≡ before.disk_failures
  pub ends : Ending before after said status

-- `same A B`
unfoldable pub IsSameRun : FileName → FileName → State → State → ℕ → Type 0
IsSameRun first second before after status =
    IsUnread first before after status ⊎ (IsSecondUnread first second before after status
    ⊎ (IsCompared first second before after status ⊎ IsWanting before after status))

-- how the program ends after a file was sent: it prints nothing more if all was sent, and otherwise
-- the line of the refusal
abbrev pub EndsSending : Option (List ℕ) → Option (List ℕ) → ℕ → ℕ → (Fault → Said)
    → Result ℕ WriteFault → ℕ → Type 0
EndsSending old new before after line result status = MatchResult result
    (λ _. (status ≡ 0) × (new ≡ old) × (after ≡ before))
    (λ fault. Ends old new before after (line (write_fault_for fault)) status)

-- The bytes are printed completely, or exactly a prefix if printing failed or memory ran out. After
-- a prefix, the line of the refusal is printed, starting from what was printed and the failures of
-- printing so far.
pub record IsSentOut (line : Fault → Said) (octets : List ℕ) (before after : State)
    (status : ℕ) : Type 0 where
  pub sent : Result ℕ WriteFault
  pub printed : Option (List ℕ)
  pub failures : ℕ
  pub written : IsWritten octets before.printed printed before.print_failures failures sent
  pub ends : EndsSending printed after.printed failures after.print_failures line sent status

-- the path in the line of a refusal of a conversion: OUT if it cannot be written, otherwise IN
abbrev pub path_of_fault : FileName → FileName → Fault → FileName
path_of_fault from to (refusal_kind.WriteFailed sent) = to
path_of_fault from to _ = from

-- the line of a refusal of a conversion
abbrev pub refusal_between : FileName → FileName → Fault → Said
refusal_between from to fault = refusal (path_of_fault from to fault) fault

-- The output for the bytes at one path is stored at the other, up to a refusal if there is one. No
-- other file changes.
pub record IsConverted (form : Form) (from to : FileName) (before after : State)
    (status : ℕ) : Type 0 where
  pub octets : List ℕ
  pub stands : FileHolds before.files from octets
  pub file : List ℕ
  pub of : IsOutput form octets file
  pub sent : Result ℕ WriteFault
  pub stored : IsStored before.files after.files before.disk_failures after.disk_failures to file
      sent
  pub ends : EndsSending before.printed after.printed before.print_failures after.print_failures
      (refusal_between from to) sent status

-- `convert FORM IN OUT`
unfoldable pub IsConvertRun : Form → FileName → FileName → State → State → ℕ → Type 0
IsConvertRun form from to before after status =
    IsUnread from before after status
    ⊎ (IsAnswered (λ octets. IsRefusalFor (IsOutputFault form octets) from) from before after status
    ⊎ IsConverted form from to before after status)

-- the path of standard input and standard output in printed lines
abbrev pub standard : FileName
standard = codes "-"

-- The text of the value at the path is printed.
pub record IsPrintedRun (path : FileName) (before after : State) (status : ℕ) : Type 0 where
  pub octets : List ℕ
  pub stands : FileHolds before.files path octets
  pub kept : SameFiles before.files after.files
  pub unfailed : after.disk_failures ≡ before.disk_failures
  pub text : List ℕ
  pub of : IsPrintOf octets text
  pub sends : IsSentOut (refusal_between path standard) text before after status

-- `print IN`
unfoldable pub IsPrintRun : FileName → State → State → ℕ → Type 0
IsPrintRun path before after status =
    IsUnread path before after status
    ⊎ (IsAnswered (λ octets. IsRefusalFor (IsRefused octets) path) path before after status
    ⊎ IsPrintedRun path before after status)

-- `explain WHAT`
unfoldable pub IsExplainRun : Option (List ℕ) → State → State → ℕ → Type 0
IsExplainRun what before after status = Ending before after (explained_said what) status

-- The bytes are all of the input, which was read to its end without a failure.
pub record IsTaken (input rest : Input) (octets : List ℕ) : Type 0 where
  pub all : IsInput input.to_come rest.to_come octets
  pub unfailed : rest.failures ≡ input.failures

-- why the input was not loaded: a take failed, once; or the input is longer than the limit; or out
-- of memory
abbrev pub IsUntaken : Input → Input → Fault → Type 0
IsUntaken input rest refusal_kind.ReadFailed = rest.failures ≡ one_more input.failures
IsUntaken input rest refusal_kind.InputTooLarge =
    Takes input.to_come rest.to_come (λ taken. MAX_INPUT < length taken)
    × (rest.failures ≡ input.failures)
IsUntaken input rest (refusal_kind.OutOfMemory sent) = (sent ≡ 0) × (rest.failures ≡ input.failures)
IsUntaken input rest _ = ⊥

-- why there is no canonical file of the input: it was not loaded, or it is refused
abbrev pub IsInputFault : Input → Input → Fault → Type 0
IsInputFault input rest fault =
    IsUntaken input rest fault
    ⊎ ((octets : List ℕ) × IsTaken input rest octets × IsRefused octets fault)

-- The input is refused, and only the line of the refusal is printed.
pub record IsUnfiltered (input rest : Input) (before after : State) (status : ℕ) : Type 0 where
  pub fault : Fault
  pub cause : IsInputFault input rest fault
  pub ends : Ending before after (refusal standard fault) status

-- The canonical file of the input is written to the output.
pub record IsFiltered (input rest : Input) (before after : State) (status : ℕ) : Type 0 where
  pub octets : List ℕ
  pub taken : IsTaken input rest octets
  pub file : List ℕ
  pub canonical : IsCanonicalOf octets file
  pub sends : IsSentOut (refusal standard) file before after status

-- no arguments
unfoldable pub IsFilterRun : Input → Input → State → State → ℕ → Type 0
IsFilterRun input rest before after status =
    IsUnfiltered input rest before after status ⊎ IsFiltered input rest before after status
