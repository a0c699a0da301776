-- The exit status is 4 only if a device failed.
use Rattle.std.proofs.Common.{arith, inl, inr, refl, sym, Err, List, [], ◌∷◌, None, Ok, Option, Result, Some, ℕ, ◌∙◌, ◌≡◌, ◌⊎◌}
use Rattle.std.specs.Prelude.{◌≢◌, Bool, true, false, max}
use Rattle.std.specs.Bool.{◌==◌}
use Rattle.std.proofs.lemmas.Bool.{cases_lt}
use Rattle.clap.specs.Words.{Text}
use Rattle.clap.specs.declared.error.ErrorKind.{ErrorKind}
use Rattle.clap.specs.declared.error.ErrorKind.TheVariants as kind
use Rattle.plist_explain.specs.Topics.{explanation_of}
use Rattle.plist_binary.specs.Codes.{fault_code}
use Rattle.plist_binary.specs.declared.fault.BinaryFault.{BinaryFault}
use Rattle.plist_binary.specs.declared.fault.BinaryFault.TheVariants as binary
use Rattle.plist_devices.specs.Count.{one_more}
use Rattle.ostep_text.specs.Fault as of_text
use Rattle.ostep_text.specs.declared.fault.TextFault.{TextFault}
use Rattle.ostep_text.specs.declared.fault.TextFault.TheVariants as text
use Rattle.plist_canon.specs.declared.checking.CheckFault.{CheckFault}
use Rattle.plist_canon.specs.declared.checking.CheckFault.TheVariants as check
use Rattle.plist_canon.specs.declared.checking.Verdict.{Verdict}
use Rattle.plist_canon.specs.declared.checking.Verdict.TheVariants as verdict
use Rattle.plist_forms.specs.Fault.{check_fault_for, code_of, status_for}
use Rattle.plist_forms.specs.Refusals.{FaultStands, IsRefused}
use Rattle.plist_forms.specs.declared.faults.Fault.{Fault}
use Rattle.plist_forms.specs.declared.faults.Fault.TheVariants.{Binary, Text as OfText, ReadFailed, WriteFailed, InputTooLarge, OutOfMemory}
use Rattle.plist_forms.specs.declared.pairs.PairFault.{PairFault}
use Rattle.plist_forms.specs.declared.pairs.PairFault.TheVariants.{First, Second}
use Rattle.plist_forms.specs.Pair.{IsRefusedPair}
use Rattle.plist_write.specs.Sending.{IsWritten}
use Rattle.plist_write.specs.declared.faults.WriteFault.{WriteFault}
use Rattle.plist_write.specs.declared.faults.WriteFault.TheVariants as write
use Rattle.plist_forms.specs.Output.{IsOutputFault}
use Rattle.plist_convert.specs.Files.{FileName, Files, IsStored, IsUnloaded}
use Rattle.plist_convert.specs.Asked.{Asked, Filters, Converts, Compares, Lints, Checks}
use Rattle.plist_convert.specs.Asked as asked
use Rattle.plist_forms.specs.declared.forms.Form.{Form}
use Rattle.plist_convert.specs.Answer.{IsCheckAnswerOf, IsLintAnswer, IsRefusalFor, IsSameAnswer, Said, Says, equality_said, explained_said, explanation_said, pair_refusal, refusal}
use Rattle.plist_convert.specs.Ending.{Ends, HaveFailed, Prints, no_memory}
use Rattle.plist_convert.specs.Explaining.{Explains, said_of_kind, status_of_kind}
use Rattle.plist_convert.specs.Program.{DeviceFailed, IsAskedRun, IsRun}
use Rattle.plist_convert.specs.Runs.{EndsSending, IsAnswered, IsConvertRun, IsExplainRun, IsFileRun, IsFilterRun, IsInputFault, IsPrintRun, IsRunOfEach, IsSameRun, IsSentOut, IsUnread, IsWanting, refusal_between, standard}
use Rattle.plist_convert.specs.State.{Ending, Input, State}
use Rattle.plist_convert.specs.Verdicts.{verdict_status_for}
use Rattle.plist_convert.proofs.Each.{Results, failed_or_not}

-- a number that is not 4
no_four : {n : ℕ} → (n == 4) ≡ false → n ≢ 4
no_four {n = n} other four = absurd (let no : (4 == 4) ≡ false = rw four at other in cc)

-- no refusal of the bytes has the status of a failed device

binary_quiet : (fault : BinaryFault) → status_for (fault_code fault) ≢ 4
binary_quiet binary.OutOfMemory = no_four refl
binary_quiet _ = no_four refl

text_quiet : (fault : TextFault) → status_for (of_text.code_of fault) ≢ 4
text_quiet text.OutOfMemory = no_four refl
text_quiet _ = no_four refl

stands_quiet : (octets : List ℕ) (fault : Fault) → FaultStands octets fault → status_for (code_of fault) ≢ 4
stands_quiet octets (Binary fault) stands = binary_quiet fault
stands_quiet octets (OfText fault) stands = text_quiet fault
stands_quiet octets (OutOfMemory sent) stands = no_four refl
stands_quiet octets _ stands = absurd stands

-- no result for the bytes has the status of a failed device

says_quiet : (s t : Said) → Says s t → t.status ≢ 4 → s.status ≢ 4
says_quiet s t says quiet four = quiet (sym says.1 ∙ four)

refused_quiet : (path octets : List ℕ) (s : Said) → IsRefusalFor (IsRefused octets) path s → s.status ≢ 4
refused_quiet path octets s answer = says_quiet s _ answer.says (stands_quiet octets answer.fault answer.cause.stands)

verdict_quiet : (v : Verdict) → verdict_status_for v ≢ 4
verdict_quiet verdict.Canonical = no_four refl
verdict_quiet (verdict.Broken rule i) = no_four refl

check_fault_quiet : (fault : CheckFault) → status_for (code_of (check_fault_for fault)) ≢ 4
check_fault_quiet check.OutOfMemory = no_four refl
check_fault_quiet _ = no_four refl

check_quiet : (several : Bool) (path octets : List ℕ) (s : Said) → IsCheckAnswerOf several path octets s → s.status ≢ 4
check_quiet several path octets s (inl judged) = says_quiet s _ judged.says (verdict_quiet judged.verdict)
check_quiet several path octets s (inr unchecked) = says_quiet s _ unchecked.says (check_fault_quiet unchecked.fault)

lint_quiet : (path octets : List ℕ) (s : Said) → IsLintAnswer path octets s → s.status ≢ 4
lint_quiet path octets s (inl accepted) = says_quiet s _ accepted.says (no_four refl)
lint_quiet path octets s (inr refused) = refused_quiet path octets s refused

equality_quiet : (equal : Bool) → (equality_said equal).status ≢ 4
equality_quiet true = no_four refl
equality_quiet false = no_four refl

pair_quiet : (first second a b : List ℕ) (fault : PairFault) → IsRefusedPair a b fault → (pair_refusal first second fault).status ≢ 4
pair_quiet first second a b (First fault) refused = stands_quiet a fault refused.stands
pair_quiet first second a b (Second fault) refused = stands_quiet b fault refused.1.1.stands

same_quiet : (first second a b : List ℕ) (s : Said) → IsSameAnswer first second a b s → s.status ≢ 4
same_quiet first second a b s (inl compared) = says_quiet s _ compared.says (equality_quiet compared.equal)
same_quiet first second a b s (inr refused) = says_quiet s _ refused.says (pair_quiet first second a b refused.fault refused.refused)

output_quiet : (form : Form) (octets : List ℕ) (fault : Fault) → IsOutputFault form octets fault → status_for (code_of fault) ≢ 4
output_quiet form octets fault (inl refused) = stands_quiet octets fault refused.stands
output_quiet form octets fault (inr none) = rw none.is (no_four refl)

output_refusal_quiet : (form : Form) (path octets : List ℕ) (s : Said) → IsRefusalFor (IsOutputFault form octets) path s → s.status ≢ 4
output_refusal_quiet form path octets s answer = says_quiet s _ answer.says (output_quiet form octets answer.fault answer.cause)

explanation_quiet : (word : List ℕ) (found : Option (List ℕ)) → (explanation_said word found).status ≢ 4
explanation_quiet word (Some text) = no_four refl
explanation_quiet word None = no_four refl

explained_quiet : (what : Option (List ℕ)) → (explained_said what).status ≢ 4
explained_quiet (Some word) = explanation_quiet word (explanation_of word)
explained_quiet None = no_four refl

kind_quiet : (error : ErrorKind) → status_of_kind error ≢ 4
kind_quiet kind.DisplayHelp = no_four refl
kind_quiet kind.DisplayVersion = no_four refl
kind_quiet kind.OutOfMemory = no_four refl
kind_quiet _ = no_four refl

-- after a printed line the status is 4 only if it is the line's own, or if printing failed

failed_once : (before after : ℕ) → after ≡ one_more before → HaveFailed before after
failed_once before after once = elim (cases_lt before 18446744073709551615) [
  | inl below ↦ inl (omega (arith, once, below))
  | inr top ↦ inr (omega (arith, once, top))
]

prints_blamed : (old new : Option (List ℕ)) (before after : ℕ) (s : Said) (status : ℕ) → s.status ≢ 4
    → Prints old new before after s status → status ≡ 4 → HaveFailed before after
prints_blamed old new before after s status quiet (inl usual) four = absurd (quiet (sym usual.0 ∙ four))
prints_blamed old new before after s status quiet (inr failed) four = failed_once before after failed.2

ends_blamed : (old new : Option (List ℕ)) (before after : ℕ) (s : Said) (status : ℕ) → s.status ≢ 4
    → Ends old new before after s status → status ≡ 4 → HaveFailed before after
ends_blamed old new before after s status quiet (inl usual) four = prints_blamed old new before after s status quiet usual four
ends_blamed old new before after s status quiet (inr memory) four = prints_blamed old new before after no_memory status (no_four refl) memory four

-- a device of the disk or of the output failed
abbrev Failed : State → State → Type 0
Failed before after = HaveFailed before.disk_failures after.disk_failures ⊎ HaveFailed before.print_failures after.print_failures

ending_blamed : (before after : State) (s : Said) (status : ℕ) → s.status ≢ 4 → Ending before after s status → status ≡ 4 → Failed before after
ending_blamed before after s status quiet ends four = inr (ends_blamed _ _ _ _ s status quiet ends four)

unread_by : (path : FileName) (before after : State) (status : ℕ) (fault : Fault)
    → IsUnloaded before.files path before.disk_failures after.disk_failures fault → Ending before after (refusal path fault) status
    → status ≡ 4 → Failed before after
unread_by path before after status ReadFailed cause ends four = inl (failed_once _ _ cause.1)
unread_by path before after status InputTooLarge cause ends four = ending_blamed before after (refusal path InputTooLarge) status (no_four refl) ends four
unread_by path before after status (OutOfMemory sent) cause ends four = ending_blamed before after (refusal path (OutOfMemory sent)) status (no_four refl) ends four
unread_by path before after status _ cause ends four = absurd cause

unread_blamed : (path : FileName) (before after : State) (status : ℕ) → IsUnread path before after status → status ≡ 4 → Failed before after
unread_blamed path before after status run four = unread_by path before after status run.fault run.cause run.ends four

answered_blamed : (Answers : List ℕ → Said → Type 0) (path : FileName) (before after : State) (status : ℕ)
    → ((octets : List ℕ) (s : Said) → Answers octets s → s.status ≢ 4) → IsAnswered Answers path before after status
    → status ≡ 4 → Failed before after
answered_blamed Answers path before after status quiet run four =
    ending_blamed before after run.said status (quiet run.octets run.said run.answers) run.ends four

wanting_blamed : (before after : State) (status : ℕ) → IsWanting before after status → status ≡ 4 → Failed before after
wanting_blamed before after status run four = inr (prints_blamed _ _ _ _ no_memory status (no_four refl) run.ends four)

file_blamed : (Answers : List ℕ → Said → Type 0) (path : FileName) (before after : State) (status : ℕ)
    → ((octets : List ℕ) (s : Said) → Answers octets s → s.status ≢ 4) → IsFileRun Answers path before after status
    → status ≡ 4 → Failed before after
file_blamed Answers path before after status quiet (inl unread) four = unread_blamed path before after status unread four
file_blamed Answers path before after status quiet (inr (inl answered)) four = answered_blamed Answers path before after status quiet answered four
file_blamed Answers path before after status quiet (inr (inr wanting)) four = wanting_blamed before after status wanting four

-- a run for each of several paths

-- a count is kept, or rises once
abbrev Counts : ℕ → ℕ → Type 0
Counts before after = (after ≡ before) ⊎ (after ≡ one_more before)

abbrev BothCount : State → State → Type 0
BothCount before after = Counts before.disk_failures after.disk_failures × Counts before.print_failures after.print_failures

prints_count : (old new : Option (List ℕ)) (before after : ℕ) (s : Said) (status : ℕ) → Prints old new before after s status → Counts before after
prints_count old new before after s status (inl usual) = inl usual.2
prints_count old new before after s status (inr failed) = inr failed.2

ends_count : (old new : Option (List ℕ)) (before after : ℕ) (s : Said) (status : ℕ) → Ends old new before after s status → Counts before after
ends_count old new before after s status (inl usual) = prints_count old new before after s status usual
ends_count old new before after s status (inr memory) = prints_count old new before after no_memory status memory

unloaded_counts : (files : Option Files) (path : FileName) (before after : ℕ) (fault : Fault) → IsUnloaded files path before after fault → Counts before after
unloaded_counts files path before after ReadFailed cause = inr cause.1
unloaded_counts files path before after InputTooLarge cause = inl cause.1
unloaded_counts files path before after (OutOfMemory sent) cause = inl cause.1
unloaded_counts files path before after _ cause = absurd cause

file_counts : (Answers : List ℕ → Said → Type 0) (path : FileName) (before after : State) (status : ℕ) → IsFileRun Answers path before after status → BothCount before after
file_counts Answers path before after status (inl unread) =
    (unloaded_counts before.files path _ _ unread.fault unread.cause, ends_count _ _ _ _ (refusal path unread.fault) status unread.ends)
file_counts Answers path before after status (inr (inl answered)) = (inl answered.unfailed, ends_count _ _ _ _ answered.said status answered.ends)
file_counts Answers path before after status (inr (inr wanting)) = (inl wanting.unfailed, prints_count _ _ _ _ no_memory status wanting.ends)

-- a failure is still counted after another step
failed_after : (before middle after : ℕ) → Counts middle after → HaveFailed before middle → HaveFailed before after
failed_after before middle after (inl same) (inl more) = inl (omega (arith, same, more))
failed_after before middle after (inl same) (inr top) = inr (omega (arith, same, top))
failed_after before middle after (inr once) (inr top) = inr (omega (arith, once, top))
failed_after before middle after (inr once) (inl more) = elim (cases_lt middle 18446744073709551615) [
  | inl below ↦ inl (omega (arith, once, more, below))
  | inr top ↦ inr (omega (arith, once, top))
]

-- a failure is counted from an earlier step on
failed_since : (before middle after : ℕ) → Counts before middle → HaveFailed middle after → HaveFailed before after
failed_since before middle after counts (inr top) = inr top
failed_since before middle after (inl same) (inl more) = inl (omega (arith, same, more))
failed_since before middle after (inr once) (inl more) = elim (cases_lt before 18446744073709551615) [
  | inl below ↦ inl (omega (arith, once, more, below))
  | inr top ↦ inr (omega (arith, once, more, top))
]

both_after : (before middle after : State) → BothCount middle after → Failed before middle → Failed before after
both_after before middle after counts (inl disk) = inl (failed_after _ _ _ counts.0 disk)
both_after before middle after counts (inr print) = inr (failed_after _ _ _ counts.1 print)

both_since : (before middle after : State) → BothCount before middle → Failed middle after → Failed before after
both_since before middle after counts (inl disk) = inl (failed_since _ _ _ counts.0 disk)
both_since before middle after counts (inr print) = inr (failed_since _ _ _ counts.1 print)

greatest_four : (a b : ℕ) → max a b ≡ 4 → (a ≡ 4) ⊎ (b ≡ 4)
greatest_four a b four = elim (cases_lt a 4) [
  | inl less ↦ inr (omega (arith, less, four))
  | inr most ↦ inl (omega (arith, most, four))
]

-- a run for each path, where Failed start is true of what went before
each_blamed : (Answers : Results) (paths : List FileName) (start before after : State) (least status : ℕ)
    → ((path octets : List ℕ) (s : Said) → Answers path octets s → s.status ≢ 4)
    → ((later : State) → Failed before later → Failed start later) → (least ≡ 4 → Failed start before)
    → IsRunOfEach Answers paths least before after status → status ≡ 4 → Failed start after
unfolding IsRunOfEach
each_blamed Answers [] start before after least status quiet since so_far run four = rw run.0 (so_far (sym run.1 ∙ four))
each_blamed Answers (path ∷ rest) start before after least status quiet since so_far run four =
    let here : BothCount before run.middle = file_counts (Answers path) path before run.middle run.own run.done in
    elim (failed_or_not before.print_failures run.middle.print_failures) [
      | inl failed ↦ rw (run.cut failed).0 (since run.middle (inr failed))
      | inr printed ↦ each_blamed Answers rest start run.middle after (max least run.own) status quiet
          (λ later failed. since later (both_since before run.middle later here failed))
          (λ greatest. elim (greatest_four least run.own greatest) [
            | inl before_four ↦ both_after start before run.middle here (so_far before_four)
            | inr own_four ↦ since run.middle (file_blamed (Answers path) path before run.middle run.own (quiet path) run.done own_four)
          ])
          (run.printed printed) four
    ]

files_blamed : (Answers : Results) (paths : List FileName) (before after : State) (status : ℕ)
    → ((path octets : List ℕ) (s : Said) → Answers path octets s → s.status ≢ 4)
    → IsRunOfEach Answers paths 0 before after status → status ≡ 4 → Failed before after
files_blamed Answers paths before after status quiet run four =
    each_blamed Answers paths before before after 0 status quiet (λ later failed. failed) (λ four. absurd (no_four {n = 0} refl four)) run four

same_blamed : (first second : FileName) (before after : State) (status : ℕ) → IsSameRun first second before after status → status ≡ 4 → Failed before after
unfolding IsSameRun
same_blamed first second before after status (inl unread) four = unread_blamed first before after status unread four
same_blamed first second before after status (inr (inl unread)) four = unread_blamed second before after status unread.unread four
same_blamed first second before after status (inr (inr (inl run))) four =
    ending_blamed before after run.said status (same_quiet first second run.a run.b run.said run.answers) run.ends four
same_blamed first second before after status (inr (inr (inr wanting))) four = wanting_blamed before after status wanting four

stored_by : (from to : FileName) (file : List ℕ) (before after : State) (status : ℕ) (result : Result ℕ WriteFault)
    → IsStored before.files after.files before.disk_failures after.disk_failures to file result
    → EndsSending before.printed after.printed before.print_failures after.print_failures (refusal_between from to) result status
    → status ≡ 4 → Failed before after
stored_by from to file before after status (Ok sent) stored ends four = absurd (no_four {n = 0} refl (sym ends.0 ∙ four))
stored_by from to file before after status (Err (write.WriteFailed sent)) stored ends four = inl (failed_once _ _ stored.front.1)
stored_by from to file before after status (Err (write.OutOfMemory sent)) stored ends four = ending_blamed before after (refusal from (OutOfMemory sent)) status (no_four refl) ends four

convert_blamed : (form : Form) (from to : FileName) (before after : State) (status : ℕ) → IsConvertRun form from to before after status
    → status ≡ 4 → Failed before after
unfolding IsConvertRun
convert_blamed form from to before after status (inl unread) four = unread_blamed from before after status unread four
convert_blamed form from to before after status (inr (inl refused)) four = answered_blamed _ from before after status (output_refusal_quiet form from) refused four
convert_blamed form from to before after status (inr (inr run)) four =
    stored_by from to run.file before after status run.sent run.stored run.ends four

-- no arguments

unloaded_by : (input rest : Input) (before after : State) (status : ℕ) (fault : Fault) → IsInputFault input rest fault
    → Ending before after (refusal standard fault) status → status ≡ 4 → DeviceFailed input rest before after
unloaded_by input rest before after status fault (inr refused) ends four =
    inr (ending_blamed before after (refusal standard fault) status (stands_quiet refused.0 fault refused.2.stands) ends four)
unloaded_by input rest before after status ReadFailed (inl once) ends four = inl (failed_once _ _ once)
unloaded_by input rest before after status InputTooLarge (inl load) ends four = inr (ending_blamed before after (refusal standard InputTooLarge) status (no_four refl) ends four)
unloaded_by input rest before after status (OutOfMemory sent) (inl load) ends four = inr (ending_blamed before after (refusal standard (OutOfMemory sent)) status (no_four refl) ends four)
unloaded_by input rest before after status _ (inl load) ends four = absurd load

-- a failure of printing is counted, whatever happens to the line that reports it
line_failed : (old new : Option (List ℕ)) (before middle after : ℕ) (s : Said) (status : ℕ) → middle ≡ one_more before
    → Ends old new middle after s status → HaveFailed before after
line_failed old new before middle after s status failed ends =
    failed_after before middle after (ends_count old new middle after s status ends) (failed_once before middle failed)

sending_blamed : (line : Fault → Said) (octets : List ℕ) (before after : State) (status : ℕ)
    → ((n : ℕ) → (line (OutOfMemory n)).status ≢ 4) → IsSentOut line octets before after status → status ≡ 4
    → HaveFailed before.print_failures after.print_failures
sending_blamed line octets before after status quiet sends four = by sends.sent sends.written sends.ends where
  by : (sent : Result ℕ WriteFault) → IsWritten octets before.printed sends.printed before.print_failures sends.failures sent
      → EndsSending sends.printed after.printed sends.failures after.print_failures line sent status
      → HaveFailed before.print_failures after.print_failures
  by (Ok n) written ends = absurd (no_four {n = 0} refl (sym ends.0 ∙ four))
  by (Err (write.WriteFailed n)) written ends = line_failed _ _ _ _ _ (line (WriteFailed n)) status written.front.1 ends
  by (Err (write.OutOfMemory n)) written ends =
      rw written.front.1 at (ends_blamed _ _ _ _ (line (OutOfMemory n)) status (quiet n) ends four)

print_blamed : (path : FileName) (before after : State) (status : ℕ) → IsPrintRun path before after status → status ≡ 4 → Failed before after
unfolding IsPrintRun
print_blamed path before after status (inl unread) four = unread_blamed path before after status unread four
print_blamed path before after status (inr (inl refused)) four = answered_blamed _ path before after status (refused_quiet path) refused four
print_blamed path before after status (inr (inr run)) four =
    inr (sending_blamed (refusal_between path standard) run.text before after status (λ n. no_four refl) run.sends four)

explain_blamed : (what : Option (List ℕ)) (before after : State) (status : ℕ) → IsExplainRun what before after status → status ≡ 4 → Failed before after
unfolding IsExplainRun
explain_blamed what before after status run four = ending_blamed before after (explained_said what) status (explained_quiet what) run four

filter_blamed : (input rest : Input) (before after : State) (status : ℕ) → IsFilterRun input rest before after status → status ≡ 4
    → DeviceFailed input rest before after
unfolding IsFilterRun
filter_blamed input rest before after status (inl run) four = unloaded_by input rest before after status run.fault run.cause run.ends four
filter_blamed input rest before after status (inr run) four =
    inr (inr (sending_blamed (refusal standard) run.file before after status (λ n. no_four refl) run.sends four))

asked_blamed : (it : Asked) (input rest : Input) (before after : State) (status : ℕ) → IsAskedRun it input rest before after status
    → status ≡ 4 → DeviceFailed input rest before after
unfolding IsAskedRun
asked_blamed Filters input rest before after status run four = filter_blamed input rest before after status run.1 four
asked_blamed (Converts form from to) input rest before after status run four = inr (convert_blamed form from to before after status run.1 four)
asked_blamed (Compares first second) input rest before after status run four = inr (same_blamed first second before after status run.1 four)
asked_blamed (Lints paths) input rest before after status run four = inr (files_blamed IsLintAnswer paths before after status lint_quiet run.1 four)
asked_blamed (Checks named paths) input rest before after status run four = inr (files_blamed _ paths before after status (check_quiet _) run.1 four)
asked_blamed (asked.Prints path) input rest before after status run four = inr (print_blamed path before after status run.1 four)
asked_blamed (asked.Explains what) input rest before after status run four = inr (explain_blamed what before after status run.1.1 four)

-- refused arguments

explains_blamed : (old new : Option (List ℕ)) (before after : ℕ) (error : ErrorKind) (status : ℕ) → Explains error old new before after status
    → status ≡ 4 → HaveFailed before after
explains_blamed old new before after error status (inl told) four =
    prints_blamed old new before after (said_of_kind told.text error) status (kind_quiet error) told.prints four
explains_blamed old new before after error status (inr memory) four =
    prints_blamed old new before after no_memory status (no_four refl) memory four

-- the exit status is 4 only if a device failed
pub blamed : (words : List Text) (input rest : Input) (before after : State) (status : ℕ) → IsRun words input rest before after status
    → status ≡ 4 → DeviceFailed input rest before after
blamed words input rest before after status (inl obeyed) four = asked_blamed obeyed.it input rest before after status obeyed.done four
blamed words input rest before after status (inr refused) four =
    inr (inr (explains_blamed _ _ _ _ refused.explained.error status refused.explained.ends four))
