-- Derives the run of a command from the contracts of its parts.
use Rattle.std.proofs.Common.{ap₂, inl, inr, refl, subst, Err, List, None, Ok, Result, ℕ, ◌≡◌, ◌⊎◌}
use Rattle.std.specs.Prelude.{IfOk, MatchResult}
use Rattle.std.specs.declared.alloc.AllocError.{AllocError}
use Rattle.clap.specs.Words.{Text, kind_of}
use Rattle.clap.specs.declared.Error.{Error}
use Rattle.plist_convert.specs.Asked.{asked_unparsed}
use Rattle.plist_convert.specs.Files.{FileName, FileHolds, SameFiles}
use Rattle.plist_convert.specs.Reading.{IsReading}
use Rattle.plist_convert.specs.declared.answers.Answer.{Answer}
use Rattle.plist_convert.specs.Answer.{IsSameAnswer, Said, Says, said_of}
use Rattle.plist_convert.specs.Ending.{Prints, no_memory}
use Rattle.plist_convert.specs.Explaining.{Explains}
use Rattle.plist_convert.specs.Program.{IsRefusedRun}
use Rattle.plist_convert.specs.Runs.{IsCompared, IsFileRun, IsWanting}
use Rattle.plist_convert.specs.State.{Ending, Input, State}

-- what printing a result ensures
abbrev pub Gives : State → State → Result Answer AllocError → ℕ → Type 0
Gives before after answer status = MatchResult answer
    (λ a. Prints before.printed after.printed before.print_failures after.print_failures (said_of a) status)
    (λ _. Prints before.printed after.printed before.print_failures after.print_failures no_memory status)

pub file_answered : (Answers : List ℕ → Said → Type 0) (path : FileName) (before after : State) (status : ℕ) (octets : List ℕ)
    (answer : Result Answer AllocError) → FileHolds before.files path octets → SameFiles before.files after.files
    → after.disk_failures ≡ before.disk_failures → IfOk answer (λ a. Answers octets (said_of a)) → Gives before after answer status
    → IsFileRun Answers path before after status
file_answered Answers path before after status octets (Ok a) holds kept unfailed answers prints = inr (inl (record {
  octets = octets;
  stands = holds;
  said = said_of a;
  answers = answers;
  kept = kept;
  unfailed = unfailed;
  ends = inl prints;
}))
file_answered Answers path before after status octets (Err e) holds kept unfailed answers prints =
    inr (inr (record { kept = kept; unfailed = unfailed; ends = prints }))

pub files_compared : (first second : FileName) (before after : State) (status : ℕ) (a b : List ℕ) (answer : Result Answer AllocError)
    → FileHolds before.files first a → FileHolds before.files second b → SameFiles before.files after.files
    → after.disk_failures ≡ before.disk_failures → IfOk answer (λ r. IsSameAnswer first second a b (said_of r))
    → Gives before after answer status
    → IsCompared first second before after status ⊎ IsWanting before after status
files_compared first second before after status a b (Ok r) holds_a holds_b kept unfailed answers prints = inl (record {
  a = a;
  b = b;
  first_stands = holds_a;
  second_stands = holds_b;
  said = said_of r;
  answers = answers;
  kept = kept;
  unfailed = unfailed;
  ends = inl prints;
})
files_compared first second before after status a b (Err e) holds_a holds_b kept unfailed answers prints =
    inr (record { kept = kept; unfailed = unfailed; ends = prints })

says_same : (s t : Said) → Says s t → s ≡ t
says_same s t says = ap₂ (λ text status. record { text = text; status = status }) says.0 says.1

-- a known result is printed
pub answer_ends : (said : Said) (before after : State) (status : ℕ) (answer : Result Answer AllocError)
    → IfOk answer (λ a. Says (said_of a) said) → Gives before after answer status → Ending before after said status
answer_ends said before after status (Ok a) says prints =
    inl (subst (λ s. Prints before.printed after.printed before.print_failures after.print_failures s status) (says_same (said_of a) said says) prints)
answer_ends said before after status (Err e) says prints = inr prints

-- the arguments are refused
pub refused_run : (words : List Text) (input : Input) (before after : State) (error : Error) (status : ℕ) → asked_unparsed words ≡ None
    → IsReading words (Err error) → after.files ≡ before.files → after.disk_failures ≡ before.disk_failures
    → Explains (kind_of error) before.printed after.printed before.print_failures after.print_failures status
    → IsRefusedRun words input input before after status
refused_run words input before after error status parsed r files failures ends = record {
  parsed = parsed;
  untouched = refl;
  explained = record {
    kinds = r.kinds;
    asked = r.asked;
    parse = r.parse;
    error = kind_of error;
    among = r.refused;
    nothing = r.nothing;
    files = files;
    disk_failures = failures;
    ends = ends;
  };
}
