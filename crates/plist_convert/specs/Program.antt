-- The complete program: the arguments, the state before and after, and the exit status.
use Rattle.std.specs.Prelude.{◌≡◌, ◌⊎◌, ℕ, IfSome, List, [], Option, Some, None}
use Rattle.clap.specs.Words.{Kinds, Text}
use Rattle.plist_convert.specs.Asked.{Asked, Filters, Converts, Compares, Lints, Checks, Prints}
use Rattle.plist_convert.specs.Asked.{Explains, asked_unparsed}
use Rattle.plist_convert.specs.Reading.{IsParse}
use Rattle.plist_convert.specs.Ending.{HaveFailed}
use Rattle.plist_convert.specs.Explaining.{IsExplained}
use Rattle.plist_convert.specs.Runs.{IsCheckRun, IsConvertRun, IsExplainRun, IsFilterRun, IsLintRun}
use Rattle.plist_convert.specs.Runs.{IsPrintRun, IsSameRun}
use Rattle.plist_convert.specs.State.{Input, State, input_of, state}

-- no file and no count of file failures changes
abbrev pub KeepsDisk : State → State → Type 0
KeepsDisk before after = (after.files ≡ before.files) × (after.disk_failures ≡ before.disk_failures)

-- the request is executed
unfoldable pub IsAskedRun : Asked → Input → Input → State → State → ℕ → Type 0
IsAskedRun Filters input rest before after status =
    KeepsDisk before after × IsFilterRun input rest before after status
IsAskedRun (Converts form from to) input rest before after status =
    (rest ≡ input) × IsConvertRun form from to before after status
IsAskedRun (Compares first second) input rest before after status =
    (rest ≡ input) × IsSameRun first second before after status
IsAskedRun (Lints paths) input rest before after status =
    (rest ≡ input) × IsLintRun paths before after status
IsAskedRun (Checks named paths) input rest before after status =
    (rest ≡ input) × IsCheckRun named paths before after status
IsAskedRun (Prints path) input rest before after status =
    (rest ≡ input) × IsPrintRun path before after status
IsAskedRun (Explains what) input rest before after status =
    (rest ≡ input) × (KeepsDisk before after × IsExplainRun what before after status)

-- the parser takes the arguments, and this is their request
pub record AreTaken (words : List Text) (it : Asked) : Type 0 where
  pub kinds : Kinds
  pub asked : Option Asked
  pub parse : IsParse words kinds asked
  pub taken : kinds ≡ []
  pub is : asked ≡ Some it

-- the request of the arguments, of which the first is the program's name
pub record AskFor (words : List Text) (it : Asked) : Type 0 where
  pub unparsed : IfSome (asked_unparsed words) (λ asked. it ≡ asked)
  pub parsed : asked_unparsed words ≡ None → AreTaken words it

-- the request of the arguments is executed
pub record IsObeyed (words : List Text) (input rest : Input) (before after : State)
    (status : ℕ) : Type 0 where
  pub it : Asked
  pub asks : AskFor words it
  pub done : IsAskedRun it input rest before after status

-- the arguments are refused, or ask for help
pub record IsRefusedRun (words : List Text) (input rest : Input) (before after : State)
    (status : ℕ) : Type 0 where
  pub parsed : asked_unparsed words ≡ None
  pub untouched : rest ≡ input
  pub explained : IsExplained words before after status

-- a run of the program
abbrev pub IsRun : List Text → Input → Input → State → State → ℕ → Type 0
IsRun words input rest before after status =
    IsObeyed words input rest before after status
    ⊎ IsRefusedRun words input rest before after status

-- A run on the files of the host, whose contents are unknown, with this standard input, of which
-- the rest is left. Its devices and streams may fail any number of times.
abbrev pub IsHostRun : List Text → Option (List ℕ) → Option (List ℕ) → Option (List ℕ)
    → Option (List ℕ) → ℕ → Type 0
IsHostRun words to_come rest printed prints status =
    (take_failed : ℕ) × (disk_failed : ℕ) × (print_failed : ℕ)
    × IsRun words (input_of to_come 0) (input_of rest take_failed) (state None 0 printed 0)
    (state None disk_failed prints print_failed) status

-- A device failed during the call: the count of failures of the input, of the files or of the
-- output rose, or is at the maximum.
abbrev pub DeviceFailed : Input → Input → State → State → Type 0
DeviceFailed input rest before after =
    HaveFailed input.failures rest.failures
    ⊎ (HaveFailed before.disk_failures after.disk_failures
    ⊎ HaveFailed before.print_failures after.print_failures)
