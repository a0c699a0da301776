-- How the program ends if the arguments are refused or ask for help.
use Rattle.std.specs.Prelude.{◌≡◌, ◌≢◌, ◌⊎◌, ℕ, List, [], None, Option, codes, nat_eq, true}
use Rattle.std.specs.List.{starts_with}
use Rattle.clap.specs.Words.{IsAmong, Kinds, Text}
use Rattle.clap.specs.declared.error.ErrorKind.{ErrorKind}
use Rattle.clap.specs.declared.error.ErrorKind.TheVariants as kind
use Rattle.plist_convert.specs.Asked.{Asked}
use Rattle.plist_convert.specs.Reading.{IsParse}
use Rattle.plist_convert.specs.Answer.{Said}
use Rattle.plist_convert.specs.Ending.{Prints, no_memory}
use Rattle.plist_convert.specs.State.{State}

-- the exit status for an error of this kind: help and the version were asked for
abbrev pub status_of_kind : ErrorKind → ℕ
status_of_kind kind.DisplayHelp = 0
status_of_kind kind.DisplayVersion = 0
status_of_kind kind.OutOfMemory = 5
status_of_kind _ = 3

-- any text, with the exit status for an error of this kind
abbrev pub said_of_kind : List ℕ → ErrorKind → Said
said_of_kind text error = record { text = text; status = status_of_kind error }

-- A message for an error with this status. It is not empty, and a usage error begins with `error:
-- `. Out of memory has no message.
pub record IsExplanation (status : ℕ) (text : List ℕ) : Type 0 where
  pub memory : status ≢ 5
  pub some : text ≢ []
  pub mistake : status ≡ 3 → starts_with nat_eq text (codes "error: ") ≡ true

-- A message for the error is printed.
pub record IsTold (error : ErrorKind) (old new : Option (List ℕ))
    (before after status : ℕ) : Type 0 where
  pub text : List ℕ
  pub explains : IsExplanation (status_of_kind error) text
  pub prints : Prints old new before after (said_of_kind text error) status

-- What is printed for an error: a message, or the line for out of memory. It is the latter if the
-- error is out of memory.
abbrev pub Explains : ErrorKind → Option (List ℕ) → Option (List ℕ) → ℕ → ℕ → ℕ → Type 0
Explains error old new before after status =
    IsTold error old new before after status ⊎ Prints old new before after no_memory status

-- The arguments are refused or ask for help. The error has one of the kinds that the parser has for
-- them; the files are unchanged. It is out of memory if the parser takes the arguments and they are
-- a request.
pub record IsExplained (words : List Text) (before after : State) (status : ℕ) : Type 0 where
  pub kinds : Kinds
  pub asked : Option Asked
  pub parse : IsParse words kinds asked
  pub error : ErrorKind
  pub among : kinds ≢ [] → (error ≡ kind.OutOfMemory) ⊎ IsAmong error kinds
  pub nothing : kinds ≡ [] → (asked ≡ None) ⊎ (error ≡ kind.OutOfMemory)
  pub files : after.files ≡ before.files
  pub disk_failures : after.disk_failures ≡ before.disk_failures
  pub ends : Explains error before.printed after.printed before.print_failures after.print_failures
      status
