-- The request of arguments that the program's parser takes.
use Rattle.std.proofs.Common.{ap, inl, inr, refl, sym, Err, List, Ok, Option, None, Result, Some, [], ◌∷◌, ◌∙◌, ◌≡◌}
use Rattle.std.specs.Prelude.{IfErr, IfOk, option_map}
use Rattle.clap.specs.Words.{App, HasKind, HasMatchesOf, Kinds, Text, fault_of, kind_of, subcommand_of, subcommand_rows_of}
use Rattle.clap.specs.declared.Error.{Error}
use Rattle.clap.specs.declared.error.ErrorKind.TheVariants.{OutOfMemory}
use Rattle.clap.specs.declared.parser.matches.ArgMatches.{ArgMatches}
use Rattle.plist_convert.specs.Asked.{asked_at, asked_by}
use Rattle.plist_convert.specs.CommandLine.{IsProgram}
use Rattle.plist_convert.specs.Reading.{IsParse, IsReading}
use Rattle.plist_convert.specs.declared.request.Request.{Request}
use Rattle.plist_convert.proofs.CommandLine.{program_simple}

-- the result of the parser for the arguments
pub parse_of : (a : App) (words : List Text) → IsProgram a
    → IsParse words (fault_of a words) (asked_at (subcommand_of a words))
parse_of a words p = record { app = a; program = p; kinds_are = refl; asked_is = refl }

only_memory : (kinds : Kinds) (error : Error) → kinds ≡ [] → HasKind kinds error → kind_of error ≡ OutOfMemory
only_memory kinds error none (inl memory) = memory
only_memory [] error none (inr among) = absurd among
only_memory (k ∷ ks) error none (inr among) = cc

-- the arguments are refused, or out of memory
pub read_refused : (a : App) (words : List Text) (result : Result Request Error) → IsProgram a → IfOk result (λ _. ⊥)
    → IfErr result (λ error. HasKind (fault_of a words) error) → IsReading words result
read_refused a words (Ok request) p failed kind = absurd failed
read_refused a words (Err error) p failed kind = record {
  kinds = fault_of a words;
  asked = asked_at (subcommand_of a words);
  parse = parse_of a words p;
  taken = tt;
  refused = λ _. kind;
  nothing = λ none. inr (only_memory (fault_of a words) error none kind);
}

-- the request of the matches of the arguments
asked_is : (a : App) (words : List Text) (m : ArgMatches) (found : Option Request) → IsProgram a → HasMatchesOf a words m
    → option_map asked_by found ≡ asked_at (subcommand_rows_of m)
    → asked_at (subcommand_of a words) ≡ option_map asked_by found
asked_is a words m found p matches asks =
    sym (asks ∙ ap asked_at (matches (program_simple a p)).1)

-- the arguments are a request
pub read_taken : (a : App) (words : List Text) (m : ArgMatches) (request : Request) → IsProgram a → HasMatchesOf a words m
    → fault_of a words ≡ [] → option_map asked_by (Some request) ≡ asked_at (subcommand_rows_of m)
    → IsReading words (Ok request)
read_taken a words m request p matches none asks = record {
  kinds = fault_of a words;
  asked = asked_at (subcommand_of a words);
  parse = parse_of a words p;
  taken = (none, asked_is a words m (Some request) p matches asks);
  refused = tt;
  nothing = tt;
}

-- the arguments are taken, but are no request
pub read_nothing : (a : App) (words : List Text) (m : ArgMatches) (result : Result Request Error) → IsProgram a → HasMatchesOf a words m
    → fault_of a words ≡ [] → option_map asked_by None ≡ asked_at (subcommand_rows_of m) → IfOk result (λ _. ⊥)
    → IsReading words result
read_nothing a words m (Ok request) p matches none asks failed = absurd failed
read_nothing a words m (Err error) p matches none asks failed = record {
  kinds = fault_of a words;
  asked = asked_at (subcommand_of a words);
  parse = parse_of a words p;
  taken = tt;
  refused = λ some. absurd (some none);
  nothing = λ _. inl (asked_is a words m None p matches asks);
}
