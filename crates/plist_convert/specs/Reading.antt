-- How arguments are parsed.
use Rattle.std.specs.Prelude.{◌≡◌, ◌≢◌, ◌⊎◌, List, [], Option, Some, None, Result, IfErr, IfOk}
use Rattle.clap.specs.Words.{App, HasKind, Kinds, Text, fault_of, kind_of, subcommand_of}
use Rattle.clap.specs.declared.Error.{Error}
use Rattle.clap.specs.declared.error.ErrorKind.TheVariants.{OutOfMemory}
use Rattle.plist_convert.specs.Asked.{Asked, asked_at, asked_by}
use Rattle.plist_convert.specs.CommandLine.{IsProgram}
use Rattle.plist_convert.specs.declared.request.Request.{Request}

-- The result of the parser for these arguments: the kinds of error, none if it takes them, and the
-- request that they then are.
pub record IsParse (words : List Text) (kinds : Kinds) (asked : Option Asked) : Type 0 where
  pub app : App
  pub program : IsProgram app
  pub kinds_are : kinds ≡ fault_of app words
  pub asked_is : asked ≡ asked_at (subcommand_of app words)

-- The result of reading the arguments. It is their request only if the parser takes them, and an
-- error of one of its kinds if it does not. Otherwise it is an error only if they are no request,
-- or if out of memory.
pub record IsReading (words : List Text) (result : Result Request Error) : Type 0 where
  pub kinds : Kinds
  pub asked : Option Asked
  pub parse : IsParse words kinds asked
  pub taken : IfOk result (λ request. (kinds ≡ []) × (asked ≡ Some (asked_by request)))
  pub refused : IfErr result (λ error. kinds ≢ [] → HasKind kinds error)
  pub nothing : IfErr result (λ error. kinds ≡ [] → (asked ≡ None) ⊎ (kind_of error ≡ OutOfMemory))
