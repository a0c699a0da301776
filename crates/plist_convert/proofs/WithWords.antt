-- Adding a subcommand to the program's command line.
use Rattle.std.proofs.Common.{ap, refl, true, Err, List, Ok, Result, ◌∙◌, ◌≡◌}
use Rattle.std.specs.Prelude.{IfOk, IsOkAnd}
use Rattle.std.specs.Borrow.{Bor}
use Rattle.std.specs.declared.alloc.AllocError.{AllocError}
use Rattle.clap.specs.Words.{AddsSubcommand, App, Text, app_of, with_subcommand}
use Rattle.clap.specs.declared.builder.Command.{Command}
use Rattle.clap.proofs.SimpleLemmas.{plain_fields}
use Rattle.plist_convert.specs.CommandLine.{IsConvert, NamesForms, convert}

pub adds_word : (old new : Command) (word : Result Command AllocError) (a : App) → a.top.is_plain ≡ true
    → IfOk word (λ added. app_of added ≡ a) → IsOkAnd word (λ added. AddsSubcommand old added new)
    → app_of new ≡ with_subcommand (app_of old) a.top
adds_word old new (Ok added) a plain is adds =
    adds.shape (plain_fields added (ap (λ b. b.top.is_plain) is ∙ plain)).globals
    ∙ ap (λ b. with_subcommand (app_of old) b.top) is
adds_word old new (Err e) a plain is adds = absurd adds

pub adds_convert : (old new : Command) (word : Result Command AllocError) → IfOk word (λ added. IsConvert (app_of added))
    → IsOkAnd word (λ added. AddsSubcommand old added new)
    → (forms : Bor (List (Bor Text))) × NamesForms forms × (app_of new ≡ with_subcommand (app_of old) (convert forms).top)
adds_convert old new (Ok added) line adds =
    (line.forms, line.named, adds_word old new (Ok added) (convert line.forms) refl line.is adds)
adds_convert old new (Err e) line adds = absurd adds
