-- The command line of the program.
use Rattle.std.specs.Prelude.{◌≡◌, List, [], ◌∷◌, Some, true, false, codes, map}
use Rattle.std.specs.Borrow.{Bor}
use Rattle.clap.specs.Lexer.{usize_max}
use Rattle.clap.specs.Words.{App, Rule, Text, new_app, new_rule, with_rule, with_subcommand}
use Rattle.clap.specs.declared.builder.ArgAction.TheVariants.{SetTrue}
use Rattle.clap.specs.declared.builder.ValueParser.TheVariants.{Names}

-- a required argument
abbrev pub file_word : Text → Rule
file_word id = record (new_rule id) { required = true }

-- a required argument with one value or more
abbrev pub file_words : Text → Rule
file_words id =
    record (file_word id)
    { range = Some (record { start_inclusive = 1; end_inclusive = usize_max }) }

-- a flag, such as `--with-filename`
abbrev pub flag_word : Text → Rule
flag_word name = record (new_rule name) { long = Some name; action = Some SetTrue }

-- a command with one file, such as `print IN`
abbrev pub one_file : Text → App
one_file name = with_rule (new_app name) (file_word (codes "IN"))

-- a command with one file or more, such as `lint IN..`
abbrev pub some_files : Text → App
some_files name = with_rule (new_app name) (file_words (codes "IN"))

-- `check [--with-filename] IN..`
abbrev pub check : App
check = with_rule (some_files (codes "check")) (flag_word (codes "with-filename"))

-- `same A B`
abbrev pub same : App
same =
    with_rule (with_rule (new_app (codes "same")) (file_word (codes "A"))) (file_word (codes "B"))

-- `convert FORM IN OUT`, with these values of FORM
abbrev pub convert : Bor (List (Bor Text)) → App
convert forms =
    with_rule (with_rule (with_rule (new_app (codes "convert"))
    (record (file_word (codes "FORM")) { parser = Some (Names forms) })) (file_word (codes "IN")))
    (file_word (codes "OUT"))

-- an optional argument, with one value or more
abbrev pub any_words : Text → Rule
any_words id = record (file_words id) { required = false }

-- `explain WHAT..`, or `explain` alone
abbrev pub explain : App
explain = with_rule (new_app (codes "explain")) (any_words (codes "WHAT"))

-- a command is required
abbrev pub program_top : App
program_top =
    let a = new_app (codes "plistconv") in
    record a { top = record a.top { has_version = true; subcommand_required = true } }

abbrev pub program : Bor (List (Bor Text)) → App
program forms =
    with_subcommand
    (with_subcommand (with_subcommand (with_subcommand (with_subcommand (with_subcommand
    program_top (convert forms).top) same.top) (some_files (codes "lint")).top)
    check.top) (one_file (codes "print")).top) explain.top

-- the names of the forms, borrowed from anywhere
abbrev pub NamesForms : Bor (List (Bor Text)) → Type 0
NamesForms forms = map (λ name. name.now) forms.now ≡ codes "binary1" ∷ (codes "openstep" ∷ [])

pub record IsConvert (a : App) : Type 0 where
  pub forms : Bor (List (Bor Text))
  pub named : NamesForms forms
  pub is : a ≡ convert forms

-- the program's command line
pub record IsProgram (a : App) : Type 0 where
  pub forms : Bor (List (Bor Text))
  pub named : NamesForms forms
  pub is : a ≡ program forms
