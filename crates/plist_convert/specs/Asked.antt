-- The request of a command line, by the command and its arguments.
use Rattle.std.specs.Prelude.{◌∷◌, ◌&&◌, [], Bool, false, List, Option, Some, None, codes, map}
use Rattle.std.specs.Prelude.{if◌then◌else◌, nat_eq, option_and_then, option_map}
use Rattle.std.specs.List.{list_any, starts_with}
use Rattle.std.specs.Option.{option_map_or}
use Rattle.std.specs.Str.{bytes_eq}
use Rattle.clap.specs.Words.{Row, Text, all_of, first_of}
use Rattle.plist_forms.specs.declared.forms.Form.{Form}
use Rattle.plist_forms.specs.declared.forms.Form.TheVariants.{Binary1, OpenStep}
use Rattle.plist_convert.specs.declared.request.Request.{Request}
use Rattle.plist_convert.specs.declared.request.Request.TheVariants as request

-- a request, with its arguments
pub data Asked : Type 0 where
  Filters : Asked
  Converts : Form → Text → Text → Asked
  Compares : Text → Text → Asked
  Lints : List Text → Asked
  Checks : (named : Bool) → List Text → Asked
  Prints : Text → Asked
  Explains : Option Text → Asked

-- the request as a term
abbrev pub asked_by : Request → Asked
asked_by request.Filter = Filters
asked_by (request.Convert form from to) = Converts form from.now to.now
asked_by (request.Same first second) = Compares first.now second.now
asked_by (request.Lint paths) = Lints (map (λ path. path.now) paths.items)
asked_by (request.Check named paths) = Checks named (map (λ path. path.now) paths.items)
asked_by (request.Print path) = Prints path.now
asked_by (request.Explain what) = Explains (option_map (λ word. word.now) what)

-- the form of this name
abbrev pub form_of : Text → Option Form
form_of name =
    if bytes_eq name (codes "binary1") then Some Binary1
    else if bytes_eq name (codes "openstep") then Some OpenStep
    else None

abbrev pub converts : Option Form → Option Text → Option Text → Option Asked
converts (Some form) (Some from) (Some to) = Some (Converts form from to)
converts _ _ _ = None

abbrev pub compares : Option Text → Option Text → Option Asked
compares (Some first) (Some second) = Some (Compares first second)
compares _ _ = None

-- the request of each command, from its arguments
abbrev pub convert_at : List Row → Option Asked
convert_at rows =
    converts (option_and_then form_of (first_of (codes "FORM") rows)) (first_of (codes "IN") rows)
    (first_of (codes "OUT") rows)

abbrev pub same_at : List Row → Option Asked
same_at rows = compares (first_of (codes "A") rows) (first_of (codes "B") rows)

-- the flag is given
abbrev pub is_set : Text → List Row → Bool
is_set name rows = option_map_or (λ text. bytes_eq text (codes "true")) (first_of name rows) false

abbrev pub lint_at : List Row → Option Asked
lint_at rows = option_map Lints (all_of (codes "IN") rows)

abbrev pub check_at : List Row → Option Asked
check_at rows =
    option_map (Checks (is_set (codes "with-filename") rows)) (all_of (codes "IN") rows)

abbrev pub print_at : List Row → Option Asked
print_at rows = option_map Prints (first_of (codes "IN") rows)

abbrev pub explain_at : List Row → Option Asked
explain_at rows = Some (Explains (first_of (codes "WHAT") rows))

abbrev pub asked_in : Text → List Row → Option Asked
asked_in word rows =
    if bytes_eq word (codes "convert") then convert_at rows
    else if bytes_eq word (codes "same") then same_at rows
    else if bytes_eq word (codes "lint") then lint_at rows
    else if bytes_eq word (codes "check") then check_at rows
    else if bytes_eq word (codes "print") then print_at rows
    else if bytes_eq word (codes "explain") then explain_at rows
    else None

abbrev pub asked_at : Option (Text × List Row) → Option Asked
asked_at = option_and_then (λ entered. asked_in entered.0 entered.1)

-- the word begins with a dash and has a blank, so it is no option: `-: refused 1 TooShort`
abbrev pub is_dash_line : Text → Bool
is_dash_line word = starts_with nat_eq word (codes "-") && list_any (λ b. nat_eq b 32) word

-- the request of arguments that are not parsed: the filter, and `explain` of such a line
abbrev pub asked_unparsed : List Text → Option Asked
asked_unparsed (_ ∷ (command ∷ (line ∷ _))) =
    if bytes_eq command (codes "explain") && is_dash_line line then Some (Explains (Some line))
    else None
asked_unparsed (_ ∷ (_ ∷ [])) = None
asked_unparsed _ = Some Filters
