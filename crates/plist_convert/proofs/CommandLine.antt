-- What the contracts of `clap` say of the program's command line.
use Rattle.std.proofs.Common.{ℕ, ap, codes, refl, true, List, [], ◌∷◌, ◌∙◌, ◌≡◌}
use Rattle.std.specs.Borrow.{Bor}
use Rattle.clap.specs.Words.{App, Text, is_simple, is_simple_and_free}
use Rattle.clap.proofs.OnLiterals.{clap_on_literals}
use Rattle.plist_convert.specs.CommandLine.{IsProgram, program}

simple_forms : (forms : Bor (List (Bor Text))) → is_simple (program forms) ≡ true
unfolding clap_on_literals
simple_forms forms = refl

free_forms : (forms : Bor (List (Bor Text))) → is_simple_and_free (program forms) ≡ true
unfolding clap_on_literals
free_forms forms = refl

pub program_simple : (a : App) → IsProgram a → is_simple a ≡ true
program_simple a p = ap is_simple p.is ∙ simple_forms p.forms

pub program_free : (a : App) → IsProgram a → is_simple_and_free a ≡ true
program_free a p = ap is_simple_and_free p.is ∙ free_forms p.forms

-- the names of the forms, at these addresses
abbrev pub forms_at : ℕ × ℕ → ℕ × ℕ → ℕ × ℕ → Bor (List (Bor Text))
forms_at p q r = record {
  ref_ptr = p;
  now = record { ref_ptr = q; now = codes "binary1" } ∷ (record { ref_ptr = r; now = codes "openstep" } ∷ []);
}

abbrev pub some_forms : Bor (List (Bor Text))
some_forms = forms_at (0, 0) (0, 0) (0, 0)

pub some_is_program : IsProgram (program some_forms)
some_is_program = record { forms = some_forms; named = refl; is = refl }
