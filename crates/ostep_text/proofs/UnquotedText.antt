-- Plain strings, whose units need no escape.
use Rattle.std.proofs.Common.{◌≡◌, ℕ, true, false, List, [], ◌∷◌, ◌++◌, refl, arith}
use Rattle.std.specs.Prelude.{flat_map}
use Rattle.std.specs.Char.{is_ascii_alphanumeric}
use Rattle.std.proofs.lemmas.Bool.{and_parts}
use Rattle.std.proofs.lemmas.Bool.Decides.{nat_tests}
use Rattle.plist_value.specs.Escapes.{quoted_unit}
use Rattle.ostep_text.specs.Written.{are_alphanumeric, is_unquoted, written_text}

unit_plain : (unit : ℕ) → is_ascii_alphanumeric unit ≡ true → quoted_unit unit ≡ unit ∷ []
unit_plain unit e = grind (arith, nat_tests)

units_plain : (units : List ℕ) → are_alphanumeric units ≡ true → flat_map quoted_unit units ≡ units
units_plain [] e = refl
units_plain (unit ∷ units) e =
    let w = and_parts (is_ascii_alphanumeric unit) (are_alphanumeric units) e in
    rw (unit_plain unit w.0, units_plain units w.1) refl

pub unquoted_text : (units : List ℕ) → is_unquoted units ≡ true → flat_map quoted_unit units ≡ written_text units
unquoted_text units e = rw e (units_plain units (and_parts _ _ (and_parts _ _ e).0).1)

pub quoted_text : (units : List ℕ) → is_unquoted units ≡ false → (34 ∷ []) ++ (flat_map quoted_unit units ++ 34 ∷ []) ≡ written_text units
quoted_text units e = rw e refl
