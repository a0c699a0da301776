-- The ranges of visible code points are those of the tables of Unicode.
use Rattle.std.proofs.Common.{◌≡◌, ℕ, ◌+◌, ◌<◌, ◌≤◌, Bool, true, false, not, ◌&&◌, ◌||◌, List, [], ◌∷◌, refl, sym, ap, ◌∙◌, arith}
use Rattle.std.specs.Prelude.{◌==◌}
use Rattle.std.specs.Char.Utf16.{is_high_surrogate, is_low_surrogate, surrogate_pair_char}
use Rattle.std.specs.Int.{is_in_range}
use Rattle.std.proofs.lemmas.Bool.Decides.{nat_tests}
use Rattle.ucd_category.specs.GeneralCategory.{general_category}
use Rattle.ucd_category.proofs.GeneralCategoryLemmas.{general_category_stepped}
use Rattle.ucd_derived.specs.Binary.{is_default_ignorable_code_point}
use Rattle.ucd_derived.proofs.BinaryLemmas.{is_default_ignorable_code_point_stepped}
use Rattle.ucd_table.specs.Rows.{Range, in_ranges}
use Rattle.ucd_table.specs.Steps.{step_value}
use Rattle.ucd_table.proofs.Computing.{tables}
use Rattle.ucd_table.proofs.Stepped.{Stepped, map_stepped, zip_stepped, runs_of, step_value-runs_of}
use Rattle.plist_print.specs.Units.{is_blank, is_invisible, is_visible_pair}
use Rattle.plist_print.specs.Shown.{visible_ranges}

steps-range : (a b c : ℕ) → is_in_range a b c ≡ step_value false ((a, false) ∷ (b + 1, true) ∷ []) c
unfolding step_value
steps-range a b c = grind (arith, nat_tests)

range_stepped : (a b : ℕ) → Stepped (is_in_range a b)
range_stepped a b = record { default = false; steps = (a, false) ∷ (b + 1, true) ∷ []; gives = steps-range a b }

-- ranges in any order
ranges_stepped : (rs : List Range) → Stepped (in_ranges rs)
unfolding in_ranges step_value
ranges_stepped [] = record { default = false; steps = []; gives = λ c. refl }
ranges_stepped (r ∷ rs) =
    zip_stepped (λ x y. x || y) (is_in_range r.0 r.1) (in_ranges rs) (range_stepped r.0 r.1) (ranges_stepped rs)

abbrev is_hidden : ℕ → Bool
is_hidden c = is_blank (general_category c) || is_default_ignorable_code_point c

abbrev is_hidden_or_surrogate : ℕ → Bool
is_hidden_or_surrogate c = is_in_range 0xd800 0xdfff c || (not (is_in_range 32 32 c) && is_hidden c)

abbrev is_shown : ℕ → Bool
is_shown c = not (is_hidden_or_surrogate c)

shown_stepped : Stepped is_shown
shown_stepped =
    let hidden = zip_stepped (λ g d. is_blank g || d) general_category is_default_ignorable_code_point general_category_stepped is_default_ignorable_code_point_stepped in
    let no_space = zip_stepped (λ s h. not s && h) (is_in_range 32 32) is_hidden (range_stepped 32 32) hidden in
    let invisible = zip_stepped (λ s h. s || h) (is_in_range 0xd800 0xdfff) (λ c. not (is_in_range 32 32 c) && is_hidden c) (range_stepped 0xd800 0xdfff) no_space in
    map_stepped not is_hidden_or_surrogate invisible

abbrev number : Bool → ℕ
number true = 1
number false = 0

number-is : (x y : Bool) → number x ≡ number y → x ≡ y
number-is true true e = refl
number-is true false e = absurd cc
number-is false true e = absurd cc
number-is false false e = refl

abbrev runs : (f : ℕ → Bool) → Stepped f → List (ℕ × ℕ)
runs f s = runs_of (λ c. number (f c)) (map_stepped number f s)

same_runs : runs is_shown shown_stepped ≡ runs (in_ranges visible_ranges) (ranges_stepped visible_ranges)
unfolding tables range_stepped ranges_stepped shown_stepped general_category_stepped is_default_ignorable_code_point_stepped
same_runs = refl

is_shown-in_ranges : (c : ℕ) → c < 0x11_0000 → is_shown c ≡ in_ranges visible_ranges c
is_shown-in_ranges c h =
    number-is _ _
    (sym (step_value-runs_of (λ c. number (is_shown c)) (map_stepped number is_shown shown_stepped) c h)
    ∙ ap (λ (rs : List (ℕ × ℕ)). step_value 0 rs c) same_runs
    ∙ step_value-runs_of (λ c. number (in_ranges visible_ranges c)) (map_stepped number (in_ranges visible_ranges) (ranges_stepped visible_ranges)) c h)

is_shown-invisible : (c : ℕ) → is_shown c ≡ not (is_invisible c)
unfolding is_invisible
is_shown-invisible c = let space : is_in_range 32 32 c ≡ (c == 32) = grind (arith, nat_tests) in rw space

pub in_ranges-visible : (c : ℕ) → c < 0x11_0000 → in_ranges visible_ranges c ≡ not (is_invisible c)
in_ranges-visible c h = sym (is_shown-in_ranges c h) ∙ is_shown-invisible c

-- the code point of a pair
pub pair-visible : (high low code : ℕ) → 0xd800 ≤ high → high ≤ 0xdbff → 0xdc00 ≤ low → low ≤ 0xdfff → code ≡ surrogate_pair_char high low → is_visible_pair high low ≡ in_ranges visible_ranges code
pair-visible high low code a b c d is =
    let first : is_high_surrogate high ≡ true = grind (arith, nat_tests) in
    let second : is_low_surrogate low ≡ true = grind (arith, nat_tests) in
    let below : code < 0x11_0000 = omega (arith, is) in
    rw (first, second, in_ranges-visible code below, is)
