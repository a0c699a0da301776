-- The first row of the table that a word names gives the first entry that it names.
use Rattle.std.proofs.Common.{ap, refl, sym, true, false, Bool, List, Option, None, Some, [], ◌∷◌, ◌∙◌, ◌≡◌, ℕ}
use Rattle.std.specs.Prelude.{cond, find, map, option_map}
use Rattle.std.specs.Option.{option_or}
use Rattle.std.specs.Borrow.{Bor}
use Rattle.plist_explain.specs.Topics.{entry_of, is_named}
use Rattle.plist_explain.specs.declared.topics.Subject.{Subject}

abbrev Row : Type 0
Row = Subject × Bor (List ℕ) × Bor (List ℕ)

either : (row : Row) (r : Option Row) (test : Bool)
    → cond test (Some (entry_of row)) (option_map entry_of r) ≡ option_map entry_of (cond test (Some row) r)
either row r true = refl
either row r false = refl

among : (word : List ℕ) (rows : List Row)
    → find (λ entry. is_named entry.subject word) (map entry_of rows) ≡ option_map entry_of (find (λ row. is_named row.0 word) rows)
among word [] = refl
among word (row ∷ rows) =
    ap (cond (is_named row.0 word) (Some (entry_of row))) (among word rows)
    ∙ either row (find (λ row. is_named row.0 word) rows) (is_named row.0 word)

behind : (r : Option (Bor Row)) → option_map (λ row. entry_of row.now) r ≡ option_map entry_of (option_map (λ row. row.now) r)
behind None = refl
behind (Some row) = refl

pub found_entry : (word : List ℕ) (rows : List Row) (r : Option (Bor Row)) → option_map (λ row. row.now) r ≡ find (λ row. is_named row.0 word) rows
    → option_map (λ row. entry_of row.now) r ≡ find (λ entry. is_named entry.subject word) (map entry_of rows)
found_entry word rows r found = behind r ∙ ap (option_map entry_of) found ∙ sym (among word rows)

pub first_found : {A B : Type 0} (f : A → B) (a b : Option A) → option_map f (option_or a b) ≡ option_or (option_map f a) (option_map f b)
first_found f None b = refl
first_found f (Some a) b = refl
