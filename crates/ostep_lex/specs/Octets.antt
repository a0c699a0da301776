-- Data tokens.
use Rattle.std.specs.Prelude.{◌≡◌, ℕ, ◌+◌, ◌*◌, true, List, [], ◌∷◌, ◌++◌, codes}
use Rattle.std.specs.Char.{is_digit, digit_value}
use Rattle.ostep_lex.specs.Character.{is_white}

-- whitespace, which gives nothing, or a pair of hexadecimal digits, which gives a byte
pub data OctetsPiece : List ℕ → List ℕ → List ℕ → Type 0 where
  white : {c : ℕ} {rest : List ℕ} → is_white c ≡ true → OctetsPiece (c ∷ rest) [] rest
  pair : {c d : ℕ} {rest : List ℕ} → is_digit c 16 ≡ true → is_digit d 16 ≡ true
      → OctetsPiece (c ∷ d ∷ rest) ((digit_value c * 16 + digit_value d) ∷ []) rest

-- after `<`: pieces, and then `>`
pub data Octets : List ℕ → List ℕ → List ℕ → Type 0 where
  close : {rest : List ℕ} → Octets (codes ">" ++ rest) [] rest
  piece : {text octets rest more after : List ℕ} → OctetsPiece text octets rest
      → Octets rest more after → Octets text (octets ++ more) after
