-- Strings: unquoted strings, and quoted strings with their escapes. Each relation is between the
-- text at a position, the UTF-16 units that it encodes, and the text after them.
use Rattle.std.specs.Prelude.{◌≡◌, ℕ, ◌≤◌, Bool, true, false, not, ◌&&◌, ◌==◌, List, [], ◌∷◌, ◌++◌}
use Rattle.std.specs.Prelude.{nat_eq, zip, unwrap_or, codes}
use Rattle.std.specs.Map.{lookup}
use Rattle.std.specs.Char.{is_digit}
use Rattle.std.specs.Char.Escape.{encode_utf16}
use Rattle.ostep_lex.specs.Character.{is_run}
use Rattle.ostep_lex.specs.Digits.{begins_digit, number_from}

-- whether an unquoted string continues at the text
abbrev pub begins_run : List ℕ → Bool
begins_run [] = false
begins_run (c ∷ rest) = is_run c

-- characters of an unquoted string, as many as possible
pub data Run : List ℕ → List ℕ → List ℕ → Type 0 where
  stop : {rest : List ℕ} → begins_run rest ≡ false → Run rest [] rest
  more : {c : ℕ} {rest units after : List ℕ} → is_run c ≡ true → Run rest units after
      → Run (c ∷ rest) (c ∷ units) after

-- the character that an escape of one character encodes, which is neither a digit nor `U`: for the
-- letters a, b, f, n, r, t, v a control character, else itself
abbrev pub escaped : ℕ → ℕ
escaped c =
    let controls = 7 ∷ 8 ∷ 12 ∷ 10 ∷ 13 ∷ 9 ∷ 11 ∷ [] in
    unwrap_or (lookup (nat_eq c) (zip (codes "abfnrtv") controls)) c

-- after a backslash: one to three octal digits with a value of at most octal 177, or `U` and one to
-- four hexadecimal digits, as many as possible, or any other character
pub data Escape : List ℕ → List ℕ → List ℕ → Type 0 where
  octal : {text : List ℕ} → begins_digit 8 text ≡ true → (number_from 8 3 0 text).value ≤ 0x7f
      → Escape text ((number_from 8 3 0 text).value ∷ []) (number_from 8 3 0 text).after
  unit : {text : List ℕ} → begins_digit 16 text ≡ true
      → Escape (codes "U" ++ text) ((number_from 16 4 0 text).value ∷ [])
      (number_from 16 4 0 text).after
  character : {c : ℕ} {rest : List ℕ} → is_digit c 8 ≡ false → (c == 85) ≡ false
      → Escape (c ∷ rest) (encode_utf16 (escaped c)) rest

-- whether a character encodes itself between quotes: any but `\` and the quote
abbrev pub is_raw : ℕ → ℕ → Bool
is_raw mark c = not (c == 92) && not (c == mark)

-- one piece of a quoted string: an unescaped character or an escape
pub data Piece (mark : ℕ) : List ℕ → List ℕ → List ℕ → Type 0 where
  raw : {c : ℕ} {rest : List ℕ} → is_raw mark c ≡ true → Piece mark (c ∷ rest) (encode_utf16 c) rest
  escape : {text units rest : List ℕ} → Escape text units rest
      → Piece mark (codes "\\" ++ text) units rest

-- after the opening quote: pieces, and the closing quote
pub data Quoted (mark : ℕ) : List ℕ → List ℕ → List ℕ → Type 0 where
  close : {c : ℕ} {rest : List ℕ} → (c == mark) ≡ true → Quoted mark (c ∷ rest) [] rest
  piece : {text units rest more after : List ℕ} → Piece mark text units rest
      → Quoted mark rest more after → Quoted mark text (units ++ more) after
