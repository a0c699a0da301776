-- Whitespace and comments between tokens. Each relation is between the text at a position and the
-- text after what is there.
use Rattle.std.specs.Prelude.{◌≡◌, ℕ, Bool, true, false, ◌||◌, ◌&&◌, ◌==◌, List, [], ◌∷◌, ◌++◌}
use Rattle.std.specs.Prelude.{codes}
use Rattle.ostep_lex.specs.Character.{is_white, is_line_end}

-- after `//`: up to a line end, which is not included, or the end of the text
pub data LineComment : List ℕ → List ℕ → Type 0 where
  text_end : LineComment [] []
  line_end : {c : ℕ} {rest : List ℕ} → is_line_end c ≡ true → LineComment (c ∷ rest) (c ∷ rest)
  more : {c : ℕ} {rest after : List ℕ} → is_line_end c ≡ false → LineComment rest after
      → LineComment (c ∷ rest) after

-- whether the text begins with `*/`
abbrev pub closes_comment : List ℕ → Bool
closes_comment (a ∷ b ∷ rest) = (a == 42) && (b == 47)
closes_comment _ = false

-- after `/*`: up to the first `*/`, which is included
pub data BlockComment : List ℕ → List ℕ → Type 0 where
  close : {rest : List ℕ} → BlockComment (codes "*/" ++ rest) rest
  more : {c : ℕ} {rest after : List ℕ} → closes_comment (c ∷ rest) ≡ false → BlockComment rest after
      → BlockComment (c ∷ rest) after

-- after `/*`: no `*/` up to the end of the text
pub data NeverCloses : List ℕ → Type 0 where
  text_end : NeverCloses []
  more : {c : ℕ} {rest : List ℕ} → closes_comment (c ∷ rest) ≡ false → NeverCloses rest
      → NeverCloses (c ∷ rest)

-- a whitespace character or a comment
pub data GapPiece : List ℕ → List ℕ → Type 0 where
  white : {c : ℕ} {rest : List ℕ} → is_white c ≡ true → GapPiece (c ∷ rest) rest
  line : {rest after : List ℕ} → LineComment rest after → GapPiece (codes "//" ++ rest) after
  block : {rest after : List ℕ} → BlockComment rest after → GapPiece (codes "/*" ++ rest) after

-- whitespace characters and comments, or nothing
pub data Gap : List ℕ → List ℕ → Type 0 where
  none : {rest : List ℕ} → Gap rest rest
  piece : {text rest after : List ℕ} → GapPiece text rest → Gap rest after → Gap text after

-- whether the text begins with `//` or `/*`
abbrev pub begins_comment : List ℕ → Bool
begins_comment (a ∷ b ∷ rest) = (a == 47) && ((b == 47) || (b == 42))
begins_comment _ = false

-- whether the text begins with whitespace or a comment
abbrev pub begins_gap : List ℕ → Bool
begins_gap [] = false
begins_gap (c ∷ rest) = is_white c || begins_comment (c ∷ rest)
