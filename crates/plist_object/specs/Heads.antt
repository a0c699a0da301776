-- How the canonical encoding of an object begins.
use Rattle.std.specs.Prelude.{◌≡◌, ℕ, nat_lt, if◌then◌else◌, List, [], ◌∷◌, length, take, ⊤, ◌<◌}
use Rattle.std.specs.Prelude.{◌^◌}
use Rattle.std.specs.List.{list_all}
use Rattle.plist_value.specs.Plist.{Scalar, text, whole, flag, real4, real8, moment, bytes}
use Rattle.plist_object.specs.Objects.{Content, holds_scalar, holds_list, holds_table}
use Rattle.plist_object.specs.Spelling.{head, whole_spelling}

-- `first` is a prefix of the bytes
abbrev pub Begins : List ℕ → List ℕ → Type 0
Begins first octets = take (length first) octets ≡ first

abbrev pub text_head : List ℕ → List ℕ
text_head units =
    if list_all (λ u. nat_lt u 128) units then head 5 (length units) else head 6 (length units)

abbrev pub BeginsScalar : Scalar → List ℕ → Type 0
BeginsScalar (text units) octets = Begins (text_head units) octets
BeginsScalar (whole z) octets = Begins (whole_spelling z) octets
BeginsScalar (flag b) octets = Begins ((if b then 9 else 8) ∷ []) octets
BeginsScalar (real4 xs) octets = Begins (34 ∷ []) octets
BeginsScalar (real8 xs) octets = Begins (35 ∷ []) octets
BeginsScalar (moment xs) octets = Begins (51 ∷ []) octets
BeginsScalar (bytes xs) octets = Begins (head 4 (length xs)) octets

-- the bytes begin like the canonical encoding of their content: with the marker, and with the count
-- or the integer
abbrev pub BeginsCanonically : Content → List ℕ → Type 0
BeginsCanonically (holds_scalar s) octets = BeginsScalar s octets
BeginsCanonically (holds_list refs) octets = Begins (head 10 (length refs)) octets
BeginsCanonically (holds_table keys values) octets = Begins (head 13 (length keys)) octets

-- the content has fewer than 2^64 units, bytes, items or keys
abbrev pub IsCounted : Content → Type 0
IsCounted (holds_scalar (text units)) = length units < 2 ^ 64
IsCounted (holds_scalar (bytes xs)) = length xs < 2 ^ 64
IsCounted (holds_scalar s) = ⊤
IsCounted (holds_list refs) = length refs < 2 ^ 64
IsCounted (holds_table keys values) = length keys < 2 ^ 64
