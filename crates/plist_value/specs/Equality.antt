-- Equality of scalars as a boolean, and what a scalar feeds a hasher.
use Rattle.std.specs.Prelude.{ℕ, Bool, false, List, ◌∷◌, ◌++◌, nat_eq}
use Rattle.std.specs.Cmp.Lexicographic.{pointwise}
use Rattle.std.specs.Ordering.{int_eq}
use Rattle.std.specs.Hash as fed
use mathlib.Core.Bool.{beq}
use Rattle.plist_value.specs.Hashes.{fed_text}
use Rattle.plist_value.specs.Plist.{Scalar, text, whole, flag, real4, real8, moment, bytes}

-- Kind and content are equal.
abbrev pub scalar_eq : Scalar → Scalar → Bool
scalar_eq (text xs) (text ys) = pointwise nat_eq xs ys
scalar_eq (whole y) (whole z) = int_eq y z
scalar_eq (flag b) (flag c) = beq b c
scalar_eq (real4 xs) (real4 ys) = pointwise nat_eq xs ys
scalar_eq (real8 xs) (real8 ys) = pointwise nat_eq xs ys
scalar_eq (moment xs) (moment ys) = pointwise nat_eq xs ys
scalar_eq (bytes xs) (bytes ys) = pointwise nat_eq xs ys
scalar_eq s t = false

-- the content, and then the kind unless it is a string; bytes go in one write
abbrev pub fed_scalar : Scalar → List (List ℕ)
fed_scalar (text units) = fed_text units
fed_scalar (whole z) = fed.i128 z ++ fed.u8 1
fed_scalar (flag b) = fed.bool b ++ fed.u8 2
fed_scalar (real4 xs) = xs ∷ fed.u8 3
fed_scalar (real8 xs) = xs ∷ fed.u8 4
fed_scalar (moment xs) = xs ∷ fed.u8 5
fed_scalar (bytes xs) = xs ∷ fed.u8 6
