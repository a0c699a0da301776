-- The test for equal scalars is true if and only if they are equal, and equal ones feed a hasher
-- alike.
use Rattle.std.proofs.Common.{◌≡◌, ap, sym, true≢false}
use Rattle.std.specs.Bool.{Decides}
use Rattle.std.specs.Cmp.{IsEquivalence, decided, booleans_Decides, signed_Decides}
use Rattle.std.specs.Cmp.Lexicographic.{bytes_decides}
use Rattle.std.specs.Hash.{Alike, same_Alike}
use Rattle.plist_value.specs.Plist.{Scalar, text, whole, flag, real4, real8, moment, bytes}
use Rattle.plist_value.specs.Equality.{scalar_eq, fed_scalar}

pub scalar_eq-Decides : (s t : Scalar) → Decides (scalar_eq s t) (s ≡ t)
scalar_eq-Decides (text xs) (text ys) = let d = bytes_decides xs ys
    in (λ e. ap text (d.0 e), λ e. d.1 (cc))
scalar_eq-Decides (whole y) (whole z) = let d = signed_Decides y z
    in (λ e. ap whole (d.0 e), λ e. d.1 (cc))
scalar_eq-Decides (flag b) (flag c) = let d = booleans_Decides b c
    in (λ e. ap flag (d.0 e), λ e. d.1 (cc))
scalar_eq-Decides (real4 xs) (real4 ys) = let d = bytes_decides xs ys
    in (λ e. ap real4 (d.0 e), λ e. d.1 (cc))
scalar_eq-Decides (real8 xs) (real8 ys) = let d = bytes_decides xs ys
    in (λ e. ap real8 (d.0 e), λ e. d.1 (cc))
scalar_eq-Decides (moment xs) (moment ys) = let d = bytes_decides xs ys
    in (λ e. ap moment (d.0 e), λ e. d.1 (cc))
scalar_eq-Decides (bytes xs) (bytes ys) = let d = bytes_decides xs ys
    in (λ e. ap bytes (d.0 e), λ e. d.1 (cc))
scalar_eq-Decides s t = (λ e. absurd (true≢false (sym e)), λ e. cc)

pub scalar_eq-equiv : IsEquivalence scalar_eq
scalar_eq-equiv = decided scalar_eq scalar_eq-Decides

pub scalar_eq-fed : Alike scalar_eq fed_scalar
scalar_eq-fed = same_Alike fed_scalar scalar_eq-Decides
