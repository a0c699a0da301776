-- Examples of the definitions for small values.
use Rattle.std.specs.Prelude.{◌≡◌, ℕ, zero, suc, ◌<◌, pos, negsuc, true, false, List, [], ◌∷◌, refl}
use Rattle.std.specs.declared.cmp.Ordering.TheVariants.{Less, Greater}
use Rattle.std.specs.Ordering.{nat_cmp}
use Rattle.std.specs.Cmp.Lexicographic.{slice_cmp}
use Rattle.std.specs.Hash as fed
use Rattle.std.specs.Int.Signed.{le_z_yes}
use Rattle.std.proofs.Common.{lit<}
use Rattle.plist_value.specs.Plist.{flag, real8, moment, scalar, table, no_pairs, pair, AreUnits, IsPlist, IsWhole}
use Rattle.plist_value.specs.Limits.{nodes, depth, payload}
use Rattle.plist_value.specs.Texts.{wide_units}
use Rattle.plist_value.specs.Equality.{scalar_eq}
use Rattle.plist_value.specs.Hashes.{fed_text}
use Rattle.plist_value.specs.Rows.{a, swapped, unsorted}

swapped-nodes : nodes swapped ≡ 5
swapped-nodes = refl

swapped-depth : depth swapped ≡ 2
swapped-depth = refl

swapped-payload : payload swapped ≡ 8
swapped-payload = refl

one_unit : (unit : ℕ) → unit < 65536 → AreUnits (unit ∷ [])
one_unit unit h zero = h
one_unit unit h (suc i) = lit< tt

swapped-is : IsPlist swapped
swapped-is = (one_unit 97 (lit< tt), one_unit 98 (lit< tt), refl, (one_unit 98 (lit< tt), one_unit 97 (lit< tt), tt, tt))

unsorted-not : IsPlist unsorted → ⊥
unsorted-not h = let below : Greater ≡ Less = h.2 in cc

-- a key twice
twice-not : IsPlist (table (pair a (scalar (flag true)) (pair a (scalar (flag true)) no_pairs))) → ⊥
twice-not h = cc (h.2)

empty-depth : depth (table no_pairs) ≡ 1
empty-depth = refl

-- a pair of surrogates, d800 dc00, is below the unit ff61
surrogates-first : slice_cmp nat_cmp (55296 ∷ 56320 ∷ []) (65377 ∷ []) ≡ Less
surrogates-first = refl

-- 00 61 d8 00
wide : wide_units (0 ∷ 97 ∷ 216 ∷ 0 ∷ []) ≡ 97 ∷ 55296 ∷ []
wide = refl

real-not-moment : (xs : List ℕ) → scalar_eq (real8 xs) (moment xs) ≡ false
real-not-moment xs = refl

whole-most : IsWhole (pos 18446744073709551615)
whole-most = record { least = le_z_yes tt; most = le_z_yes tt }

whole-past : IsWhole (pos 18446744073709551616) → ⊥
whole-past h = absurd h.most.le

whole-least : IsWhole (negsuc 9223372036854775807)
whole-least = record { least = le_z_yes tt; most = le_z_yes tt }

whole-before : IsWhole (negsuc 9223372036854775808) → ⊥
whole-before h = absurd h.least.le

nine-letters : fed_text (97 ∷ 98 ∷ 99 ∷ 100 ∷ 101 ∷ 102 ∷ 103 ∷ 104 ∷ 105 ∷ []) ≡ (97 ∷ 98 ∷ 99 ∷ 100 ∷ 101 ∷ 102 ∷ 103 ∷ 104 ∷ []) ∷ (105 ∷ 0 ∷ 0 ∷ 0 ∷ 0 ∷ 0 ∷ 0 ∷ 129 ∷ []) ∷ []
nine-letters = refl

five-units : fed_text (1 ∷ 2 ∷ 3 ∷ 4 ∷ 300 ∷ []) ≡ (5 ∷ 0 ∷ 0 ∷ 0 ∷ 0 ∷ 0 ∷ 0 ∷ 0 ∷ []) ∷ (1 ∷ 0 ∷ 2 ∷ 0 ∷ 3 ∷ 0 ∷ 4 ∷ 0 ∷ []) ∷ (44 ∷ 1 ∷ 0 ∷ 0 ∷ 0 ∷ 0 ∷ 0 ∷ 0 ∷ []) ∷ (255 ∷ []) ∷ []
unfolding fed.le_bytes
five-units = refl
