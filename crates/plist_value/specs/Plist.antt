-- The values that property lists encode. Two values are equal if and only if they are the same
-- term: a dictionary is its entries in ascending order of their keys.
use Rattle.std.specs.Prelude.{◌≡◌, ℕ, ◌<◌, ℤ, pos, negsuc, ◌≤ℤ◌, Bool, List, length, slice_index, ⊤}
use Rattle.std.specs.declared.cmp.Ordering.TheVariants.{Less}
use Rattle.std.specs.Ordering.{nat_cmp}
use Rattle.std.specs.Cmp.Lexicographic.{slice_cmp}

-- A value that contains no other. A string is its UTF-16 units; reals and dates are their bytes.
pub data Scalar : Type 0 where
  text : List ℕ → Scalar
  whole : ℤ → Scalar
  flag : Bool → Scalar
  real4 : List ℕ → Scalar
  real8 : List ℕ → Scalar
  moment : List ℕ → Scalar
  bytes : List ℕ → Scalar

mutual
  pub data Plist : Type 0 where
    scalar : Scalar → Plist
    list : Items → Plist
    table : Pairs → Plist

  pub data Items : Type 0 where
    no_items : Items
    item : Plist → Items → Items

  pub data Pairs : Type 0 where
    no_pairs : Pairs
    pair : List ℕ → Plist → Pairs → Pairs

-- each number of the list is below the bound
abbrev pub AllUnder : ℕ → List ℕ → Type 0
AllUnder bound xs = (i : ℕ) → slice_index xs i < bound

abbrev pub AreOctets : List ℕ → Type 0
AreOctets xs = AllUnder 256 xs

abbrev pub AreUnits : List ℕ → Type 0
AreUnits xs = AllUnder 65536 xs

-- an integer is from -2^63 to 2^64 - 1
pub record IsWhole (z : ℤ) : Type 0 where
  pub least : negsuc 9223372036854775807 ≤ℤ z
  pub most : z ≤ℤ pos 18446744073709551615

-- exactly n bytes
pub record IsOctetsOf (n : ℕ) (xs : List ℕ) : Type 0 where
  pub long : length xs ≡ n
  pub octets : AreOctets xs

abbrev pub IsScalar : Scalar → Type 0
IsScalar (text units) = AreUnits units
IsScalar (whole z) = IsWhole z
IsScalar (flag b) = ⊤
IsScalar (real4 xs) = IsOctetsOf 4 xs
IsScalar (real8 xs) = IsOctetsOf 8 xs
IsScalar (moment xs) = IsOctetsOf 8 xs
IsScalar (bytes xs) = AreOctets xs

-- the key is below the first key of the entries, unit by unit; a proper prefix is less
abbrev pub IsKeyBelow : List ℕ → Pairs → Type 0
IsKeyBelow key no_pairs = ⊤
IsKeyBelow key (pair next v ps) = slice_cmp nat_cmp key next ≡ Less

-- The term is a property list: numbers are in range, and the keys of each dictionary ascend
-- strictly.
abbrev mutual
  pub IsPlist : Plist → Type 0
  IsPlist (scalar s) = IsScalar s
  IsPlist (list vs) = AreItems vs
  IsPlist (table ps) = ArePairs ps

  pub AreItems : Items → Type 0
  AreItems no_items = ⊤
  AreItems (item v vs) = IsPlist v × AreItems vs

  pub ArePairs : Pairs → Type 0
  ArePairs no_pairs = ⊤
  ArePairs (pair key v ps) = AreUnits key × IsPlist v × IsKeyBelow key ps × ArePairs ps

-- an array or a dictionary
abbrev pub IsContainer : Plist → Type 0
IsContainer (scalar s) = ⊥
IsContainer (list vs) = ⊤
IsContainer (table ps) = ⊤
