-- The result of a check, and of its parts.
use Rattle.std.specs.Prelude.{◌≡◌, ℕ, zero, suc, ◌<◌, nat_lt, if◌then◌else◌, List, Ok, ⊤}
use Rattle.std.specs.List.{AllByRecursion}
use Rattle.plist_object.specs.Layout.{trailer_of, IsLayoutFault}
use Rattle.plist_object.specs.Objects.{Content}
use Rattle.plist_object.specs.declared.layout.LayoutFault.TheVariants as layout
use Rattle.plist_object.specs.Places.{span_of, HoldsText}
use Rattle.plist_object.specs.References.{references_of}
use Rattle.plist_canon.specs.Rules.{keys_of, IsWellRead, IsSpelledCanonically, HasAscendingKeys}
use Rattle.plist_canon.specs.Rules.{FollowsRules, IsBroken}
use Rattle.plist_canon.specs.declared.checking.CheckFault.{CheckFault}
use Rattle.plist_canon.specs.declared.checking.CheckFault.TheVariants as fault
use Rattle.plist_canon.specs.declared.checking.Verdict.{Verdict}
use Rattle.plist_canon.specs.declared.checking.Verdict.TheVariants as verdict
use Rattle.plist_canon.specs.declared.object_rules.Flaw.{Flaw}
use Rattle.plist_canon.specs.declared.object_rules.Flaw.TheVariants as flaw
use Rattle.plist_canon.specs.declared.rule.Rule.{Rule}
use Rattle.plist_canon.specs.declared.rule.Rule.TheVariants as rules

-- every error but out of memory is one of the layout
abbrev pub IsCheckFault : List ℕ → CheckFault → Type 0
IsCheckFault f fault.TooShort = IsLayoutFault layout.TooShort f
IsCheckFault f fault.BadHeader = IsLayoutFault layout.BadHeader f
IsCheckFault f fault.BadTrailer = IsLayoutFault layout.BadTrailer f
IsCheckFault f fault.OutOfMemory = ⊤

-- the rules hold, or the reported rule is broken at the object
abbrev pub IsVerdict : List ℕ → Verdict → Type 0
IsVerdict f verdict.Canonical = FollowsRules f
IsVerdict f (verdict.Broken rule object) = IsBroken f rule object

abbrev pub rule_number : Rule → ℕ
rule_number rules.Readable = 0
rule_number rules.PlainTrailer = 1
rule_number rules.LeastWidths = 2
rule_number rules.Adjoining = 3
rule_number rules.CanonicalEncoding = 4
rule_number rules.AscendingKeys = 5
rule_number rules.DistinctScalars = 6
rule_number rules.Preorder = 7

-- a rule is broken, or memory ran out
abbrev pub IsFlaw : List ℕ → Flaw → Type 0
IsFlaw f (flaw.Broken rule object) = IsBroken f (rule_number rule) object
IsFlaw f flaw.NoMemory = ⊤

-- The flaw to report of two: out of memory if either is, else the one at the earlier object, and
-- the first of two at the same object.
abbrev pub earlier : Flaw → Flaw → Flaw
earlier flaw.NoMemory other = flaw.NoMemory
earlier (flaw.Broken rule object) flaw.NoMemory = flaw.NoMemory
earlier (flaw.Broken rule object) (flaw.Broken other first) =
    if nat_lt first object then flaw.Broken other first else flaw.Broken rule object

-- the references are numbers of objects, and those to keys point to strings
pub record RefersWell (f : List ℕ) (held : Content) : Type 0 where
  pub numbers : AllByRecursion (λ reference. reference < (trailer_of f).count) (references_of held)
  pub texts : AllByRecursion (HoldsText f) (keys_of held)

-- the end of the object before i, or of the header
abbrev pub IsEndBefore : List ℕ → ℕ → ℕ → Type 0
IsEndBefore f zero offset = offset ≡ 8
IsEndBefore f (suc before) offset = (start : ℕ) × (span_of f before ≡ Ok (start, offset))

-- object i begins where its predecessor ends, or the header
pub record Follows (f : List ℕ) (i : ℕ) : Type 0 where
  pub offset : ℕ
  pub end : ℕ
  pub before : IsEndBefore f i offset
  pub span : span_of f i ≡ Ok (offset, end)

-- the rules about one object alone hold, except for the offset of the offset table
pub record IsChecked (f : List ℕ) (i : ℕ) : Type 0 where
  pub read : IsWellRead f i
  pub follows : Follows f i
  pub spelled : IsSpelledCanonically f i
  pub ascending : HasAscendingKeys f i
