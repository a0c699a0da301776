-- Which of several broken rules is reported: the first in the order of checking, but for keys that
-- overlap.
use Rattle.std.specs.Prelude.{◌≡◌, ◌⊎◌, ◌-◌, ℕ, ◌<◌, List, IsOk, ⊤}
use Rattle.plist_object.specs.Layout.{trailer_of}
use Rattle.plist_object.specs.Places.{span_of}
use Rattle.plist_keys.specs.Overlap.{KeysOverlap}
use Rattle.plist_canon.specs.Rules.{Adjoins, Each, HasLeastWidths}
use Rattle.plist_canon.specs.Rules.{HasPlainTrailer, IsNoRepeat, IsNumberedInPreorder}
use Rattle.plist_canon.specs.Rules.{IsSpelledCanonically, IsWellRead}
use Rattle.plist_canon.specs.Checking.{Follows, IsChecked, rule_number}
use Rattle.plist_canon.specs.declared.checking.Verdict.{Verdict}
use Rattle.plist_canon.specs.declared.checking.Verdict.TheVariants as verdict
use Rattle.plist_canon.specs.declared.object_rules.Flaw.{Flaw}
use Rattle.plist_canon.specs.declared.object_rules.Flaw.TheVariants as flaw
use Rattle.plist_canon.specs.declared.rule.Rule.{Rule}
use Rattle.plist_canon.specs.declared.rule.Rule.TheVariants as rules

-- the rules about the trailer hold
pub record KeepsTrailerRules (f : List ℕ) : Type 0 where
  pub plain : HasPlainTrailer f
  pub widths : HasLeastWidths f

-- the rules about object i hold, but for the offset of the offset table
pub record KeepsRules (f : List ℕ) (i : ℕ) : Type 0 where
  pub checked : IsChecked f i
  pub single : IsNoRepeat f i

-- they hold for each object before i
abbrev pub KeepRulesBefore : List ℕ → ℕ → Type 0
KeepRulesBefore f i = (j : ℕ) → j < i → KeepsRules f j

-- of the rules about object i, those that are checked before this one hold: C0, C3, C4, C5 and C6
-- are checked in this order
abbrev pub HoldsUpTo : Rule → List ℕ → ℕ → Type 0
HoldsUpTo rules.Readable f i = ¬ IsWellRead f i
HoldsUpTo rules.Adjoining f i = IsWellRead f i × ¬ Follows f i
HoldsUpTo rules.CanonicalEncoding f i = IsWellRead f i × Follows f i
HoldsUpTo rules.AscendingKeys f i = IsWellRead f i × Follows f i × IsSpelledCanonically f i
HoldsUpTo rules.DistinctScalars f i = IsChecked f i
HoldsUpTo _ f i = ⊥

-- the rule is the first that is broken, and object i the first that breaks it
pub record IsFirstBroken (rule : Rule) (f : List ℕ) (i : ℕ) : Type 0 where
  pub before : KeepRulesBefore f i
  pub own : HoldsUpTo rule f i

-- object i is the first that cannot be decoded, or does not begin where its predecessor ends
abbrev pub IsMisplaced : Rule → List ℕ → ℕ → Type 0
IsMisplaced rules.Readable f i = ¬ IsOk (span_of f i)
IsMisplaced rules.Adjoining f i = ¬ Follows f i
IsMisplaced _ f i = ⊥

pub record IsFirstMisplaced (rule : Rule) (f : List ℕ) (i : ℕ) : Type 0 where
  pub overlap : KeysOverlap f
  pub before : (j : ℕ) → j < i → Follows f j
  pub own : IsMisplaced rule f i

-- The broken rule with this number is reported at this object. Rules about the trailer come first,
-- then those about objects, object by object; then C3 at the last object, for the offset of the
-- offset table, C7, and C0 at object 0, for the limits. If keys overlap, the first object that is
-- out of place may be reported in place of an earlier one.
pub data IsReported (f : List ℕ) : ℕ → ℕ → Type 0 where
  first_c1 : IsReported f 1 0
  first_c2 : HasPlainTrailer f → IsReported f 2 0
  at_object : (rule : Rule) (i : ℕ) → KeepsTrailerRules f → IsFirstBroken rule f i
      → IsReported f (rule_number rule) i
  out_of_place : (rule : Rule) (i : ℕ) → KeepsTrailerRules f → IsFirstMisplaced rule f i
      → IsReported f (rule_number rule) i
  at_table : KeepsTrailerRules f → Each KeepsRules f → IsReported f 3 ((trailer_of f).count - 1)
  at_walk : (holder : ℕ) → KeepsTrailerRules f → Each KeepsRules f → Each Adjoins f
      → IsReported f 7 holder
  at_limits : KeepsTrailerRules f → Each KeepsRules f → Each Adjoins f → IsNumberedInPreorder f
      → IsReported f 0 0

-- a broken rule is reported in this order
abbrev pub IsFirstVerdict : List ℕ → Verdict → Type 0
IsFirstVerdict f verdict.Canonical = ⊤
IsFirstVerdict f (verdict.Broken rule object) = IsReported f rule object

-- What is known of a flaw in a part of the check; of out of memory nothing is.

-- it is at object i, of which the rules checked before hold
abbrev pub IsFlawAt : List ℕ → ℕ → Flaw → Type 0
IsFlawAt f i flaw.NoMemory = ⊤
IsFlawAt f i (flaw.Broken rule object) =
    ((object ≡ i) × HoldsUpTo rule f i) ⊎ IsFirstMisplaced rule f object

-- object i is out of place
abbrev pub IsMisplacedAt : List ℕ → ℕ → Flaw → Type 0
IsMisplacedAt f i flaw.NoMemory = ⊥
IsMisplacedAt f i (flaw.Broken rule object) = (object ≡ i) × IsMisplaced rule f i

-- it is the first object out of place
abbrev pub IsMisplacedFlaw : List ℕ → Flaw → Type 0
IsMisplacedFlaw f flaw.NoMemory = ⊥
IsMisplacedFlaw f (flaw.Broken rule object) = IsFirstMisplaced rule f object

-- object i repeats a scalar
abbrev pub IsRepeatAt : ℕ → Flaw → Type 0
IsRepeatAt i flaw.NoMemory = ⊤
IsRepeatAt i (flaw.Broken rule object) = (rule ≡ rules.DistinctScalars) × (object ≡ i)

-- it is the first object that repeats a scalar, and before `end`
abbrev pub IsFirstRepeat : List ℕ → ℕ → Flaw → Type 0
IsFirstRepeat f end flaw.NoMemory = ⊤
IsFirstRepeat f end (flaw.Broken rule object) =
    (rule ≡ rules.DistinctScalars) × (object < end) × ((j : ℕ) → j < object → IsNoRepeat f j)

-- it is the first broken rule about an object
abbrev pub IsFirstFlaw : List ℕ → Flaw → Type 0
IsFirstFlaw f flaw.NoMemory = ⊤
IsFirstFlaw f (flaw.Broken rule object) =
    IsFirstBroken rule f object ⊎ IsFirstMisplaced rule f object

-- the last object does not end at the offset table
abbrev pub IsTableFlaw : List ℕ → Flaw → Type 0
IsTableFlaw f flaw.NoMemory = ⊥
IsTableFlaw f (flaw.Broken rule object) =
    (rule ≡ rules.Adjoining) × (object ≡ (trailer_of f).count - 1)

-- it is found by checking the objects
abbrev pub IsObjectsFlaw : List ℕ → Flaw → Type 0
IsObjectsFlaw f flaw = IsFirstFlaw f flaw ⊎ (IsTableFlaw f flaw × Each KeepsRules f)

-- it is found by the walk
abbrev pub IsWalkFlaw : List ℕ → Flaw → Type 0
IsWalkFlaw f flaw.NoMemory = ⊥
IsWalkFlaw f (flaw.Broken rule object) = (rule ≡ rules.Preorder)
    ⊎ ((rule ≡ rules.Readable) × (object ≡ 0) × IsNumberedInPreorder f)

-- it is reported
abbrev pub IsReportedFlaw : List ℕ → Flaw → Type 0
IsReportedFlaw f flaw.NoMemory = ⊤
IsReportedFlaw f (flaw.Broken rule object) = IsReported f (rule_number rule) object
