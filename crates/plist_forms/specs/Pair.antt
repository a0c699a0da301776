-- Two inputs that are compared by their values.
use Rattle.std.specs.Prelude.{◌≡◌, ◌↔◌, ℕ, List, ◌++◌, Bool, IsTrue, codes}
use Rattle.plist_value.specs.Plist.{Plist}
use Rattle.plist_write.specs.Canonical.{canon}
use Rattle.plist_forms.specs.Accepted.{IsAccepted}
use Rattle.plist_forms.specs.Fault.{code_of, fault_text}
use Rattle.plist_forms.specs.Refusals.{IsRefused}
use Rattle.plist_forms.specs.declared.pairs.PairFault.{PairFault}
use Rattle.plist_forms.specs.declared.pairs.PairFault.TheVariants.{First, Second}

-- both are accepted, and the result is whether their values, and so their canonical files, are
-- equal
pub record IsPair (a b : List ℕ) (equal : Bool) : Type 0 where
  pub first : Plist
  pub second : Plist
  pub first_accepted : IsAccepted a first
  pub second_accepted : IsAccepted b second
  pub values : IsTrue equal ↔ (first ≡ second)
  pub files : IsTrue equal ↔ (canon first ≡ canon second)

-- which of them is refused, and how; the second only if the first is accepted
abbrev pub IsRefusedPair : List ℕ → List ℕ → PairFault → Type 0
IsRefusedPair a b (First fault) = IsRefused a fault
IsRefusedPair a b (Second fault) = (v : Plist) × (IsAccepted a v × IsRefused b fault)

abbrev pub pair_code : PairFault → ℕ
pair_code (First fault) = code_of fault
pair_code (Second fault) = code_of fault

-- the printed form: which of them, and its refusal
abbrev pub pair_text : PairFault → List ℕ
pair_text (First fault) = codes "the first: " ++ fault_text fault
pair_text (Second fault) = codes "the second: " ++ fault_text fault
