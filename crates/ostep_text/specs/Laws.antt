-- What holds of the definitions alone.
use Rattle.std.specs.Prelude.{◌≡◌, ℕ, ◌+◌, ◌*◌, ◌≤◌, false, List, Some, nat_eq, codes, length}
use Rattle.std.specs.List.{starts_with}
use Rattle.plist_value.specs.Plist.{Plist, IsPlist}
use Rattle.plist_value.specs.Limits.{nodes, payload, Fits}
use Rattle.ostep_text.specs.declared.fault.TextFault.{TextFault}
use Rattle.ostep_text.specs.declared.fault.TextFault.TheVariants.{OutOfMemory}
use Rattle.ostep_text.specs.Text.{IsText, IsNoText}
use Rattle.ostep_text.specs.Stands.{Stands}
use Rattle.ostep_text.specs.Written.{text_of}

-- no bytes are a text of two values
abbrev pub OneValue : Type 0
OneValue = (octets : List ℕ) (v w : Plist) → IsText octets v → IsText octets w → v ≡ w

-- bytes of which a fault is true are not a text of any value
abbrev pub FaultyIsNoText : Type 0
FaultyIsNoText = (octets : List ℕ) (fault : TextFault) → Stands octets fault
    → ¬ (fault ≡ OutOfMemory) → IsNoText octets

-- the bytes are a text of the value, are not read as a binary file, and are within the bound on
-- their length
pub record IsShortText (octets : List ℕ) (v : Plist) : Type 0 where
  pub is_text : IsText octets v
  pub not_binary : starts_with nat_eq octets (codes "bplist") ≡ false
  pub short : length octets ≤ 1 + 3 * payload v + 5 * nodes v

-- the text written for a value within the limits is a text of it
abbrev pub WrittenIsText : Type 0
WrittenIsText = (v : Plist) (octets : List ℕ) → IsPlist v → Fits v → text_of v ≡ Some octets
    → IsShortText octets v
