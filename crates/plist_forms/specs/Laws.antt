-- What holds of all accepted inputs.
use Rattle.std.specs.Prelude.{◌≡◌, ◌↔◌, true, List, Some, ℕ}
use Rattle.plist_value.specs.Plist.{Plist, IsPlist}
use Rattle.plist_value.specs.Limits.{Fits}
use Rattle.plist_value.specs.declared.TheConstants.{MAX_NODES, MAX_DEPTH, MAX_PAYLOAD}
use Rattle.plist_write.specs.Canonical.{canon}
use Rattle.ostep_text.specs.Written.{text_of}
use Rattle.plist_forms.specs.Accepted.{IsAccepted, begins_as_binary}
use Rattle.plist_forms.specs.declared.loading.TheConstants.{MAX_INPUT}

-- the limits on a value, and on the length of an input
pub record AreLimits : Type 0 where
  pub nodes : MAX_NODES ≡ 16_777_216
  pub depth : MAX_DEPTH ≡ 512
  pub payload : MAX_PAYLOAD ≡ 1_073_741_824
  pub input : MAX_INPUT ≡ 4_294_967_295

-- no input encodes two values
abbrev pub OneValue : Type 0
OneValue = (octets : List ℕ) (v w : Plist) → IsAccepted octets v → IsAccepted octets w → v ≡ w

-- the canonical file of a value within the limits begins with `bplist`, is accepted, and encodes
-- the value
abbrev pub CanonicalIsAccepted : Type 0
CanonicalIsAccepted =
    (v : Plist) → IsPlist v → Fits v → (begins_as_binary (canon v) ≡ true) × IsAccepted (canon v) v

-- if a value within the limits has an OpenStep text, that text is accepted and encodes the value
abbrev pub WrittenIsAccepted : Type 0
WrittenIsAccepted =
    (v : Plist) (octets : List ℕ) → IsPlist v → Fits v → text_of v ≡ Some octets
    → IsAccepted octets v

-- Two canonical files are equal byte for byte if and only if the values are. Each is accepted,
-- encodes the value of its source, and is its own canonical file.
pub record IsHeadline (v w : Plist) : Type 0 where
  pub equal : (canon v ≡ canon w) ↔ (v ≡ w)
  pub accepted : IsAccepted (canon v) v
  pub own : (u : Plist) → IsAccepted (canon v) u → canon u ≡ canon v

abbrev pub Headline : Type 0
Headline = (a b : List ℕ) (v w : Plist) → IsAccepted a v → IsAccepted b w → IsHeadline v w
