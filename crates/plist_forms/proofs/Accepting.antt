-- What accepted bytes say of their value.
use Rattle.std.proofs.Common.{◌≡◌, true, false, refl, subst, sym, Bool, List, ℕ}
use Rattle.std.specs.Bool.{MatchBool}
use Rattle.plist_value.specs.Plist.{Plist, IsPlist}
use Rattle.plist_value.specs.Limits.{Fits}
use Rattle.plist_object.specs.Laws.{OneValueAtTop}
use Rattle.plist_object.specs.Spelled.{IsBinary}
use Rattle.plist_write.specs.Canonical.{canon}
use Rattle.ostep_text.specs.Laws as of_text
use Rattle.ostep_text.specs.Text.{IsText}
use Rattle.plist_forms.specs.Accepted.{IsAccepted, begins_as_binary}
use Rattle.plist_forms.specs.Laws.{OneValue}

-- what begins as a binary file is one, and anything else is a text
pub as_binary : (octets : List ℕ) (v : Plist) → begins_as_binary octets ≡ true → IsBinary octets v → IsAccepted octets v
as_binary octets v begins binary = subst (λ b. MatchBool b (IsBinary octets v) (IsText octets v)) (sym begins) binary

pub as_text : (octets : List ℕ) (v : Plist) → begins_as_binary octets ≡ false → IsText octets v → IsAccepted octets v
as_text octets v begins text = subst (λ b. MatchBool b (IsBinary octets v) (IsText octets v)) (sym begins) text

pub accepted_binary : (octets : List ℕ) (v : Plist) → begins_as_binary octets ≡ true → IsAccepted octets v → IsBinary octets v
accepted_binary octets v begins accepted = subst (λ b. MatchBool b (IsBinary octets v) (IsText octets v)) begins accepted

pub accepted_text : (octets : List ℕ) (v : Plist) → begins_as_binary octets ≡ false → IsAccepted octets v → IsText octets v
accepted_text octets v begins accepted = subst (λ b. MatchBool b (IsBinary octets v) (IsText octets v)) begins accepted

-- what follows of either form follows
of_either : {C : Type 0} (b : Bool) (P Q : Type 0) → MatchBool b P Q → (b ≡ true → P → C) → (b ≡ false → Q → C) → C
of_either true P Q accepted first second = first refl accepted
of_either false P Q accepted first second = second refl accepted

pub accepted_valid : (octets : List ℕ) (v : Plist) → IsAccepted octets v → IsPlist v
accepted_valid octets v accepted =
    of_either (begins_as_binary octets) (IsBinary octets v) (IsText octets v) accepted (λ _ binary. binary.valid) (λ _ text. text.is_plist)

pub accepted_fits : (octets : List ℕ) (v : Plist) → IsAccepted octets v → Fits v
accepted_fits octets v accepted =
    of_either (begins_as_binary octets) (IsBinary octets v) (IsText octets v) accepted (λ _ binary. binary.fits) (λ _ text. text.fits)

pub one_value : OneValueAtTop → of_text.OneValue → OneValue
one_value at_top of_texts octets v w a b =
    of_either (begins_as_binary octets) (IsBinary octets v) (IsText octets v) a (
    λ begins binary.
    let other = accepted_binary octets w begins b in at_top octets v w binary.valid other.valid binary.spells other.spells
    ) (λ begins text. of_texts octets v w text (accepted_text octets w begins b))

-- a canonical file begins with its header
pub canon_begins : (v : Plist) → begins_as_binary (canon v) ≡ true
unfolding canon
canon_begins v = refl
