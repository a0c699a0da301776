-- The binary file of an input encodes the value of the input, and is refused as the input is.
use Rattle.std.proofs.Common.{◌≡◌, ◌≢◌, ◌∙◌, false, true, refl, subst, sym, List, ℕ}
use Rattle.plist_value.specs.Plist.{Plist}
use Rattle.plist_object.specs.Layout.{trailer_of}
use Rattle.plist_object.specs.Spelled.{IsBinary}
use Rattle.plist_object.proofs.Uniqueness.{same_value}
use Rattle.plist_binary.specs.Faults as of_binary
use Rattle.plist_binary.specs.declared.fault.BinaryFault.{BinaryFault}
use Rattle.plist_binary.specs.declared.fault.BinaryFault.TheVariants as binary
use Rattle.ostep_text.specs.Text.{IsText}
use Rattle.plist_value.specs.Writable.{is_writable}
use Rattle.plist_forms.specs.Accepted.{IsAccepted, begins_as_binary}
use Rattle.plist_forms.specs.Fault.{fault_for}
use Rattle.plist_forms.specs.Judged.{IsReadFrom, octets_in}
use Rattle.plist_forms.specs.Refusals.{IsRefused}
use Rattle.plist_forms.specs.declared.judged.Binary.{Binary}
use Rattle.plist_forms.specs.declared.judged.Binary.TheVariants.{Input, Draft}
use Rattle.plist_forms.proofs.Accepting.{accepted_text, as_binary, as_text}
use Rattle.plist_forms.proofs.Refusing.{binary_refused}
use Rattle.plist_forms.proofs.Writable.{text_writable}

-- a file encodes one value
one_value : (f : List ℕ) (v w : Plist) → IsBinary f v → IsBinary f w → v ≡ w
one_value f v w a b = same_value f (trailer_of f).top v w a.valid b.valid a.spells b.spells

-- what the file encodes is the value of the input
pub read_value : {I : Type 0} (items : I → List ℕ) (input : List ℕ) (file : Binary I) → IsReadFrom items input file
    → (v : Plist) → IsBinary (octets_in items file) v → IsAccepted input v
read_value items input (Input owner) read v is = as_binary input v read.0 (subst (λ f. IsBinary f v) read.1 is)
read_value items input (Draft draft) read v is =
    let drafted = read.1 in
    as_text input v read.0 (subst (IsText input) (one_value draft.items drafted.0 v drafted.1.1 is) drafted.1.0)

-- a text's value has a text
pub encoded_writable : (input file : List ℕ) → begins_as_binary input ≡ false
    → (w : Plist) → IsAccepted input w → IsBinary file w → (v : Plist) → IsBinary file v → is_writable v ≡ true
encoded_writable input file begins w accepted is v binary =
    let text = accepted_text input w begins accepted in
    text_writable input v (subst (IsText input) (one_value file w v is binary) text)

-- a refusal of the file is one of the input
pub file_refused : {I : Type 0} (items : I → List ℕ) (input : List ℕ) (file : Binary I) → IsReadFrom items input file
    → (fault : BinaryFault) → of_binary.Stands (octets_in items file) fault
    → (fault ≢ binary.OutOfMemory → (v : Plist) → IsBinary (octets_in items file) v → ⊥)
    → IsRefused input (fault_for fault)
file_refused items input (Input owner) read fault stands none =
    binary_refused input read.0 fault (subst (λ f. of_binary.Stands f fault) read.1 stands) (
    λ other v is. none other v (subst (λ f. IsBinary f v) (sym read.1) is)
    )
file_refused items input (Draft draft) read binary.OutOfMemory stands none =
    record { stands = refl; none = λ other. absurd (other refl) }
file_refused items input (Draft draft) read fault stands none =
    let drafted = read.1 in absurd (none (λ e. cc) drafted.0 drafted.1.1)
