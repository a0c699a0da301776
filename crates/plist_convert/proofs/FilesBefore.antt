-- Facts about the files after a load are true of the files before it.
use Rattle.std.proofs.Common.{subst, sym, Err, List, None, Ok, Option, Result, Some, ℕ, ◌∙◌, ◌≡◌, ◌⊎◌, inl, inr}
use Rattle.std.specs.Prelude.{◌≢◌, ◌<◌, IfSome, length, take}
use Rattle.plist_devices.specs.Count.{one_more}
use Rattle.plist_forms.specs.declared.faults.Fault.{Fault}
use Rattle.plist_forms.specs.declared.faults.Fault.TheVariants.{InputTooLarge, OutOfMemory, ReadFailed}
use Rattle.plist_forms.specs.declared.loading.TheConstants.{MAX_INPUT}
use Rattle.plist_write.specs.declared.faults.WriteFault.{WriteFault}
use Rattle.plist_write.specs.Sending.{IsBlamed, sent_of}
use Rattle.plist_convert.specs.Files.{FileName, Files, FileHolds, IsStored, IsUnloaded, Lacks, SameBeside, SameFiles, Turns}

-- a change from the files in between is a change from those before
turns_before : (P Q : Files → Files → Type 0)
    → ((old mid new : Files) → ((name : FileName) → mid name ≡ old name) → P mid new → Q old new)
    → (f m n : Option Files) → SameFiles f m → Turns m n P → Turns f n Q
turns_before P Q k None m n same t = tt
turns_before P Q k (Some old) None n same t = absurd same
turns_before P Q k (Some old) (Some mid) None same t = absurd t
turns_before P Q k (Some old) (Some mid) (Some new) same t = k old mid new same t

-- what is true of the files in between is true of those before
told_before : (P : Files → Type 0) → ((old mid : Files) → ((name : FileName) → mid name ≡ old name) → P mid → P old)
    → (f m : Option Files) → SameFiles f m → IfSome m P → IfSome f P
told_before P k None m same t = tt
told_before P k (Some old) None same t = absurd same
told_before P k (Some old) (Some mid) same t = k old mid same t

pub same_trans : (f m n : Option Files) → SameFiles f m → SameFiles m n → SameFiles f n
same_trans = turns_before _ _ (λ old mid new same t. λ name. t name ∙ same name)

pub holds_before : (f m : Option Files) (path : FileName) (octets : List ℕ) → SameFiles f m → FileHolds m path octets → FileHolds f path octets
holds_before f m path octets = told_before (λ at. at path ≡ Some octets) (λ old mid same t. sym (same path) ∙ t) f m

lacks_before : (f m : Option Files) (path : FileName) → SameFiles f m → Lacks m path → Lacks f path
lacks_before f m path = told_before (λ at. at path ≡ None) (λ old mid same t. sym (same path) ∙ t) f m

abbrev IsLargeAt : FileName → Files → Type 0
IsLargeAt path at = (octets : List ℕ) × ((at path ≡ Some octets) × (MAX_INPUT < length octets))

pub unloaded_before : (f m : Option Files) (path : FileName) (before middle after : ℕ) (fault : Fault) → SameFiles f m → middle ≡ before
    → IsUnloaded m path middle after fault → IsUnloaded f path before after fault
unloaded_before f m path before middle after ReadFailed same e h =
    (lacks_before f m path same h.0, subst (λ (n : ℕ). after ≡ one_more n) e h.1)
unloaded_before f m path before middle after InputTooLarge same e h =
    (told_before (IsLargeAt path) (λ old mid s t. (t.0, (sym (s path) ∙ t.1.0, t.1.1))) f m same h.0, h.1 ∙ e)
unloaded_before f m path before middle after (OutOfMemory sent) same e h = (h.0, h.1 ∙ e)
unloaded_before f m path before middle after _ same e h = absurd h

abbrev IsFrontAt : FileName → List ℕ → ℕ → Files → Files → Type 0
IsFrontAt path octets sent old new = ((sent ≡ 0) × (new path ≡ old path)) ⊎ (new path ≡ Some (take sent octets))

front_from : (path : FileName) (octets : List ℕ) (sent : ℕ) (old mid new : Files) → ((name : FileName) → mid name ≡ old name)
    → IsFrontAt path octets sent mid new → IsFrontAt path octets sent old new
front_from path octets sent old mid new same (inl none) = inl (none.0, none.1 ∙ same path)
front_from path octets sent old mid new same (inr some) = inr some

others_before : (f m n : Option Files) (path : FileName) → SameFiles f m → SameBeside path m n → SameBeside path f n
others_before f m n path =
    turns_before (λ old new. (other : FileName) → other ≢ path → new other ≡ old other) (λ old new. (other : FileName) → other ≢ path → new other ≡ old other)
    (λ old mid new same t. λ other differs. t other differs ∙ same other) f m n

pub stored_before : (f m n : Option Files) (before middle after : ℕ) (path : FileName) (octets : List ℕ) (result : Result ℕ WriteFault)
    → SameFiles f m → middle ≡ before → IsStored m n middle after path octets result → IsStored f n before after path octets result
stored_before f m n before middle after path octets (Ok sent) same e s = record {
  others = others_before f m n path same s.others;
  count = (s.count.0, s.count.1 ∙ e);
  whole = turns_before (λ old new. new path ≡ Some octets) (λ old new. new path ≡ Some octets) (λ old mid new same t. t) f m n same s.whole;
  within = tt;
  front = tt;
}
stored_before f m n before middle after path octets (Err fault) same e s = record {
  others = others_before f m n path same s.others;
  count = tt;
  whole = tt;
  within = s.within;
  front = (
    turns_before (IsFrontAt path octets (sent_of fault)) (IsFrontAt path octets (sent_of fault)) (front_from path octets (sent_of fault)) f m n same s.front.0,
    subst (λ (n : ℕ). IsBlamed fault n after) e s.front.1,
  );
}
