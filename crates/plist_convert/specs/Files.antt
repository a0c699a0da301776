-- The contents of files, and how loading and storing change them.
use Rattle.std.specs.Prelude.{◌≡◌, ◌≢◌, ◌⊎◌, ⊤, ℕ, ◌<◌, List, length, take, None, Option, Some}
use Rattle.std.specs.Prelude.{Result, Err, IfErr, IfOk, IfSome, OnOk}
use Rattle.plist_devices.specs.Count.{one_more}
use Rattle.plist_forms.specs.declared.faults.Fault.{Fault}
use Rattle.plist_forms.specs.declared.faults.Fault.TheVariants.{ReadFailed, WriteFailed}
use Rattle.plist_forms.specs.declared.faults.Fault.TheVariants.{InputTooLarge, OutOfMemory}
use Rattle.plist_forms.specs.declared.forms.Form.{Form}
use Rattle.plist_forms.specs.declared.loading.TheConstants.{MAX_INPUT}
use Rattle.plist_write.specs.declared.faults.WriteFault.{WriteFault}
use Rattle.plist_write.specs.Sending.{IsBlamed, sent_of}
use Rattle.plist_forms.specs.Output.{IsOutput, IsOutputFault}
use Rattle.plist_forms.specs.Sent.{answer_of}

-- a path, as bytes
abbrev pub FileName : Type 0
FileName = List ℕ

-- the bytes at each path, or none
abbrev pub Files : Type 0
Files = FileName → Option (List ℕ)

-- the path has these bytes, if the disk knows its files
abbrev pub FileHolds : Option Files → FileName → List ℕ → Type 0
FileHolds files path octets = IfSome files (λ at. at path ≡ Some octets)

-- there is no file at the path, if the disk knows its files
abbrev pub Lacks : Option Files → FileName → Type 0
Lacks files path = IfSome files (λ at. at path ≡ None)

-- a disk that knows its files still does, and P is true of the files before and after
abbrev pub Turns : Option Files → Option Files → (Files → Files → Type 0) → Type 0
Turns None after P = ⊤
Turns (Some old) None P = ⊥
Turns (Some old) (Some new) P = P old new

-- every path has the same bytes as before
abbrev pub SameFiles : Option Files → Option Files → Type 0
SameFiles before after = Turns before after (λ old new. (path : FileName) → new path ≡ old path)

-- every path but one has the same bytes as before
abbrev pub SameBeside : FileName → Option Files → Option Files → Type 0
SameBeside path before after =
    Turns before after (λ old new. (other : FileName) → other ≢ path → new other ≡ old other)

-- Why a file was not loaded: a device failed, and there is no file if the disk knows its files; or
-- it is too large; or out of memory.
abbrev pub IsUnloaded : Option Files → FileName → ℕ → ℕ → Fault → Type 0
IsUnloaded files path before after ReadFailed = Lacks files path × (after ≡ one_more before)
IsUnloaded files path before after InputTooLarge =
    IfSome files (λ at. (octets : List ℕ) × ((at path ≡ Some octets) × (MAX_INPUT < length octets)))
    × (after ≡ before)
IsUnloaded files path before after (OutOfMemory sent) = (sent ≡ 0) × (after ≡ before)
IsUnloaded files path before after _ = ⊥

-- Loading the file at a path changes no file. The result has the bytes at the path, or says why the
-- file was not loaded.
pub record LoadsFile {T : Type 0} (bytes_in : T → List ℕ) (files rest : Option Files)
    (path : FileName) (before after : ℕ) (result : Result T Fault) : Type 0 where
  pub kept : SameFiles files rest
  pub found : IfOk result (λ loaded. FileHolds files path (bytes_in loaded))
  pub unfailed : OnOk result (after ≡ before)
  pub refused : IfErr result (IsUnloaded files path before after)

-- the path has the first `sent` of the bytes, or is unchanged if `sent` is 0
abbrev pub HoldsFront : Option Files → Option Files → FileName → List ℕ → ℕ → Type 0
HoldsFront before after path octets sent =
    Turns before after (λ old new. ((sent ≡ 0) × (new path ≡ old path))
    ⊎ (new path ≡ Some (take sent octets)))

-- Storing: the files and the count of failures, before and after, the path, the bytes, and the
-- result. The path then has all of the bytes, or as many as the refusal states.
pub record IsStored (files rest : Option Files) (before after : ℕ) (path : FileName)
    (octets : List ℕ) (result : Result ℕ WriteFault) : Type 0 where
  pub others : SameBeside path files rest
  pub count : IfOk result (λ sent. (sent ≡ length octets) × (after ≡ before))
  pub whole : IfOk result (λ _. Turns files rest (λ old new. new path ≡ Some octets))
  pub within : IfErr result (λ fault. sent_of fault < length octets)
  pub front : IfErr result (λ fault. HoldsFront files rest path octets (sent_of fault)
      × IsBlamed fault before after)

-- the count of failures after this result: one more if a device failed
abbrev pub CountsFailure : {T : Type 0} → ℕ → ℕ → Result T Fault → Type 0
CountsFailure before after (Err ReadFailed) = after ≡ one_more before
CountsFailure before after (Err (WriteFailed sent)) = after ≡ one_more before
CountsFailure before after _ = after ≡ before

-- Nothing is stored, for this cause: no file changes, and no device fails.
pub record IsUnstored (Cause : Fault → Type 0) (files rest : Option Files) (before after : ℕ)
    (result : Result ℕ Fault) : Type 0 where
  pub fault : Fault
  pub is : result ≡ Err fault
  pub cause : Cause fault
  pub kept : SameFiles files rest
  pub unfailed : after ≡ before

-- The output for the bytes is stored, up to a refusal if there is one.
pub record IsOutputStored (form : Form) (octets : List ℕ) (files rest : Option Files)
    (before after : ℕ) (path : FileName) (result : Result ℕ Fault) : Type 0 where
  pub output : List ℕ
  pub of : IsOutput form octets output
  pub sent : Result ℕ WriteFault
  pub is : result ≡ answer_of sent
  pub stored : IsStored files rest before after path output sent

-- storing the output for the bytes in a form
abbrev pub Stores : Form → List ℕ → Option Files → Option Files → ℕ → ℕ → FileName → Result ℕ Fault
    → Type 0
Stores form octets files rest before after path result =
    IsUnstored (IsOutputFault form octets) files rest before after result
    ⊎ IsOutputStored form octets files rest before after path result
