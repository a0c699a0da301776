-- What opening, creating and keeping a file means, if the opener knows the files.
use Rattle.std.specs.Prelude.{◌≡◌, ◌≢◌, ◌⊎◌, ◌↔◌, ℕ, ◌<◌, ◌≤◌, Bool, true, false, List, [], ◌∷◌}
use Rattle.std.specs.Prelude.{length, None, Option, Some, IfSome, option_map}
use Rattle.std.specs.IoError.{error_kind}
use Rattle.std.specs.declared.io.Error.{Error}
use Rattle.std.specs.declared.io.ErrorKind.TheVariants as kind
use Rattle.plist_forms.specs.declared.faults.Fault.{Fault}
use Rattle.plist_forms.specs.declared.faults.Fault.TheVariants.{ReadFailed, InputTooLarge}
use Rattle.plist_forms.specs.declared.faults.Fault.TheVariants.{OutOfMemory}
use Rattle.plist_forms.specs.declared.loading.TheConstants.{MAX_INPUT}
use Rattle.plist_convert.specs.declared.opens.Created.{Created}
use Rattle.plist_convert.specs.Files.{FileName, Files, Lacks, SameFiles, Turns}

-- there is a file at the path, and the reader will read all of it
abbrev pub ReadsAll : Option Files → FileName → Option (List ℕ) → Type 0
ReadsAll files path to_come =
    IfSome files (λ at. (octets : List ℕ) × ((at path ≡ Some octets) × (to_come ≡ Some octets)))

-- why a file is not opened: there is none, or else out of memory
abbrev pub IsUnopened : Option Files → FileName → Error → Type 0
IsUnopened files path error = error_kind error ≢ kind.OutOfMemory ↔ Lacks files path

-- the writer has written these bytes and no others, if the opener knows the files
abbrev pub HasWritten : Option Files → Option (List ℕ) → List ℕ → Type 0
HasWritten files contents octets = IfSome files (λ _. contents ≡ Some octets)

-- the writer has written nothing
abbrev pub IsNew : Option Files → Option (List ℕ) → Type 0
IsNew files contents = HasWritten files contents []

-- the error is not out of memory, if the opener does not know the files
abbrev pub BlamesDevice : Option Files → Error → Type 0
BlamesDevice files error = files ≡ None → error_kind error ≢ kind.OutOfMemory

-- why a file is not created or written: out of memory if the opener knows the files, and otherwise
-- another cause
abbrev pub NeedsMemory : Option Files → Error → Type 0
NeedsMemory files error =
    IfSome files (λ _. error_kind error ≡ kind.OutOfMemory) × BlamesDevice files error

-- these bytes, if they are known, are no more than this
abbrev pub IsWithin : ℕ → Option (List ℕ) → Type 0
IsWithin limit contents = IfSome contents (λ octets. length octets ≤ limit)

-- these bytes, if they are known, are no fewer than this
abbrev pub IsFilled : ℕ → Option (List ℕ) → Type 0
IsFilled limit contents = IfSome contents (λ octets. limit ≤ length octets)

-- the writer has written no more than a file may have, if the opener knows the files
abbrev pub StaysWithin : Option Files → ℕ → Option (List ℕ) → Type 0
StaysWithin files limit contents = IfSome files (λ _. IsWithin limit contents)

-- the writer has written all that a file may have, if the opener knows the files
abbrev pub ReachesLimit : Option Files → ℕ → Option (List ℕ) → Type 0
ReachesLimit files limit contents = IfSome files (λ _. IsFilled limit contents)

-- why a file is not written, if the opener knows the files: it has the maximum size, or out of
-- memory
abbrev pub IsUnwritten : Option Files → ℕ → Option (List ℕ) → Error → Type 0
IsUnwritten files limit contents error =
    error_kind error ≢ kind.OutOfMemory → ReachesLimit files limit contents

-- if the file at the path is not what it was, it is empty; every other file is what it was
abbrev pub MayEmpty : FileName → Option Files → Option Files → Type 0
MayEmpty path before after =
    Turns before after (λ old new. (new path ≢ old path → new path ≡ Some [])
    × ((other : FileName) → other ≢ path → new other ≡ old other))

-- the file at the path is what was written, and every other file is what it was
abbrev pub Puts : FileName → Option (List ℕ) → Option Files → Option Files → Type 0
Puts path contents before after =
    Turns before after (λ old new. (new path ≡ contents)
    × ((other : FileName) → other ≢ path → new other ≡ old other))

-- what the writer of a created file has written
abbrev pub written_of : {W : Type 0} → (W → Option (List ℕ)) → Created W → Option (List ℕ)
written_of contents created = contents created.writer

-- the file that was created, if there is one, is what was written, and every other file is
-- unchanged
abbrev pub Settles : {W : Type 0} → (W → Option (List ℕ)) → Option (Created W) → Option Files
    → Option Files → Type 0
Settles contents None before after = SameFiles before after
Settles contents (Some created) before after =
    Puts created.path.now (written_of contents created) before after

-- a reader of this type has counted a failed read
abbrev pub HasFailing : {R : Type 0} → (R → ℕ) → Type 0
HasFailing {R = R} failures = (reader : R) × (0 < failures reader)

-- Why the bytes at the path are not found: there is no file, or a read failed; or it is too large;
-- or out of memory.
abbrev pub IsUnfound : Option Files → FileName → Type 0 → Fault → Type 0
IsUnfound files path Failed ReadFailed = Lacks files path ⊎ Failed
IsUnfound files path Failed InputTooLarge =
    IfSome files (λ at. (octets : List ℕ) × ((at path ≡ Some octets) × (MAX_INPUT < length octets)))
IsUnfound files path Failed (OutOfMemory sent) = sent ≡ 0
IsUnfound files path Failed _ = ⊥

-- The contents of a file that is created at its first write, if the opener knows the files: nothing
-- before that, and then what its writer wrote.
abbrev pub held_by : Option Files → Option (Option (List ℕ)) → Option (List ℕ)
held_by None contents = None
held_by (Some at) None = Some []
held_by (Some at) (Some contents) = contents

-- the contents of such a file, by what its writer tells
abbrev pub taken_by : {W : Type 0} → (W → Option (List ℕ)) → Option Files → Option (Created W)
    → Option (List ℕ)
taken_by contents files created = held_by files (option_map (written_of contents) created)

-- the writer has written something, if there is one and the opener knows the files
abbrev pub is_begun : Option Files → Option (Option (List ℕ)) → Bool
is_begun None contents = true
is_begun (Some at) None = true
is_begun (Some at) (Some None) = false
is_begun (Some at) (Some (Some [])) = false
is_begun (Some at) (Some (Some (octet ∷ octets))) = true

-- no file is changed if this one was not created and no write failed
abbrev pub IsUntouched : {A : Type 0} → Option A → ℕ → Option Files → Option Files → Type 0
IsUntouched created failures before after = created ≡ None → failures ≡ 0 → SameFiles before after
