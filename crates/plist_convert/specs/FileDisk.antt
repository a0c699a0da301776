-- What contracts know of a `FileDisk`.
use Rattle.std.specs.Prelude.{◌≡◌, ℕ, ◌<◌, Bool, true, List, length, Option, Result, Err}
use Rattle.plist_forms.specs.declared.faults.Fault.{Fault}
use Rattle.plist_forms.specs.declared.faults.Fault.TheVariants.{OutOfMemory, WriteFailed}
use Rattle.plist_forms.specs.declared.forms.Form.{Form}
use Rattle.plist_forms.specs.Output.{IsOutput}
use Rattle.plist_convert.specs.Files.{Files}
use Rattle.plist_convert.specs.declared.file_disk.FileDisk.{FileDisk}

-- the contents of each path, if the opener knows them
abbrev pub files_of : {O H : Type 0} → (O → Option Files) → FileDisk O H → Option Files
files_of files disk = files disk.opener

-- the maximum size of a file, if the opener knows the files
abbrev pub limit_of : {O H : Type 0} → (O → ℕ) → FileDisk O H → ℕ
limit_of limit disk = limit disk.opener

-- the number of devices that failed, up to the maximum
abbrev pub disk_failures : {O H : Type 0} → FileDisk O H → ℕ
disk_failures disk = disk.failures

-- The output for the bytes is longer than the maximum size of a file, and that many bytes were
-- sent.
pub record IsFull (form : Form) (octets : List ℕ) (limit sent : ℕ) : Type 0 where
  pub output : List ℕ
  pub of : IsOutput form octets output
  pub long : limit < length output
  pub filled : sent ≡ limit

-- the device failed only if the output was too long
abbrev pub IsFullAt : Form → List ℕ → ℕ → Fault → Type 0
IsFullAt form octets limit (WriteFailed sent) = IsFull form octets limit sent
IsFullAt form octets limit _ = Unit {0}

-- the result of a store: a device that ran out of memory is 60 in place of 51
abbrev pub result_of : Result ℕ Fault → (needs_memory : Bool) → Result ℕ Fault
result_of (Err (WriteFailed sent)) true = Err (OutOfMemory sent)
result_of sent _ = sent
