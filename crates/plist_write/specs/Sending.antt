-- What was written when a call returns.
use Rattle.std.specs.Prelude.{◌≡◌, ℕ, ◌<◌, ◌≤◌, List, length, take, Option, Result, IfOk, IfErr}
use Rattle.std.specs.List.{AllByRecursion}
use Rattle.std.specs.Io.KnownBytes.{Appends}
use Rattle.plist_value.specs.Refusals.{number_of, reports, report_text}
use Rattle.plist_value.specs.declared.refusals.Place.TheVariants.{After}
use Rattle.plist_value.specs.declared.refusals.Refusal.TheVariants as refusal
use Rattle.plist_value.specs.declared.refusals.Report.{Report}
use Rattle.plist_write.specs.declared.faults.WriteFault.{WriteFault}
use Rattle.plist_write.specs.declared.faults.WriteFault.TheVariants.{WriteFailed, OutOfMemory}
use Rattle.plist_devices.specs.Count.{one_more}

-- which error it is, and what it names
abbrev pub write_report : WriteFault → Report
write_report (WriteFailed sent) = reports refusal.WriteFailed (After sent)
write_report (OutOfMemory sent) = reports refusal.OutOfMemory (After sent)

abbrev pub write_code : WriteFault → ℕ
write_code fault = number_of (write_report fault).0

-- what is printed: the number, the name and how much was written
abbrev pub write_text : WriteFault → List ℕ
write_text fault = report_text (write_report fault)

-- the number of bytes written
abbrev pub sent_of : WriteFault → ℕ
sent_of (WriteFailed sent) = sent
sent_of (OutOfMemory sent) = sent

-- the sink failed exactly once in the call if the error says so, and never otherwise
abbrev pub IsBlamed : WriteFault → ℕ → ℕ → Type 0
IsBlamed (WriteFailed sent) before after = after ≡ one_more before
IsBlamed (OutOfMemory sent) before after = after ≡ before

-- If the call succeeds, it returns the size of the file, and the sink took the file without a
-- failure. If it fails, exactly the prefix was written whose length the error gives, and not all.
pub record IsWritten (file : List ℕ) (old new : Option (List ℕ)) (before after : ℕ)
    (result : Result ℕ WriteFault) : Type 0 where
  pub count : IfOk result (λ n. n ≡ length file)
  pub whole : IfOk result (λ _. Appends old new file × (after ≡ before))
  pub within : IfErr result (λ fault. sent_of fault < length file)
  pub front : IfErr result (λ fault. Appends old new (take (sent_of fault) file)
      × IsBlamed fault before after)

-- A piece may have `most` bytes: at least 4,096, and at least the length of each of these objects.
pub record Allows (most : ℕ) (objects : List (List ℕ)) : Type 0 where
  pub least : 4096 ≤ most
  pub each : AllByRecursion (λ object. length object ≤ most) objects

-- If no piece was longer than 4,096 bytes or the longest of these objects, none is now.
abbrev pub ArePieces : List (List ℕ) → ℕ → ℕ → Type 0
ArePieces objects longest now_longest = (most : ℕ) → Allows most objects → longest ≤ most
    → now_longest ≤ most
