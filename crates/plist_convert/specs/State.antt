-- What the program reads and changes: files, standard output and the failures of both, and standard
-- input.
use Rattle.std.specs.Prelude.{ℕ, List, Option}
use Rattle.plist_convert.specs.Files.{Files}
use Rattle.plist_convert.specs.Answer.{Said}
use Rattle.plist_convert.specs.Ending.{Ends, Prints, no_memory}
use Rattle.plist_convert.specs.FileDisk.{disk_failures, files_of}
use Rattle.plist_convert.specs.declared.file_disk.FileDisk.{FileDisk}

pub record State : Type 0 where
  pub files : Option Files
  pub disk_failures : ℕ
  pub printed : Option (List ℕ)
  pub print_failures : ℕ

abbrev pub state : Option Files → ℕ → Option (List ℕ) → ℕ → State
state files disk_failures printed print_failures = record {
  files = files;
  disk_failures = disk_failures;
  printed = printed;
  print_failures = print_failures;
}

-- the state of a disk and an output, as their opener and the sink see them
abbrev pub run_state : {O H W : Type 0} → (O → Option Files) → (W → Option (List ℕ)) → (W → ℕ)
    → FileDisk O H → W → State
run_state files taken failures disk output =
    state (files_of files disk) (disk_failures disk) (taken output) (failures output)

-- standard input: the bytes to come, if they are known, and the number of takes that failed
pub record Input : Type 0 where
  pub to_come : Option (List ℕ)
  pub failures : ℕ

abbrev pub input_of : Option (List ℕ) → ℕ → Input
input_of to_come failures = record { to_come = to_come; failures = failures }

-- the program ends with this text and status, or memory ran out before the line was made
abbrev pub Ending : State → State → Said → ℕ → Type 0
Ending before after s status =
    Ends before.printed after.printed before.print_failures after.print_failures s status

-- memory ran out before the line was made
abbrev pub Wanting : State → State → ℕ → Type 0
Wanting before after status =
    Prints before.printed after.printed before.print_failures after.print_failures no_memory status
