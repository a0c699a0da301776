-- How the program ends: the bytes printed and the exit status.
use Rattle.std.specs.Prelude.{◌≡◌, ◌⊎◌, ℕ, ◌<◌, ◌≤◌, List, length, take, Option, codes}
use Rattle.std.specs.Io.KnownBytes.{Appends}
use Rattle.plist_devices.specs.Count.{count_limit, one_more}
use Rattle.plist_convert.specs.Answer.{Said}

-- a proper prefix of the text was printed
abbrev pub IsCut : Option (List ℕ) → Option (List ℕ) → List ℕ → Type 0
IsCut old new text = (sent : ℕ) × (sent < length text) × Appends old new (take sent text)

-- If a text is printed completely, the program ends with its status. Otherwise the device failed
-- once, and exactly a prefix was printed.
abbrev pub Prints : Option (List ℕ) → Option (List ℕ) → ℕ → ℕ → Said → ℕ → Type 0
Prints old new before after s status =
    ((status ≡ s.status) × Appends old new s.text × (after ≡ before))
    ⊎ ((status ≡ 4) × IsCut old new s.text × (after ≡ one_more before))

-- printed if out of memory for a line
abbrev pub no_memory : Said
no_memory = record { text = codes "refused 60 OutOfMemory\n"; status = 5 }

-- The text is printed, or memory ran out before the line was made.
abbrev pub Ends : Option (List ℕ) → Option (List ℕ) → ℕ → ℕ → Said → ℕ → Type 0
Ends old new before after s status = Prints old new before after s status
    ⊎ Prints old new before after no_memory status

-- Printing failed once or more: the count rose, or is at the maximum.
abbrev pub HaveFailed : ℕ → ℕ → Type 0
HaveFailed before after = (before < after) ⊎ (count_limit ≤ after)
