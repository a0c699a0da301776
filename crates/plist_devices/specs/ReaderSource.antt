-- What contracts know of a `ReaderSource`.
use Rattle.std.specs.Prelude.{ℕ, List, Option}
use Rattle.plist_devices.specs.declared.reader_source.ReaderSource.{ReaderSource}

-- the device that is read
abbrev pub reader_device : {R : Type 0} → ReaderSource R → R
reader_device source = source.device

-- the bytes still to come, if the reader knows them
abbrev pub octets_to_come : {R : Type 0} → (R → Option (List ℕ)) → ReaderSource R → Option (List ℕ)
octets_to_come remaining source = remaining (reader_device source)

-- the number of takes that failed, up to the maximum
abbrev pub reader_failures : {R : Type 0} → ReaderSource R → ℕ
reader_failures source = source.failures
