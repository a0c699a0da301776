-- What contracts know of `MemoryFiles`.
use Rattle.std.specs.Prelude.{ℕ, option_map}
use Rattle.std.specs.BTreeMap.{get_by_text}
use Rattle.plist_convert.specs.Files.{Files}
use Rattle.test_files.specs.declared.memory_files.MemoryFiles.{MemoryFiles}

-- the bytes at each path
abbrev pub bytes_at : MemoryFiles → Files
bytes_at opener path = option_map (λ octets. octets.items) (get_by_text opener.files path)

-- the maximum size of a file that is written
abbrev pub limit_of : MemoryFiles → ℕ
limit_of opener = opener.limit
