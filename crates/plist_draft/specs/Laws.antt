-- A law of all drafts.
use Rattle.std.specs.Prelude.{List, ◌++◌}
use Rattle.plist_object.specs.Objects.{Content}
use Rattle.plist_draft.specs.Encoded.{Keeps}

-- a value that is encoded stays encoded when objects are appended
abbrev pub AppendingKeeps : Type 0
AppendingKeeps = (helds more : List Content) → Keeps helds (helds ++ more)
