-- What contracts know of a draft.
use Rattle.std.specs.Prelude.{List}
use Rattle.plist_object.specs.Objects.{Content}
use Rattle.plist_draft.specs.Stored.{helds_at}
use Rattle.plist_draft.specs.declared.draft.Draft.{Draft}

-- the contents of its objects, in the order of their numbers
abbrev pub objects : Draft → List Content
objects draft = helds_at draft.octets.items draft.offsets.items
