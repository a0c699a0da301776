-- The references of an object.
use Rattle.std.specs.Prelude.{ℕ, List, [], ◌++◌}
use Rattle.plist_object.specs.Objects.{Content, holds_scalar, holds_list, holds_table}

-- the object numbers in order: of the items of an array, or of the keys and then the values of a
-- dictionary
abbrev pub references_of : Content → List ℕ
references_of (holds_scalar s) = []
references_of (holds_list refs) = refs
references_of (holds_table keys values) = keys ++ values
