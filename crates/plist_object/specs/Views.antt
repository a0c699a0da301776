-- How contracts view a file, references and an object.
use Rattle.std.specs.Prelude.{◌≡◌, ℕ, List, Result, Ok, Err}
use Rattle.plist_value.specs.Scalars.{content_of}
use Rattle.plist_object.specs.Objects.{Content, holds_scalar, holds_list, holds_table, numbers}
use Rattle.plist_object.specs.declared.layout.BinFile.{BinFile}
use Rattle.plist_object.specs.declared.refs.Refs.{Refs}
use Rattle.plist_object.specs.declared.object.Object.{Object}
use Rattle.plist_object.specs.declared.object.Object.TheVariants.{Scalar, List as ListOf, Table}

abbrev pub octets_of : BinFile → List ℕ
octets_of file = file.octets.now

abbrev pub numbers_of : Refs → List ℕ
numbers_of refs = numbers refs.width refs.count refs.octets.now

abbrev pub held_of : Object → Content
held_of (Scalar s) = holds_scalar (content_of s)
held_of (ListOf items) = holds_list (numbers_of items)
held_of (Table keys values) = holds_table (numbers_of keys) (numbers_of values)

-- the function returned what `read` is: the value, seen through `view`, or the error
abbrev pub Gives : {X Y E : Type 0} → (X → Y) → Result X E → Result Y E → Type 0
Gives view (Ok x) read = read ≡ Ok (view x)
Gives view (Err e) read = read ≡ Err e

-- the decoded part, without the bytes after it
abbrev pub first_of : {X Y E : Type 0} → Result (X × Y) E → Result X E
first_of (Ok p) = Ok p.0
first_of (Err e) = Err e
