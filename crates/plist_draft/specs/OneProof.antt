-- There is at most one proof that bytes are those of stored objects, so a type may contain it.
use Rattle.std.specs.Prelude.{ℕ, List}
use Rattle.std.proofs.Props.{props}
use Rattle.plist_value.specs.Plist.{Scalar, text, IsScalar}
use Rattle.plist_object.specs.Objects.{Content, holds_list}
use Rattle.plist_object.specs.Sizes.{IsSmall}
use Rattle.plist_draft.specs.Stored.{IsKept, IsDraft}

IsScalar-prop : (s : Scalar) → IsProp (IsScalar s)
IsScalar-prop (text units) = hlevel props
IsScalar-prop _ = hlevel props

IsSmall-prop : (s : Scalar) → IsProp (IsSmall s)
IsSmall-prop (text units) = hlevel props
IsSmall-prop _ = hlevel props

IsKept-prop : (held : Content) → IsProp (IsKept held)
IsKept-prop (holds_list refs) = hlevel props
IsKept-prop _ = hlevel (IsScalar-prop, IsSmall-prop, props)

pub IsDraft-prop : (octets offsets : List ℕ) → IsProp (IsDraft octets offsets)
IsDraft-prop octets offsets = hlevel (IsKept-prop, props)
