-- There is at most one proof of what is known of the files of an opener, so a type may contain it.
use Rattle.std.specs.Prelude.{ℕ, List, None, Option, Some}
use Rattle.std.proofs.Props.{props}
use Rattle.plist_convert.specs.Files.{FileName, Files, SameFiles}
use Rattle.plist_convert.specs.Opens.{IsFilled, IsWithin, MayEmpty}

SameFiles-prop : (before after : Option Files) → IsProp (SameFiles before after)
SameFiles-prop None after = hlevel props
SameFiles-prop (Some old) None = hlevel props
SameFiles-prop (Some old) (Some new) = hlevel props

pub same-prop : {P Q : Type 0} (before after : Option Files)
    → IsProp (P → Q → SameFiles before after)
same-prop before after = hlevel (SameFiles-prop, props)

pub MayEmpty-prop : (path : FileName) (before after : Option Files)
    → IsProp (MayEmpty path before after)
MayEmpty-prop path None after = hlevel props
MayEmpty-prop path (Some old) None = hlevel props
MayEmpty-prop path (Some old) (Some new) = hlevel props

pub IsWithin-prop : (limit : ℕ) (contents : Option (List ℕ)) → IsProp (IsWithin limit contents)
IsWithin-prop limit None = hlevel props
IsWithin-prop limit (Some octets) = hlevel props

IsFilled-prop : (limit : ℕ) (contents : Option (List ℕ)) → IsProp (IsFilled limit contents)
IsFilled-prop limit None = hlevel props
IsFilled-prop limit (Some octets) = hlevel props

pub full-prop : {P Q : Type 0} (limit : ℕ) (contents : Option (List ℕ))
    → IsProp (P → Q → IsFilled limit contents)
full-prop limit contents = hlevel (IsFilled-prop, props)
