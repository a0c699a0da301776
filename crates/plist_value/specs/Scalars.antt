-- The scalar that a `ScalarRef` refers to.
use Rattle.plist_value.specs.Plist.{Scalar, text, whole, flag, real4, real8, moment, bytes}
use Rattle.plist_value.specs.Wholes.{integer_of}
use Rattle.plist_value.specs.Texts.{units_of}
use Rattle.plist_value.specs.declared.scalar_ref.ScalarRef.{ScalarRef}
use Rattle.plist_value.specs.declared.scalar_ref.ScalarRef.TheVariants as shown

abbrev pub content_of : ScalarRef → Scalar
content_of (shown.Text t) = text (units_of t)
content_of (shown.Whole w) = whole (integer_of w)
content_of (shown.Flag b) = flag b
content_of (shown.Real4 xs) = real4 xs
content_of (shown.Real8 xs) = real8 xs
content_of (shown.Moment xs) = moment xs
content_of (shown.Bytes xs) = bytes xs.now
