-- Which fault of a file is true, and where.
use Rattle.std.specs.Prelude.{◌≡◌, ℕ, ◌+◌, ◌<◌, ◌≤◌, List, ◌∷◌, length, slice_index, Err, ⊤}
use Rattle.std.specs.List.{Contains}
use Rattle.plist_value.specs.Plist.{text, whole, flag, real4, real8, moment, bytes}
use Rattle.plist_value.specs.declared.TheConstants.{MAX_NODES, MAX_DEPTH, MAX_PAYLOAD}
use Rattle.plist_object.specs.declared.layout.LayoutFault.TheVariants as layout
use Rattle.plist_object.specs.declared.object.ObjectFault.{ObjectFault}
use Rattle.plist_object.specs.declared.object.ObjectFault.TheVariants as object
use Rattle.plist_object.specs.Layout.{trailer_of, IsLaid, IsLayoutFault}
use Rattle.plist_object.specs.Objects.{Content, holds_scalar, holds_list, holds_table}
use Rattle.plist_object.specs.Places.{Holds, what_holds}
use Rattle.plist_binary.specs.declared.fault.BinaryFault.{BinaryFault}
use Rattle.plist_binary.specs.declared.fault.BinaryFault.TheVariants.{TooShort, BadHeader}
use Rattle.plist_binary.specs.declared.fault.BinaryFault.TheVariants.{BadTrailer, BadOffset}
use Rattle.plist_binary.specs.declared.fault.BinaryFault.TheVariants.{BadReference, CutObject}
use Rattle.plist_binary.specs.declared.fault.BinaryFault.TheVariants.{BadMarker, NullObject}
use Rattle.plist_binary.specs.declared.fault.BinaryFault.TheVariants.{UidObject, SetObject}
use Rattle.plist_binary.specs.declared.fault.BinaryFault.TheVariants.{NotAscii, WideInteger}
use Rattle.plist_binary.specs.declared.fault.BinaryFault.TheVariants.{KeyNotText, DuplicateKey}
use Rattle.plist_binary.specs.declared.fault.BinaryFault.TheVariants.{Cycle, TooDeep, TooManyNodes}
use Rattle.plist_binary.specs.declared.fault.BinaryFault.TheVariants.{TooMuchPayload, OutOfMemory}
use Rattle.plist_binary.specs.Paths.{Refers, EndsPath, NoneTwice}
use Rattle.plist_binary.specs.Begins.{payload_read, Begins}

-- i ends a path, and cannot be decoded because of this fault
pub record IsFaulty (f : List ℕ) (i : ℕ) (fault : ObjectFault) : Type 0 where
  pub ends : EndsPath f i
  pub listed : i < (trailer_of f).count
  pub fails : what_holds f i ≡ Err fault

-- i ends a path, and contains a reference to no object
pub record RefersNowhere (f : List ℕ) (i : ℕ) : Type 0 where
  pub ends : EndsPath f i
  pub reference : ℕ
  pub refers : Refers f i reference
  pub above : (trailer_of f).count ≤ reference

-- the content is a string
abbrev pub IsText : Content → Type 0
IsText (holds_scalar (text units)) = ⊤
IsText (holds_scalar (whole z)) = ⊥
IsText (holds_scalar (flag b)) = ⊥
IsText (holds_scalar (real4 xs)) = ⊥
IsText (holds_scalar (real8 xs)) = ⊥
IsText (holds_scalar (moment xs)) = ⊥
IsText (holds_scalar (bytes xs)) = ⊥
IsText (holds_list refs) = ⊥
IsText (holds_table keys values) = ⊥

-- i ends a path, and one of its keys is not a string
pub record HasOtherKey (f : List ℕ) (i : ℕ) : Type 0 where
  pub ends : EndsPath f i
  pub keys : List ℕ
  pub values : List ℕ
  pub holds : Holds f i (holds_table keys values)
  pub key : ℕ
  pub among : Contains keys key
  pub held : Content
  pub reads : Holds f key held
  pub no_text : ¬ IsText held

-- i ends a path, and two of its keys are equal strings
pub record HasKeyTwice (f : List ℕ) (i : ℕ) : Type 0 where
  pub ends : EndsPath f i
  pub keys : List ℕ
  pub values : List ℕ
  pub holds : Holds f i (holds_table keys values)
  pub first : ℕ
  pub second : ℕ
  pub apart : first < second
  pub within : second < length keys
  pub units : List ℕ
  pub first_reads : Holds f (slice_index keys first) (holds_scalar (text units))
  pub second_reads : Holds f (slice_index keys second) (holds_scalar (text units))

-- i ends a path, and refers to an object on that path, which includes i
pub record ClosesCycle (f : List ℕ) (i : ℕ) : Type 0 where
  pub ends : EndsPath f i
  pub reference : ℕ
  pub refers : Refers f i reference
  pub on_path : Contains (i ∷ ends.before) reference

-- i ends a path without a cycle, with one object more than the maximum depth
pub record IsTooDeep (f : List ℕ) (i : ℕ) : Type 0 where
  pub ends : EndsPath f i
  pub acyclic : NoneTwice (i ∷ ends.before)
  pub long : length ends.before ≡ MAX_DEPTH

-- i closes no cycle, and before it come exactly `nodes` nodes and at most `most` payload
pub record HasNodesBefore (f : List ℕ) (i nodes most : ℕ) : Type 0 where
  pub laid : IsLaid f
  pub listed : i < (trailer_of f).count
  pub before : List ℕ
  pub payload : ℕ
  pub begins : Begins f before i nodes payload
  pub new : ¬ Contains before i
  pub within : payload ≤ most

-- i is not too deep, and before it come fewer than `few` nodes and at most `most` payload, which
-- the payload of i exceeds
pub record HasPayloadAbove (f : List ℕ) (i few most : ℕ) : Type 0 where
  pub laid : IsLaid f
  pub listed : i < (trailer_of f).count
  pub before : List ℕ
  pub nodes : ℕ
  pub payload : ℕ
  pub begins : Begins f before i nodes payload
  pub shallow : length before < MAX_DEPTH
  pub fewer : nodes < few
  pub within : payload ≤ most
  pub above : most < payload + payload_read (what_holds f i)

-- the fault is true at its place, with these limits on nodes and payload
abbrev pub StandsWithin : List ℕ → ℕ → ℕ → BinaryFault → Type 0
StandsWithin f nodes payload TooShort = IsLayoutFault layout.TooShort f
StandsWithin f nodes payload BadHeader = IsLayoutFault layout.BadHeader f
StandsWithin f nodes payload BadTrailer = IsLayoutFault layout.BadTrailer f
StandsWithin f nodes payload (BadOffset i) = IsFaulty f i object.BadOffset
StandsWithin f nodes payload (CutObject i) = IsFaulty f i object.CutObject
StandsWithin f nodes payload (BadMarker i) = IsFaulty f i object.BadMarker
StandsWithin f nodes payload (NullObject i) = IsFaulty f i object.NullObject
StandsWithin f nodes payload (UidObject i) = IsFaulty f i object.UidObject
StandsWithin f nodes payload (SetObject i) = IsFaulty f i object.SetObject
StandsWithin f nodes payload (NotAscii i) = IsFaulty f i object.NotAscii
StandsWithin f nodes payload (WideInteger i) = IsFaulty f i object.WideInteger
StandsWithin f nodes payload (BadReference i) = RefersNowhere f i
StandsWithin f nodes payload (KeyNotText i) = HasOtherKey f i
StandsWithin f nodes payload (DuplicateKey i) = HasKeyTwice f i
StandsWithin f nodes payload (Cycle i) = ClosesCycle f i
StandsWithin f nodes payload (TooDeep i) = IsTooDeep f i
StandsWithin f nodes payload (TooManyNodes i) = HasNodesBefore f i nodes payload
StandsWithin f nodes payload (TooMuchPayload i) = HasPayloadAbove f i nodes payload
StandsWithin f nodes payload OutOfMemory = ⊤

-- the fault is true at its place
abbrev pub Stands : List ℕ → BinaryFault → Type 0
Stands f fault = StandsWithin f MAX_NODES MAX_PAYLOAD fault
