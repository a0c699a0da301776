-- The eight rules of a canonical file (this project's profile). Each is stated in terms of a file
-- that has the layout.
use Rattle.std.specs.Prelude.{◌≡◌, ◌≢◌, ◌↔◌, ◌⊎◌, ℕ, suc, ◌<◌, List, [], ◌∷◌, ◌++◌, replicate, Ok}
use Rattle.std.specs.Prelude.{IsOk}
use Rattle.std.specs.List.{AllByRecursion, Contains}
use Rattle.std.specs.List.Sorted.{IsStrictlySortedBy}
use Rattle.std.specs.Ordering.{nat_cmp}
use Rattle.std.specs.Cmp.Lexicographic.{slice_cmp}
use Rattle.plist_value.specs.Plist.{Scalar, text, Plist, IsPlist}
use Rattle.plist_value.specs.Limits.{Fits}
use Rattle.plist_object.specs.Layout.{trailer_of, slack_of}
use Rattle.plist_object.specs.Objects.{Content, holds_scalar, holds_list, holds_table}
use Rattle.plist_object.specs.Places.{Holds, HoldsScalar, HoldsText, object_at, what_holds, span_of}
use Rattle.plist_object.specs.Spelled.{Spells}
use Rattle.plist_object.specs.Spelling.{least_width}
use Rattle.plist_object.specs.References.{references_of}
use Rattle.plist_object.specs.Shortest.{IsShortest}

-- the references of a dictionary to its keys
abbrev pub keys_of : Content → List ℕ
keys_of (holds_scalar s) = []
keys_of (holds_list refs) = []
keys_of (holds_table keys values) = keys

-- the references point to these strings, in this order
abbrev pub HoldTexts : List ℕ → List ℕ → List (List ℕ) → Type 0
HoldTexts f refs [] = refs ≡ []
HoldTexts f [] (units ∷ texts) = ⊥
HoldTexts f (i ∷ refs) (units ∷ texts) = Holds f i (holds_scalar (text units))
    × HoldTexts f refs texts

-- Object i can be decoded, each of its references is the number of an object, and those to keys
-- point to strings.
pub record IsWellRead (f : List ℕ) (i : ℕ) : Type 0 where
  pub held : Content
  pub holds : Holds f i held
  pub numbers : AllByRecursion (λ reference. reference < (trailer_of f).count) (references_of held)
  pub texts : AllByRecursion (HoldsText f) (keys_of held)

-- it holds of each object of the file
abbrev pub Each : (List ℕ → ℕ → Type 0) → List ℕ → Type 0
Each holds f = (i : ℕ) → i < (trailer_of f).count → holds f i

-- C0: every object can be decoded, with valid references, and the value of object 0 is within the
-- limits.
pub record ReadsWithinLimits (f : List ℕ) : Type 0 where
  pub read : Each IsWellRead f
  pub fits : (v : Plist) → IsPlist v → Spells f 0 v → Fits v

-- C1: the first six bytes of the trailer are zero, and the top object is 0.
pub record HasPlainTrailer (f : List ℕ) : Type 0 where
  pub slack : slack_of f ≡ replicate 6 0
  pub top : (trailer_of f).top ≡ 0

-- C2: offsets and references have the least widths.
pub record HasLeastWidths (f : List ℕ) : Type 0 where
  pub offset : (trailer_of f).offset_width ≡ least_width (trailer_of f).table
  pub reference : (trailer_of f).reference_width ≡ least_width (trailer_of f).count

-- C3 at i: the first object begins after the header, each other one where its predecessor ends, and
-- the last one ends where the offset table begins. The rule says nothing of objects that cannot be
-- decoded.
pub record Adjoins (f : List ℕ) (i : ℕ) : Type 0 where
  pub first : (start end : ℕ) → i ≡ 0 → span_of f i ≡ Ok (start, end) → start ≡ 8
  pub next : (before start middle begin end : ℕ) → i ≡ suc before
      → span_of f before ≡ Ok (start, middle) → span_of f i ≡ Ok (begin, end) → begin ≡ middle
  pub last : (start end : ℕ) → suc i ≡ (trailer_of f).count → span_of f i ≡ Ok (start, end)
      → end ≡ (trailer_of f).table

-- C4 at i: if object i can be decoded, its bytes are its canonical encoding.
abbrev pub IsSpelledCanonically : List ℕ → ℕ → Type 0
IsSpelledCanonically f i = IsOk (object_at f i) → IsShortest f i

-- C5 at i: if object i is a dictionary and its keys are strings, each key is below the next, unit
-- by unit.
abbrev pub HasAscendingKeys : List ℕ → ℕ → Type 0
HasAscendingKeys f i =
    (keys values : List ℕ) (texts : List (List ℕ)) → what_holds f i ≡ Ok (holds_table keys values)
    → HoldTexts f keys texts → IsStrictlySortedBy (slice_cmp nat_cmp) texts

-- C6 at i: if object i is a scalar, no earlier object is an equal one.
abbrev pub IsNoRepeat : List ℕ → ℕ → Type 0
IsNoRepeat f i =
    (s : Scalar) → what_holds f i ≡ Ok (holds_scalar s) → (earlier : ℕ) → earlier < i
    → what_holds f earlier ≢ Ok (holds_scalar s)

-- The walk from object i in preorder: i itself, followed by the walks from its references in order.
mutual
  pub data Walk (f : List ℕ) : ℕ → List ℕ → Type 0 where
    visit : (i : ℕ) (held : Content) (entries : List ℕ) → Holds f i held
        → Walks f (references_of held) entries → Walk f i (i ∷ entries)

  pub data Walks (f : List ℕ) : List ℕ → List ℕ → Type 0 where
    end : Walks f [] []
    step : (i : ℕ) (refs entries others : List ℕ) → Walk f i entries → Walks f refs others
        → Walks f (i ∷ refs) (entries ++ others)

-- After these entries of a walk the next one comes in order: exactly the numbers below it were
-- visited, or it was visited itself and is the number of a scalar.
abbrev pub ComesInOrder : List ℕ → List ℕ → ℕ → Type 0
ComesInOrder f before entry = ((i : ℕ) → Contains before i ↔ i < entry)
    ⊎ (Contains before entry × HoldsScalar f entry)

-- C7: the walk from object 0 visits all objects in the order of their numbers, and only scalars
-- again.
pub record IsNumberedInPreorder (f : List ℕ) : Type 0 where
  pub entries : List ℕ
  pub walk : Walk f 0 entries
  pub order : (before after : List ℕ) (entry : ℕ) → entries ≡ before ++ (entry ∷ after)
      → ComesInOrder f before entry
  pub all : (i : ℕ) → Contains entries i ↔ i < (trailer_of f).count

-- all eight rules
pub record FollowsRules (f : List ℕ) : Type 0 where
  pub reads_within_limits : ReadsWithinLimits f
  pub plain_trailer : HasPlainTrailer f
  pub least_widths : HasLeastWidths f
  pub adjoins : Each Adjoins f
  pub spelled_canonically : Each IsSpelledCanonically f
  pub ascending_keys : Each HasAscendingKeys f
  pub no_repeat : Each IsNoRepeat f
  pub numbered_in_preorder : IsNumberedInPreorder f

-- A reference that the walk has still to follow, with the object that contains it.
pub record Reference : Type 0 where
  pub holder : ℕ
  pub number : ℕ

-- the references that an object contains
abbrev pub held_by : ℕ → List ℕ → List Reference
held_by holder [] = []
held_by holder (i ∷ refs) = record { holder = holder; number = i } ∷ held_by holder refs

-- The walk from object 0 in preorder, while its entries come in order: these are the entries so
-- far, and these references are still to be followed, the next one first.
pub data ComesTo (f : List ℕ) : List ℕ → List Reference → Type 0 where
  begins : (held : Content) → Holds f 0 held → ComesTo f (0 ∷ []) (held_by 0 (references_of held))
  goes_on : (entries : List ℕ) (holder i : ℕ) (held : Content) (left : List Reference)
      → ComesTo f entries (record { holder = holder; number = i } ∷ left) → ComesInOrder f entries i
      → Holds f i held → ComesTo f (entries ++ (i ∷ [])) (held_by i (references_of held) ++ left)

-- The walk comes to a reference in the object `holder` that is no number of an object, or does not
-- come in order.
pub record TurnsAt (f : List ℕ) (holder : ℕ) : Type 0 where
  pub entries : List ℕ
  pub number : ℕ
  pub left : List Reference
  pub comes : ComesTo f entries (record { holder = holder; number = number } ∷ left)
  pub other : number < (trailer_of f).count → ¬ ComesInOrder f entries number

-- the walk ends, and an object was not visited
pub record LeavesOver (f : List ℕ) : Type 0 where
  pub entries : List ℕ
  pub comes : ComesTo f entries []
  pub object : ℕ
  pub over : object < (trailer_of f).count
  pub missed : ¬ Contains entries object

-- The rule with this number does not hold of the file, and is reported at this object. C0: at an
-- object that cannot be decoded or has a bad reference; at object 0 if the value exceeds the
-- limits. C1 and C2: at object 0. C3 to C6: at the object. C7: at the object with the first bad
-- reference of the walk, or at 0 if an object is never visited.
pub data IsBroken (f : List ℕ) : ℕ → ℕ → Type 0 where
  breaks_c0 : (i : ℕ) → i < (trailer_of f).count → ¬ IsWellRead f i → IsBroken f 0 i
  breaks_limits : (v : Plist) → IsPlist v → Spells f 0 v → ¬ Fits v → IsBroken f 0 0
  breaks_c1 : ¬ HasPlainTrailer f → IsBroken f 1 0
  breaks_c2 : ¬ HasLeastWidths f → IsBroken f 2 0
  breaks_c3 : (i : ℕ) → i < (trailer_of f).count → ¬ Adjoins f i → IsBroken f 3 i
  breaks_c4 : (i : ℕ) → i < (trailer_of f).count → ¬ IsSpelledCanonically f i → IsBroken f 4 i
  breaks_c5 : (i : ℕ) → i < (trailer_of f).count → ¬ HasAscendingKeys f i → IsBroken f 5 i
  breaks_c6 : (i : ℕ) → i < (trailer_of f).count → ¬ IsNoRepeat f i → IsBroken f 6 i
  breaks_c7 : (holder : ℕ) → ¬ IsNumberedInPreorder f → TurnsAt f holder → IsBroken f 7 holder
  leaves_over : ¬ IsNumberedInPreorder f → LeavesOver f → IsBroken f 7 0
