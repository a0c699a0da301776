-- Where the parts of the file of given objects are, for any widths and top object.
use Rattle.std.proofs.Common.{◌≡◌, ℕ, zero, suc, ◌+◌, ◌-◌, ◌*◌, ◌^◌, ◌<◌, ◌≤◌, List, [], ◌∷◌, ◌++◌, length, take, drop, get_or, slice_index, replicate, refl, sym, ap, ◌∙◌, arith, length-append, append_assoc, lt-ltb, le-leb}
use Rattle.std.specs.List.{concat}
use Rattle.std.proofs.lemmas.List.{take_at, drop_at, drop-drop, get_or-drop, append-nil}
use Rattle.std.proofs.Math.Nat.{mul-le-mul_right}
use Rattle.byteorder.specs.Endian.{big_number, big_bytes}
use Rattle.byteorder.specs.Numbers.{length-bytes_high_first, big_number-reads_back}
use Rattle.plist_object.specs.Layout.{header, Trailer, trailer_of, IsLaid}
use Rattle.plist_object.specs.Objects.{object_in}
use Rattle.plist_object.specs.Places.{place_of, octets_at, object_at}
use Rattle.plist_object.specs.Spelling.{references}
use Rattle.plist_object.proofs.Counts.{length-references}
use Rattle.plist_object.specs.Files.{starts, trailer_with, file_with}

pub length-starts : (k : ℕ) (objects : List (List ℕ)) → length (starts k objects) ≡ length objects
length-starts k [] = refl
length-starts k (o ∷ os) = ap suc (length-starts (k + length o) os)

-- The bytes of object i are in the body at the offset that `starts k objects` gives.
pub record IsPiece (k : ℕ) (objects : List (List ℕ)) (i : ℕ) : Type 0 where
  pub before : ℕ
  pub behind : List ℕ
  pub start : get_or (starts k objects) i 0 ≡ k + before
  pub within : before + length (get_or objects i []) ≤ length (concat objects)
  pub stands : drop before (concat objects) ≡ get_or objects i [] ++ behind

pub is_piece : (k : ℕ) (objects : List (List ℕ)) (i : ℕ) → i < length objects → IsPiece k objects i
is_piece k [] i h = absurd (omega arith)
is_piece k (o ∷ os) zero h =
    record { before = 0; behind = concat os; start = omega arith; within = rw length-append (omega arith); stands = refl }
is_piece k (o ∷ os) (suc i) h =
    let x = is_piece (k + length o) os i (omega arith) in
    record {
      before = length o + x.before;
      behind = x.behind;
      start = x.start ∙ omega arith;
      within = let w = x.within in rw length-append (omega arith);
      stands = sym (drop-drop x.before (length o) (o ++ concat os)) ∙ ap (drop x.before) (drop_at o (concat os) (length o) refl) ∙ x.stands;
    }

-- a number among numbers of one width is decoded from its offset
pub references-read : (w : ℕ) (xs rest : List ℕ) (i : ℕ) → i < length xs → get_or xs i 0 < 256 ^ w → big_number w (drop (i * w) (references w xs ++ rest)) ≡ get_or xs i 0
references-read w [] rest i h fits = absurd (omega arith)
references-read w (x ∷ xs) rest zero h fits =
    let none : 0 * w ≡ 0 = omega arith in
    rw (none, append_assoc) (big_number-reads_back w x (references w xs ++ rest) fits)
references-read w (x ∷ xs) rest (suc i) h fits =
    let next : suc i * w ≡ w + i * w = omega arith in
    let past = drop_at (big_bytes w x) (references w xs ++ rest) w (length-bytes_high_first w x) in
    let others = references-read w xs rest i (omega arith) fits in
    rw (next, append_assoc, sym (drop-drop (i * w) w (big_bytes w x ++ (references w xs ++ rest))), past) others

pub drop-end : (front tail : List ℕ) (back : ℕ) → length tail ≡ back → drop (length (front ++ tail) - back) (front ++ tail) ≡ tail
drop-end front tail back long =
    let at : length front ≡ length (front ++ tail) - back = rw length-append (omega arith) in
    drop_at front tail _ at

module _ (front zeros : List ℕ) (w r : ℕ) (count top place : List ℕ) (six : length zeros ≡ 6) (count_long : length count ≡ 8) (top_long : length top ≡ 8) (place_long : length place ≡ 8) where
  abbrev ended : List ℕ
  ended = front ++ (zeros ++ (w ∷ r ∷ (count ++ (top ++ place))))

  length-ended : length ended ≡ length front + 32
  length-ended = simp (length-append, six, count_long, top_long, place_long) (omega arith)

  widths : drop (length ended - 26) ended ≡ w ∷ r ∷ (count ++ (top ++ place))
  widths =
      rw (sym (append_assoc front zeros (w ∷ r ∷ (count ++ (top ++ place)))))
      (drop-end (front ++ zeros) (w ∷ r ∷ (count ++ (top ++ place))) 26 (simp (length-append, count_long, top_long, place_long) (omega arith)))

  counts : drop (length ended - 24) ended ≡ count ++ (top ++ place)
  counts =
      let moved : ended ≡ (front ++ (zeros ++ (w ∷ r ∷ []))) ++ (count ++ (top ++ place)) = simp append_assoc in
      let tail : length (count ++ (top ++ place)) ≡ 24 = simp (length-append, count_long, top_long, place_long) in
      rw moved (drop-end (front ++ (zeros ++ (w ∷ r ∷ []))) (count ++ (top ++ place)) 24 tail)

  tops : drop (length ended - 16) ended ≡ top ++ place
  tops =
      let moved : ended ≡ (front ++ (zeros ++ (w ∷ r ∷ count))) ++ (top ++ place) = simp append_assoc in
      let tail : length (top ++ place) ≡ 16 = simp (length-append, top_long, place_long) in
      rw moved (drop-end (front ++ (zeros ++ (w ∷ r ∷ count))) (top ++ place) 16 tail)

  places : drop (length ended - 8) ended ≡ place
  places =
      let moved : ended ≡ (front ++ (zeros ++ (w ∷ r ∷ (count ++ top)))) ++ place = simp append_assoc in
      rw moved (drop-end (front ++ (zeros ++ (w ∷ r ∷ (count ++ top)))) place 8 place_long)

  width_at : slice_index ended (length ended - 26) ≡ w
  width_at =
      let at = get_or-drop (length ended - 26) ended 0 0 in
      let same : length ended - 26 + 0 ≡ length ended - 26 = omega arith in
      rw (sym same, sym at, widths) refl

  reference_width_at : slice_index ended (length ended - 25) ≡ r
  reference_width_at =
      let at = get_or-drop (length ended - 26) ended 1 0 in
      let size = length-ended in
      let next : length ended - 26 + 1 ≡ length ended - 25 = omega arith in
      rw (sym next, sym at, widths) refl

read_back : (n : ℕ) (rest octets : List ℕ) → n < 18446744073709551616 → octets ≡ big_bytes 8 n ++ rest → big_number 8 octets ≡ n
read_back n rest octets h is = ap (big_number 8) is ∙ big_number-reads_back 8 n rest (omega arith)

same_trailer : (x y : Trailer) → x.offset_width ≡ y.offset_width → x.reference_width ≡ y.reference_width → x.count ≡ y.count → x.top ≡ y.top → x.table ≡ y.table → x ≡ y
same_trailer x y a b c d e = λ i. record { offset_width = a i; reference_width = b i; count = c i; top = d i; table = e i }

abbrev pub trailer_for : ℕ → ℕ → ℕ → ℕ → ℕ → Trailer
trailer_for w r n top t = record { offset_width = w; reference_width = r; count = n; top = top; table = t }

pub trailer_of-ended : (front : List ℕ) (w r n top t : ℕ) → n < 18446744073709551616 → top < 18446744073709551616 → t < 18446744073709551616 → trailer_of (front ++ trailer_with w r n top t) ≡ trailer_for w r n top t
trailer_of-ended front w r n top t n_fits top_fits t_fits =
    let zeros : List ℕ = replicate 6 0 in
    let a = width_at front zeros w r (big_bytes 8 n) (big_bytes 8 top) (big_bytes 8 t) refl refl refl refl in
    let b = reference_width_at front zeros w r (big_bytes 8 n) (big_bytes 8 top) (big_bytes 8 t) refl refl refl refl in
    let c = read_back n (big_bytes 8 top ++ big_bytes 8 t) _ n_fits (counts front zeros w r (big_bytes 8 n) (big_bytes 8 top) (big_bytes 8 t) refl refl refl refl) in
    let d = read_back top (big_bytes 8 t) _ top_fits (tops front zeros w r (big_bytes 8 n) (big_bytes 8 top) (big_bytes 8 t) refl refl refl refl) in
    let e = read_back t [] _ t_fits (places front zeros w r (big_bytes 8 n) (big_bytes 8 top) (big_bytes 8 t) refl refl refl refl ∙ sym (append-nil (big_bytes 8 t))) in
    same_trailer _ (trailer_for w r n top t) a b c d e

-- the object at an entry of the offset table
pub object_at-is : (f : List ℕ) (i p t r : ℕ) (octets : List ℕ) → (trailer_of f).table ≡ t → (trailer_of f).reference_width ≡ r → place_of f i ≡ p → 8 ≤ p → p < t → drop p (take t f) ≡ octets → object_at f i ≡ object_in r octets
unfolding object_at octets_at
object_at-is f i p t r octets at_table at_width at_place behind before stands =
    rw (at_place, at_table, at_width, le-leb 8 p behind, lt-ltb p t before, stands) refl

pub before_trailer : (a b c d : List ℕ) → a ++ (b ++ (c ++ d)) ≡ (a ++ (b ++ c)) ++ d
before_trailer a b c d = simp append_assoc

pub before_table : (a b c d : List ℕ) → a ++ (b ++ (c ++ d)) ≡ (a ++ b) ++ (c ++ d)
before_table a b c d = sym (append_assoc a b (c ++ d))

pub length-file_with : (w r top : ℕ) (objects : List (List ℕ)) → length (file_with w r top objects) ≡ 8 + length (concat objects) + w * length objects + 32
length-file_with w r top objects =
    let entries = length-references w (starts 8 objects) in
    let count = length-starts 8 objects in
    let parts = ap (λ n. w * n) count in
    simp length-append (omega (arith, entries, parts))

-- The numbers of a file are in range: widths from 1 to 8 bytes, a top that is one of the objects,
-- objects of at least one byte, offsets that fit their width.
pub record CanStand (w r top : ℕ) (objects : List (List ℕ)) : Type 0 where
  pub offset_width_least : 1 ≤ w
  pub offset_width_most : w ≤ 8
  pub reference_width_least : 1 ≤ r
  pub reference_width_most : r ≤ 8
  pub top_below : top < length objects
  pub each : (i : ℕ) → i < length objects → 1 ≤ length (get_or objects i [])
  pub starts_fit : (i : ℕ) → i < length objects → get_or (starts 8 objects) i 0 < 256 ^ w
  pub count_fits : length objects < 18446744073709551616
  pub table_fits : 8 + length (concat objects) < 18446744073709551616

module _ (w r top : ℕ) (objects : List (List ℕ)) (can : CanStand w r top objects) where
  pub trailer_of-file : trailer_of (file_with w r top objects) ≡ trailer_for w r (length objects) top (8 + length (concat objects))
  trailer_of-file =
      let t = 8 + length (concat objects) in
      let entries = references w (starts 8 objects) in
      let tail = trailer_with w r (length objects) top t in
      let below = can.top_below in
      let few = can.count_fits in
      ap trailer_of (before_trailer header (concat objects) entries tail) ∙ trailer_of-ended (header ++ (concat objects ++ entries)) w r (length objects) top t few (omega arith) can.table_fits

  body_some : 1 ≤ length (concat objects)
  body_some =
      let below = can.top_below in
      let some : 0 < length objects = omega arith in
      let x = is_piece 8 objects 0 some in
      let first = can.each 0 some in
      let within = x.within in
      omega arith

  pub is_laid : IsLaid (file_with w r top objects)
  is_laid =
      let t = 8 + length (concat objects) in
      let size = length-file_with w r top objects in
      let body = body_some in
      let below = can.top_below in
      let wide = can.offset_width_least in
      let product : 1 * length objects ≤ w * length objects = mul-le-mul_right (length objects) wide in
      let ends : t + length objects * w + 32 ≡ length (file_with w r top objects) = rw size (omega arith) in
      record {
        long = omega arith;
        headed = refl;
        trailed = rw (trailer_of-file) (record {
          offset_width_least = can.offset_width_least;
          offset_width_most = can.offset_width_most;
          reference_width_least = can.reference_width_least;
          reference_width_most = can.reference_width_most;
          some_object = omega arith;
          top_below = below;
          table_behind = omega arith;
          ends = ends;
        });
      }

  pub place_of-file : (i : ℕ) → i < length objects → place_of (file_with w r top objects) i ≡ get_or (starts 8 objects) i 0
  place_of-file i h =
      let t = 8 + length (concat objects) in
      let f = file_with w r top objects in
      let entries = references w (starts 8 objects) in
      let tail = trailer_with w r (length objects) top t in
      let fields = ap (λ (x : Trailer). big_number x.offset_width (drop (x.table + i * x.offset_width) f)) trailer_of-file in
      let past = drop_at (header ++ concat objects) (entries ++ tail) t (length-append header (concat objects)) in
      let behind : drop t f ≡ entries ++ tail = ap (drop t) (before_table header (concat objects) entries tail) ∙ past in
      let listed = length-starts 8 objects in
      let read = references-read w (starts 8 objects) tail i (omega arith) (can.starts_fit i h) in
      fields ∙ ap (big_number w) (sym (drop-drop (i * w) t f) ∙ ap (drop (i * w)) behind) ∙ read

  -- an object is decoded from its bytes, whatever follows them
  pub object_at-file : (i : ℕ) → i < length objects → (behind : List ℕ) × (object_at (file_with w r top objects) i ≡ object_in r (get_or objects i [] ++ behind))
  object_at-file i h =
      let t = 8 + length (concat objects) in
      let f = file_with w r top objects in
      let entries = references w (starts 8 objects) in
      let tail = trailer_with w r (length objects) top t in
      let x = is_piece 8 objects i h in
      let within = x.within in
      let start = x.start in
      let size = can.each i h in
      let place = place_of-file i h ∙ start in
      let front : take t f ≡ header ++ concat objects = ap (take t) (before_table header (concat objects) entries tail) ∙ take_at (header ++ concat objects) (entries ++ tail) t (length-append header (concat objects)) in
      let stands : drop (8 + x.before) (take t f) ≡ get_or objects i [] ++ x.behind = ap (drop (8 + x.before)) front ∙ sym (drop-drop x.before 8 (header ++ concat objects)) ∙ x.stands in
      (x.behind, object_at-is f i (8 + x.before) t r _ (ap (λ (y : Trailer). y.table) trailer_of-file) (ap (λ (y : Trailer). y.reference_width) trailer_of-file) place (omega arith) (omega arith) stands)
