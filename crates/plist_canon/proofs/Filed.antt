-- A file whose objects occupy contiguous pieces is the file of those pieces.
use Rattle.std.proofs.Common.{◌≡◌, ℕ, suc, ◌+◌, ◌-◌, ◌*◌, ◌<◌, ◌≤◌, ltb, cond, List, [], ◌++◌, length, take, drop, get_or, refl, sym, ap, ◌∙◌, ⊎_elim, arith, length-drop, take-append-drop, append_assoc, lt-ltb, le-ltb, subst}
use Rattle.std.specs.List.{concat}
use Rattle.std.proofs.lemmas.Bool.{cases_lt}
use Rattle.std.proofs.lemmas.List.{drop-drop, take-take, length-take-le, length-map, get_or-map}
use Rattle.byteorder.specs.Endian.{big_number}
use Rattle.plist_value.specs.Plist.{AreOctets, Plist, list, no_items}
use Rattle.plist_object.specs.Layout.{header, trailer_of, IsLaid}
use Rattle.plist_object.specs.Objects.{numbers}
use Rattle.plist_object.specs.Places.{place_of, Holds}
use Rattle.plist_object.specs.Spelling.{least_width, references}
use Rattle.plist_object.proofs.SameOctets.{references-numbers, AreOctets-drop}
use Rattle.plist_object.specs.Files.{starts}
use Rattle.plist_write.specs.Canonical.{trailer_octets, file_of, object_octets, objects_of, canon}
use Rattle.plist_canon.specs.Rules.{HasPlainTrailer, HasLeastWidths, Adjoins, IsSpelledCanonically}
use Rattle.plist_canon.proofs.Occupied.{Touch, StandsAt, pieces_make, numbers-starts, Occupies, trailer-is, occupies}
use Rattle.plist_object.specs.Shortest.{spelling_of}
use Rattle.plist_write.specs.Tree.{preorder}
use Rattle.plist_write.specs.Sharing.{kept_positions, value_at}
use Rattle.plist_write.specs.Found.{held_at, number_in}
use Rattle.plist_write.proofs.Found.{octets-held}
use Rattle.plist_canon.proofs.KeptPositions.{is_made}

-- a file is the concatenation of its four parts
join_file : (f head body offsets trailer : List ℕ) (t n : ℕ) → take 8 (take t f) ≡ head → drop 8 (take t f) ≡ body → take n (drop t f) ≡ offsets → drop n (drop t f) ≡ trailer → f ≡ head ++ (body ++ (offsets ++ trailer))
join_file f head body offsets trailer t n heads bodies entries ends =
    let front : take t f ≡ head ++ body = sym (take-append-drop 8 (take t f)) ∙ ap (λ (xs : List ℕ). xs ++ drop 8 (take t f)) heads ∙ ap (λ (xs : List ℕ). head ++ xs) bodies in
    let back : drop t f ≡ offsets ++ trailer = sym (take-append-drop n (drop t f)) ∙ ap (λ (xs : List ℕ). xs ++ drop n (drop t f)) entries ∙ ap (λ (xs : List ℕ). offsets ++ xs) ends in
    sym (take-append-drop t f) ∙ ap (λ (xs : List ℕ). xs ++ drop t f) front ∙ ap (λ (xs : List ℕ). (head ++ body) ++ xs) back ∙ append_assoc head body (offsets ++ trailer)

module _ (f : List ℕ) (octets : AreOctets f) (laid : IsLaid f) (plain : HasPlainTrailer f) (least : HasLeastWidths f)
    (objects : List (List ℕ)) (count : (trailer_of f).count ≡ length objects)
    (adjoins : (i : ℕ) → i < length objects → Adjoins f i)
    (each : (i : ℕ) → i < length objects → Occupies f i (get_or objects i [])) where
  abbrev t : ℕ
  t = (trailer_of f).table

  abbrev w : ℕ
  w = (trailer_of f).offset_width

  -- where object i begins, or the offset table after the last one
  abbrev edge : ℕ → ℕ
  edge i = cond (ltb i (length objects)) (place_of f i) t

  edge-inside : (i : ℕ) → i < length objects → edge i ≡ place_of f i
  edge-inside i h = rw (lt-ltb i (length objects) h) refl

  edge-end : (i : ℕ) → length objects ≤ i → edge i ≡ t
  edge-end i h = rw (le-ltb i (length objects) h) refl

  some : 0 < length objects
  some = let least_one = laid.trailed.some_object in omega arith

  size : t + length objects * w + 32 ≡ length f
  size = rw count at laid.trailed.ends

  edge-first : edge 0 ≡ 8
  edge-first =
      edge-inside 0 some ∙ (adjoins 0 some).first (place_of f 0) _ refl (each 0 some).span

  touch : Touch edge objects
  touch i h =
      let here = (each i h).span in
      let from = edge-inside i h in
      ⊎_elim
      (λ (more : suc i < length objects).
      let touches = (adjoins (suc i) more).next i (place_of f i) _ (place_of f (suc i)) _ refl here (each (suc i) more).span in
      edge-inside (suc i) more ∙ touches ∙ ap (λ (n : ℕ). n + length (get_or objects i [])) (sym from))
      (λ (none : length objects ≤ suc i).
      let last : suc i ≡ (trailer_of f).count = omega arith in
      let touches = (adjoins i h).last (place_of f i) _ last here in
      edge-end (suc i) none ∙ sym touches ∙ ap (λ (n : ℕ). n + length (get_or objects i [])) (sym from))
      (cases_lt (suc i) (length objects))

  stand : (i : ℕ) → i < length objects → StandsAt (take t f) (edge i) (get_or objects i [])
  stand i h = rw (edge-inside i h) (each i h).stands

  front-long : length (take t f) ≡ t
  front-long = let whole = size in length-take-le t f (omega arith)

  body : drop 8 (take t f) ≡ concat objects
  body =
      let at_end = edge-end (length objects) (omega arith) in
      ap (λ (n : ℕ). drop n (take t f)) (sym edge-first) ∙ pieces_make (take t f) edge objects stand touch (omega (arith, front-long))

  table-is : t ≡ 8 + length (concat objects)
  table-is =
      let rest : length (concat objects) ≡ length (take t f) - 8 = ap length (sym body) ∙ length-drop 8 (take t f) in
      omega (arith, front-long, laid.trailed.table_behind)

  entries : (i : ℕ) → i < length objects → big_number w (drop (i * w) (drop t f)) ≡ edge i
  entries i h =
      ap (big_number w) (drop-drop (i * w) t f) ∙ sym (edge-inside i h)

  offsets : take (length objects * w) (drop t f) ≡ references w (starts 8 objects)
  offsets =
      let listed : numbers w (length objects) (drop t f) ≡ starts 8 objects = numbers-starts w (drop t f) edge objects entries touch ∙ ap (λ (n : ℕ). starts n objects) edge-first in
      sym (references-numbers w (length objects) (drop t f) (AreOctets-drop t f octets) (omega (arith, size, length-drop t f))) ∙ ap (references w) listed

  trailer : drop (length objects * w) (drop t f) ≡ trailer_octets (length objects) t
  trailer =
      let position : t + length objects * w ≡ length f - 32 = omega (arith, size) in
      drop-drop (length objects * w) t f ∙ ap (λ (n : ℕ). drop n f) position ∙ trailer-is f octets (omega (arith, laid.long, size)) plain least ∙ ap (λ (n : ℕ). trailer_octets n t) count

  pub file_of-is : file_of objects ≡ f
  file_of-is =
      let head : take 8 (take t f) ≡ header = take-take 8 t f (omega (arith, laid.trailed.table_behind)) ∙ laid.headed in
      let width : references w (starts 8 objects) ≡ references (least_width t) (starts 8 objects) = ap (λ (n : ℕ). references n (starts 8 objects)) least.offset in
      let parts = join_file f header (concat objects) (references (least_width t) (starts 8 objects)) (trailer_octets (length objects) t) t (length objects * w) head body (offsets ∙ width) trailer in
      sym (parts ∙ ap (λ (p : ℕ). header ++ (concat objects ++ (references (least_width p) (starts 8 objects) ++ trailer_octets (length objects) p))) table-is)

-- A file is canonical if its objects decode as the positions of a tree do, have their canonical
-- encoding, and are contiguous.

module _ (f : List ℕ) (octets : AreOctets f) (laid : IsLaid f) (plain : HasPlainTrailer f) (least : HasLeastWidths f)
    (adjoins : (i : ℕ) → i < (trailer_of f).count → Adjoins f i)
    (canonically : (i : ℕ) → i < (trailer_of f).count → IsSpelledCanonically f i)
    (all : List Plist) (count : (trailer_of f).count ≡ length (kept_positions all))
    (holds : (k : ℕ) → k < length all → Holds f (number_in all k) (held_at (number_in all) k (value_at all k))) where
  -- object i is made at a position, and contains what is there
  occupies_kept : (i : ℕ) → i < length (kept_positions all) → Occupies f i (get_or (objects_of all) i [])
  occupies_kept i h =
      let width = least_width (length (kept_positions all)) in
      let made = is_made all i h in
      let v = value_at all made.position in
      let held = held_at (number_in all) made.position v in
      let numbered : Holds f i held = subst (λ (n : ℕ). Holds f n held) made.number_is (holds made.position made.below) in
      let spelled = occupies f i held (omega (arith, laid.trailed.ends)) numbered (canonically i (omega (arith, laid.trailed.ends))) in
      let widths : (trailer_of f).reference_width ≡ width = least.reference ∙ ap least_width count in
      let same = ap (λ (n : ℕ). spelling_of n held) widths ∙ octets-held (number_in all) width made.position v in
      let entry : get_or (objects_of all) i [] ≡ object_octets (number_in all) width made.position v = get_or-map (λ p. object_octets (number_in all) width p.0 p.1) (kept_positions all) i (0, list no_items) [] h ∙ ap (λ (p : ℕ × Plist). object_octets (number_in all) width p.0 p.1) made.entry_is in
      subst (Occupies f i) (same ∙ sym entry) spelled

  objects_listed : length (objects_of all) ≡ length (kept_positions all)
  objects_listed = length-map (kept_positions all) _

  formed : file_of (objects_of all) ≡ f
  formed =
      let listed = objects_listed in
      file_of-is f octets laid plain least (objects_of all) (count ∙ sym listed)
      (λ i h. adjoins i (omega arith)) (λ i h. occupies_kept i (omega arith))

pub file_is_canonical : (f : List ℕ) → AreOctets f → IsLaid f → HasPlainTrailer f → HasLeastWidths f → ((i : ℕ) → i < (trailer_of f).count → Adjoins f i) → ((i : ℕ) → i < (trailer_of f).count → IsSpelledCanonically f i) → (v : Plist) → (trailer_of f).count ≡ length (kept_positions (preorder v)) → ((k : ℕ) → k < length (preorder v) → Holds f (number_in (preorder v) k) (held_at (number_in (preorder v)) k (value_at (preorder v) k))) → canon v ≡ f
unfolding canon
file_is_canonical f octets laid plain least adjoins canonically v count holds =
    formed f octets laid plain least adjoins canonically (preorder v) count holds
