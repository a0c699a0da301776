-- The canonical file is a binary file of its value, and is short.
use Rattle.std.proofs.Common.{◌≡◌, ℕ, ◌+◌, ◌*◌, ◌^◌, ◌<◌, ◌≤◌, List, [], ◌++◌, length, get_or, Ok, refl, sym, ap, subst, ◌∙◌, arith}
use Rattle.std.specs.List.{concat}
use Rattle.std.proofs.Math.Nat.{mul-le-mul_right}
use Rattle.std.proofs.lemmas.List.{length-map, get_or-map}
use Rattle.plist_value.specs.Plist.{Plist, no_items, list, IsPlist, AreOctets}
use Rattle.plist_value.specs.Limits.{nodes, payload, Fits}
use Rattle.plist_object.specs.Layout.{trailer_of, Trailer, IsLaid}
use Rattle.plist_object.specs.Objects.{Content, object_in}
use Rattle.plist_object.specs.Places.{Holds}
use Rattle.plist_object.specs.Spelled.{Spells, IsBinary}
use Rattle.plist_object.proofs.Uniqueness.{same_value}
use Rattle.plist_object.specs.Spelling.{least_width}
use Rattle.plist_write.specs.Tree.{preorder}
use Rattle.plist_write.specs.Sharing.{first_position, kept_positions, count_below, value_at, number_among}
use Rattle.plist_write.specs.Canonical.{object_octets, objects_of, file_of, canon}
use Rattle.plist_write.proofs.Numbering.{number-entry, number-top}
use Rattle.plist_write.proofs.Trees.{length-preorder, preorder-head, OccursAt-all}
use Rattle.plist_write.proofs.Sound.{IsSound, EachSound, EachSound-tree, EachSound-at, sound_from_Fits}
use Rattle.plist_write.proofs.Sizes.{least_width-small, length-kept, length-objects, total, total-tree}
use Rattle.plist_write.proofs.Widths.{least_width-holds}
use Rattle.plist_write.proofs.File.{trailer_for, trailer_of-file, is_laid, object_at-file, length-file_of}
use Rattle.plist_write.proofs.Reading.{object_in-octets, held_at-first, some-object, count_below-le}
use Rattle.plist_write.proofs.Octets.{octets-objects, octets-file_of}
use Rattle.plist_write.proofs.Spelled.{held_at, Spells-tree}
use Rattle.plist_object.proofs.Readable.{what_holds-at}

module _ (all : List Plist) (some : 1 ≤ length all) (few : length all ≤ 16777216) (each : EachSound all) where
  abbrev pub count : ℕ
  count = length (kept_positions all)

  abbrev pub number : ℕ → ℕ
  number k = number_among all (kept_positions all) k

  count-most : count ≤ length all
  count-most = length-kept all 0 all

  count-least : 1 ≤ count
  count-least =
      let entry = number-entry all 0 (value_at all 0) refl some in
      omega (arith, entry.0)

  width-small : least_width count ≤ 4
  width-small = let most = count-most in least_width-small count (omega arith)

  pub number-fits : (k : ℕ) → number k < 256 ^ least_width count
  number-fits k =
      let holds = least_width-holds count (omega (arith, count-most)) in
      omega (arith, count_below-le (first_position all k (value_at all k)) (kept_positions all), count-most)

  pub length-objects_of : length (objects_of all) ≡ count
  length-objects_of = length-map (kept_positions all) _

  objects-small : length (concat (objects_of all)) ≤ total all
  objects-small = length-objects all number (least_width count) width-small 0 all each

  pub objects-at : (i : ℕ) → i < count → get_or (objects_of all) i [] ≡ object_octets number (least_width count) (get_or (kept_positions all) i (0, list no_items)).0 (get_or (kept_positions all) i (0, list no_items)).1
  objects-at i h = get_or-map (λ p. object_octets number (least_width count) p.0 p.1) (kept_positions all) i (0, list no_items) [] h

  pub objects-some : (i : ℕ) → i < length (objects_of all) → 1 ≤ length (get_or (objects_of all) i [])
  objects-some i h =
      let p = get_or (kept_positions all) i (0, list no_items) in
      rw (objects-at i (omega (arith, length-objects_of))) (some-object number (least_width count) p.0 p.1)

  module _ (light : 8 + total all < 18446744073709551616) where
    pub some-objects : 1 ≤ length (objects_of all)
    some-objects = let listed = length-objects_of in let least = count-least in omega arith

    pub count-fits : length (objects_of all) < 18446744073709551616
    count-fits = let listed = length-objects_of in let most = count-most in omega arith

    pub table-fits : 8 + length (concat (objects_of all)) < 18446744073709551616
    table-fits = let small = objects-small in omega arith

    laid : IsLaid (file_of (objects_of all))
    laid = is_laid (objects_of all) some-objects objects-some count-fits table-fits

    pub trailer : trailer_of (file_of (objects_of all)) ≡ trailer_for (length (objects_of all)) (8 + length (concat (objects_of all)))
    trailer = trailer_of-file (objects_of all) some-objects objects-some count-fits table-fits

    -- the object of a position contains what is there
    pub position-holds : (k : ℕ) (v : Plist) → value_at all k ≡ v → k < length all → Holds (file_of (objects_of all)) (number k) (held_at number k v)
    position-holds k v at h =
        let first = first_position all k v in
        let listed = length-objects_of in
        let entry = number-entry all k v at h in
        let same : number k ≡ count_below first (kept_positions all) = ap (λ u. count_below (first_position all k u) (kept_positions all)) at in
        let entry-below = entry.0 in
        let below : number k < length (objects_of all) = omega arith in
        let read = object_at-file (objects_of all) some-objects objects-some count-fits table-fits (number k) below in
        let sound : IsSound v = rw at at (EachSound-at all k h each) in
        let kept : get_or (kept_positions all) (number k) (0, list no_items) ≡ (first, v) = ap (λ (m : ℕ). get_or (kept_positions all) m (0, list no_items)) same ∙ entry.1 (0, list no_items) in
        let octets : get_or (objects_of all) (number k) [] ≡ object_octets number (least_width count) first v = objects-at (number k) (omega arith) ∙ ap (λ (p : ℕ × Plist). object_octets number (least_width count) p.0 p.1) kept in
        let held : object_in (least_width count) (object_octets number (least_width count) first v ++ read.0) ≡ Ok (held_at number k v, read.0) = object_in-octets number (least_width count) first v read.0 number-fits sound ∙ ap (λ (x : Content). Ok (x, read.0)) (held_at-first all number k v) in
        record {
          listed = subst (λ (n : ℕ). number k < n) (sym (ap (λ (x : Trailer). x.count) trailer)) below;
          reads = what_holds-at (file_of (objects_of all)) (number k) (held_at number k v) read.0 (read.1 ∙ ap (λ (n : ℕ). object_in (least_width n) (get_or (objects_of all) (number k) [] ++ read.0)) listed ∙ ap (λ (xs : List ℕ). object_in (least_width count) (xs ++ read.0)) octets ∙ held);
        }

tree-light : (v : Plist) → IsSound v → 8 + total (preorder v) < 4294967296
tree-light v h = let n = h.nodes_fit in let p = h.payload_fits in let weigh = total-tree v in omega arith

pub tree-some : (v : Plist) → 1 ≤ length (preorder v)
tree-some v = let head = preorder-head v in rw (head.1) (omega arith)

module _ (v : Plist) (sound : IsSound v) where
  pub few : length (preorder v) ≤ 16777216
  few = let size = length-preorder v in let n = sound.nodes_fit in omega arith

  pub light : 8 + total (preorder v) < 18446744073709551616
  light = let l = tree-light v sound in omega arith

  pub canon-spells : Spells (canon v) (trailer_of (canon v)).top v
  unfolding canon
  canon-spells =
      let all = preorder v in
      let each = EachSound-tree v sound in
      let at_top = Spells-tree (canon v) all (number all (tree-some v) few each) (position-holds all (tree-some v) few each light) v 0 (OccursAt-all all) in
      let top = ap (λ (x : Trailer). x.top) (trailer all (tree-some v) few each light) in
      subst (λ (i : ℕ). Spells (canon v) i v) (number-top all ∙ sym top) at_top

  pub canon-laid : IsLaid (canon v)
  unfolding canon
  canon-laid = laid (preorder v) (tree-some v) few (EachSound-tree v sound) light

  canon-octets : AreOctets (canon v)
  unfolding canon
  canon-octets =
      octets-file_of (objects_of (preorder v)) (octets-objects (preorder v) (number (preorder v) (tree-some v) few (EachSound-tree v sound)) _ 0 (preorder v) (EachSound-tree v sound))

  canon-size : length (canon v) ≤ 40 + payload v + 25 * nodes v
  unfolding canon
  canon-size =
      let all = preorder v in
      let each = EachSound-tree v sound in
      let narrow = least_width-small (8 + length (concat (objects_of all))) (let l = tree-light v sound in omega (arith, total-tree v, objects-small all (tree-some v) few each)) in
      let entries : least_width (8 + length (concat (objects_of all))) * length (objects_of all) ≤ 4 * length (objects_of all) = mul-le-mul_right (length (objects_of all)) narrow in
      rw (length-file_of (objects_of all)) (omega (arith, length-preorder v, count-most all (tree-some v) few each, length-objects_of all (tree-some v) few each, total-tree v, objects-small all (tree-some v) few each))

pub canon-binary : (v : Plist) → IsPlist v → Fits v → IsBinary (canon v) v
canon-binary v valid fits =
    let sound = sound_from_Fits v valid fits in
    record { octets = canon-octets v sound; laid = canon-laid v sound; spells = canon-spells v sound; valid = valid; fits = fits }

pub canon-length : (v : Plist) → IsPlist v → Fits v → length (canon v) ≤ 40 + payload v + 25 * nodes v
canon-length v valid fits = canon-size v (sound_from_Fits v valid fits)

-- values with the same canonical file are equal, since a file encodes one value at its top
pub canon-injective : (v w : Plist) → IsPlist v → Fits v → IsPlist w → Fits w → canon v ≡ canon w → v ≡ w
canon-injective v w v_valid v_fits w_valid w_fits same =
    let first = canon-spells v (sound_from_Fits v v_valid v_fits) in
    let second = canon-spells w (sound_from_Fits w w_valid w_fits) in
    let moved = subst (λ (f : List ℕ). Spells f (trailer_of f).top w) (sym same) second in
    same_value (canon v) (trailer_of (canon v)).top v w v_valid w_valid first moved
