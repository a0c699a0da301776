-- A canonical file has the layout and follows the rules.
use Rattle.std.proofs.Common.{◌≡◌, ℕ, ◌+◌, ◌<◌, ◌≤◌, List, [], ◌++◌, length, get_or, Ok, sym, ap, subst, ◌∙◌, arith, refl}
use Rattle.plist_value.specs.Plist.{Plist, no_items, list, IsPlist, AreOctets}
use Rattle.plist_value.specs.Limits.{Fits}
use Rattle.plist_object.specs.Layout.{Trailer, IsLaid}
use Rattle.plist_object.specs.Objects.{Content, object_in}
use Rattle.plist_object.specs.Spelled.{Spells}
use Rattle.plist_object.proofs.Uniqueness.{same_value}
use Rattle.plist_object.specs.Shortest.{spelling_of}
use Rattle.plist_object.specs.Spelling.{least_width}
use Rattle.plist_write.specs.Tree.{preorder}
use Rattle.plist_write.specs.Sharing.{kept_positions, value_at}
use Rattle.plist_write.specs.Canonical.{objects_of, file_of, canon}
use Rattle.plist_write.specs.Found.{OccursAt, held_at, number_in}
use Rattle.plist_canon.specs.Rules.{FollowsRules, IsNumberedInPreorder, IsBroken, breaks_c0, breaks_limits, breaks_c1, breaks_c2, breaks_c3, breaks_c4, breaks_c5, breaks_c6, breaks_c7, leaves_over}
use Rattle.plist_write.proofs.Trees.{OccursAt-all}
use Rattle.plist_write.proofs.Sound.{IsSound, EachSound, EachSound-tree, EachSound-at, sound_from_Fits}
use Rattle.plist_write.proofs.Sizes.{total}
use Rattle.plist_write.proofs.Reading.{object_in-octets}
use Rattle.plist_write.proofs.Found.{octets-held}
use Rattle.plist_write.proofs.Binary.{number-fits, length-objects_of, objects-at, objects-some, some-objects, count-fits, table-fits, position-holds, trailer, tree-some, few, light, canon-spells, canon-laid}
use Rattle.plist_canon.proofs.KeptPositions.{EachOccurs-tree, EachOccurs-at, is_made}
use Rattle.plist_canon.proofs.PositionRules.{HasObjects, well_read, ascending, no_repeat, numbered}
use Rattle.plist_canon.proofs.FileRules.{plain_trailer, least_widths, adjoins, shortest}
use Rattle.std.specs.Prelude.{◌↔◌}
use Rattle.plist_canon.specs.Checking.{IsVerdict}
use Rattle.plist_canon.specs.declared.checking.Verdict.{Verdict}
use Rattle.plist_canon.specs.declared.checking.Verdict.TheVariants as verdict
use Rattle.plist_canon.specs.Locality.{IsCanonical, CanonicityIsLocal}
use Rattle.plist_canon.proofs.Forced.{tree_is_forced}
use Rattle.plist_canon.proofs.Filed.{file_is_canonical}

module _ (all : List Plist) (some : 1 ≤ length all) (small : length all ≤ 16777216) (each : EachSound all) where
  abbrev kept_at : ℕ → ℕ × Plist
  kept_at i = get_or (kept_positions all) i (0, list no_items)

  kept_sound : (i : ℕ) → i < length (kept_positions all) → IsSound (kept_at i).1
  kept_sound i h = let made = is_made all i h in subst (λ (p : ℕ × Plist). IsSound p.1) (sym made.entry_is) (EachSound-at all made.position made.below each)

  abbrev held_of : ℕ → Content
  held_of i = held_at (number_in all) (kept_at i).0 (kept_at i).1

  object_reads : (i : ℕ) (behind : List ℕ) → i < length (objects_of all) → object_in (least_width (length (objects_of all))) (get_or (objects_of all) i [] ++ behind) ≡ Ok (held_of i, behind)
  object_reads i behind h =
      let listed = length-objects_of all some small each in
      let below : i < length (kept_positions all) = omega arith in
      let width = least_width (length (kept_positions all)) in
      ap (λ (n : ℕ). object_in (least_width n) (get_or (objects_of all) i [] ++ behind)) listed ∙ ap (λ (xs : List ℕ). object_in width (xs ++ behind)) (objects-at all some small each i below) ∙ object_in-octets (number_in all) width (kept_at i).0 (kept_at i).1 behind (number-fits all some small each) (kept_sound i below)

  object_spelled : (i : ℕ) → i < length (objects_of all) → get_or (objects_of all) i [] ≡ spelling_of (least_width (length (objects_of all))) (held_of i)
  object_spelled i h =
      let listed = length-objects_of all some small each in
      let below : i < length (kept_positions all) = omega arith in
      let width = least_width (length (kept_positions all)) in
      objects-at all some small each i below ∙ sym (octets-held (number_in all) width (kept_at i).0 (kept_at i).1) ∙ ap (λ (n : ℕ). spelling_of (least_width n) (held_of i)) (sym listed)

  module _ (slight : 8 + total all < 18446744073709551616) (stands : (k : ℕ) → k < length all → OccursAt all k (preorder (value_at all k))) where
    has_objects : HasObjects (file_of (objects_of all)) all
    has_objects = record {
      counted = ap (λ (x : Trailer). x.count) (trailer all some small each slight) ∙ length-objects_of all some small each;
      reads = position-holds all some small each slight;
      stands = stands;
    }

    -- all rules hold if the values of object 0 are within the limits
    follows : ((w : Plist) → IsPlist w → Spells (file_of (objects_of all)) 0 w → Fits w) → IsNumberedInPreorder (file_of (objects_of all)) → FollowsRules (file_of (objects_of all))
    follows fits walk =
        let f = file_of (objects_of all) in
        let first = some-objects all some small each slight in
        let parts = objects-some all some small each in
        let counted = count-fits all some small each slight in
        let placed = table-fits all some small each slight in
        let reads = object_reads in
        let spells = object_spelled in
        let has = has_objects in
        record {
          reads_within_limits = record { read = well_read f all has; fits = fits };
          plain_trailer = plain_trailer (objects_of all) first parts counted placed;
          least_widths = least_widths (objects_of all) first parts counted placed;
          adjoins = adjoins (objects_of all) first parts counted placed held_of reads spells;
          spelled_canonically = λ i h _. shortest (objects_of all) first parts counted placed held_of reads spells i h;
          ascending_keys = ascending f all has (λ k h. let sound = EachSound-at all k h each in sound.valid);
          no_repeat = no_repeat f all has;
          numbered_in_preorder = walk;
        }

pub canonical_follows_rules : (v : Plist) → IsPlist v → Fits v → IsLaid (canon v) × FollowsRules (canon v)
unfolding canon
canonical_follows_rules v valid fits =
    let sound = sound_from_Fits v valid fits in
    let all = preorder v in
    let some = tree-some v in
    let each = EachSound-tree v sound in
    let small = few v sound in
    let slight = light v sound in
    let stands = λ (k : ℕ) (h : k < length all). EachOccurs-at all all 0 k k h (omega arith) (EachOccurs-tree all v 0 (OccursAt-all all)) in
    let has = has_objects all some small each slight stands in
    let top = ap (λ (x : Trailer). x.top) (trailer all some small each slight) in
    let spells : Spells (file_of (objects_of all)) 0 v = subst (λ (i : ℕ). Spells (file_of (objects_of all)) i v) top (canon-spells v sound) in
    let within : (w : Plist) → IsPlist w → Spells (file_of (objects_of all)) 0 w → Fits w = λ w w_valid w_spells. subst Fits (same_value (file_of (objects_of all)) 0 v w valid w_valid spells w_spells) fits in
    (canon-laid v sound, follows all some small each slight stands within (numbered (file_of (objects_of all)) v has))

-- The canonical files are those that have the layout and follow the eight rules.

-- the rules determine a value, whose canonical file is the file
rules-canonical : (f : List ℕ) → AreOctets f → IsLaid f → FollowsRules f → IsCanonical f
rules-canonical f octets laid rules =
    let tree = tree_is_forced f octets rules in
    record {
      value = tree.value;
      valid = tree.valid;
      fits = tree.fits;
      spelled = file_is_canonical f octets laid rules.plain_trailer rules.least_widths rules.adjoins rules.spelled_canonically tree.value tree.counted tree.reads;
    }

canonical-rules : (f : List ℕ) → IsCanonical f → IsLaid f × FollowsRules f
canonical-rules f x =
    subst (λ (octets : List ℕ). IsLaid octets × FollowsRules octets) x.spelled (canonical_follows_rules x.value x.valid x.fits)

pub canonicity-local : CanonicityIsLocal
canonicity-local f octets = (λ h. rules-canonical f octets h.0 h.1, canonical-rules f)

none-broken : (f : List ℕ) (rule object : ℕ) → IsBroken f rule object → FollowsRules f → ⊥
none-broken f _ _ (breaks_c0 i below fails) rules = fails (rules.reads_within_limits.read i below)
none-broken f _ _ (breaks_limits v valid spells fails) rules = fails (rules.reads_within_limits.fits v valid spells)
none-broken f _ _ (breaks_c1 fails) rules = fails rules.plain_trailer
none-broken f _ _ (breaks_c2 fails) rules = fails rules.least_widths
none-broken f _ _ (breaks_c3 i below fails) rules = fails (rules.adjoins i below)
none-broken f _ _ (breaks_c4 i below fails) rules = fails (rules.spelled_canonically i below)
none-broken f _ _ (breaks_c5 i below fails) rules = fails (rules.ascending_keys i below)
none-broken f _ _ (breaks_c6 i below fails) rules = fails (rules.no_repeat i below)
none-broken f _ _ (breaks_c7 holder fails turns) rules = fails rules.numbered_in_preorder
none-broken f _ _ (leaves_over fails left) rules = fails rules.numbered_in_preorder

-- the verdict on a file that has the layout is Canonical if and only if the file is canonical
pub verdict_decides : (f : List ℕ) → AreOctets f → IsLaid f → (answer : Verdict) → IsVerdict f answer → (answer ≡ verdict.Canonical) ↔ IsCanonical f
verdict_decides f octets laid verdict.Canonical rules = (λ _. rules-canonical f octets laid rules, λ _. refl)
verdict_decides f octets laid (verdict.Broken rule object) broken =
    (λ e. absurd (cc), λ x. absurd (none-broken f rule object broken (canonical-rules f x).1))
