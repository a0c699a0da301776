-- The objects that the walk plans are those of the canonical file, and can be sent.
use Rattle.std.proofs.Common.{◌≡◌, ℕ, ◌^◌, ◌<◌, ◌≤◌, List, length, sym, ap, ◌∙◌, arith}
use Rattle.std.proofs.lemmas.List.{length-map}
use Rattle.plist_value.specs.Plist.{Plist}
use Rattle.plist_object.specs.Spelled.{IsBinary}
use Rattle.plist_object.specs.Spelling.{least_width}
use Rattle.plist_write.specs.Tree.{preorder}
use Rattle.plist_write.specs.Sharing.{first_position, kept_positions, value_at}
use Rattle.plist_write.specs.Canonical.{file_of, objects_of, canon}
use Rattle.plist_write.specs.Found.{number_in, found_in}
use Rattle.plist_write.proofs.Binary.{canon-length}
use Rattle.plist_write.proofs.Found.{spellable_all, octets-all}
use Rattle.plist_write.proofs.Reading.{count_below-le}
use Rattle.plist_write.proofs.Sizes.{length-kept}
use Rattle.plist_write.proofs.Sound.{EachSound-tree, sound_from_Fits}
use Rattle.plist_write.proofs.Trees.{length-preorder}
use Rattle.plist_write.proofs.Widths.{least_width-holds}
use Rattle.plist_write.specs.declared.plan.CanonicalObjects.{CanonicalObjects}
use Rattle.plist_write.specs.Plan.{AreObjectsOf}
use Rattle.plist_write.specs.Renumbering.{helds_of, planned, CanSend}
use Rattle.plist_write.proofs.Renumbered.{helds-are, sound-are, length-helds}

module _ (f : List ℕ) (v : Plist) (binary : IsBinary f v) (objects : CanonicalObjects) (found : AreObjectsOf f v objects) where
  helds : helds_of f objects.originals.items objects.references.items ≡ found_in (preorder v) 0 (preorder v)
  helds = helds-are f objects.originals.items objects.references.items (found_in (preorder v) 0 (preorder v)) found.stand_for

  long : length objects.originals.items ≡ length (kept_positions (preorder v))
  long = sym (length-helds f objects.originals.items objects.references.items) ∙ ap length helds ∙ length-map (kept_positions (preorder v)) _

  few : length (kept_positions (preorder v)) ≤ 16777216
  few = let most = length-kept (preorder v) 0 (preorder v) in let size = length-preorder v in let n = binary.fits.nodes_fit in omega arith

  below : (k : ℕ) → number_in (preorder v) k < 256 ^ least_width (length (kept_positions (preorder v)))
  below k =
      let all = preorder v in
      let holds = least_width-holds (length (kept_positions all)) (omega (arith, few)) in
      omega (arith, count_below-le (first_position all k (value_at all k)) (kept_positions all), few)

  pub are-objects : planned f objects ≡ objects_of (preorder v)
  are-objects =
      rw (long, helds) (octets-all (number_in (preorder v)) (least_width (length (kept_positions (preorder v)))) (kept_positions (preorder v)))

  pub is-canon : file_of (planned f objects) ≡ canon v
  unfolding canon
  is-canon = ap file_of are-objects

  pub can-send : CanSend f objects
  can-send =
      let all = preorder v in
      let sound = EachSound-tree v (sound_from_Fits v binary.valid binary.fits) in
      record {
        few = omega (arith, long, few);
        sound = sound-are f objects.originals.items objects.references.items (found_in all 0 all) found.stand_for;
        spellable = rw (long, helds) (spellable_all all (number_in all) (least_width (length (kept_positions all))) below 0 all sound);
        short = omega (arith, long, few, canon-length v binary.valid binary.fits, binary.fits.nodes_fit, binary.fits.payload_fits, ap length is-canon);
      }
