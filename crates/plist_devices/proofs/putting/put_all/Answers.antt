use Rattle.std.proofs.Common.{◌≡◌, ◌-◌, length, take, drop, ◌∙◌, arith}
use Rattle.std.proofs.Math.Seq.{take-add}
use Rattle.std.proofs.KnownBytes.{Appends-trans}
use Rattle.std.proofs.lemmas.List.{length-drop, take_all}
use Rattle.plist_devices.proofs.putting.put_all.Goals as goal

pub loop-taken-preserved : goal.loop-taken-preserved
loop-taken-preserved g c =
    let octets = c.args.octets.now in
    let taken = c.loop-taken.taken in
    let left : length (drop taken octets) ≡ length octets - taken = length-drop taken octets in
    let whole : take (length octets - taken) (drop taken octets) ≡ drop taken octets = take_all (length octets - taken) (drop taken octets) (omega arith) in
    let put = rw whole at c.in-Ok.ensures.put in
    let bound = put.within in
    let given = rw whole at c.in-Ok.ensures.longest in
    record {
      within = omega arith;
      took = rw take-add (Appends-trans _ _ _ _ _ c.loop-taken.invariant.took put.octets);
      kept = put.count.1 ∙ c.loop-taken.invariant.kept;
      same = c.in-Ok.ensures.same ∙ c.loop-taken.invariant.same;
      longest = λ most before fits. given most (c.loop-taken.invariant.longest most before fits) (omega (arith, left, fits));
    }
