use Rattle.std.proofs.Common.{◌≡◌, ℕ, sym, subst}
use Rattle.plist_value.specs.Plist.{Plist}
use Rattle.plist_object.specs.Views.{octets_of}
use Rattle.plist_object.specs.Spelled.{Spells}
use Rattle.plist_object.proofs.Uniqueness.{same_value}
use Rattle.plist_write.specs.Plan.{WalksTree}
use Rattle.plist_write.proofs.Walking.{Walks-whole}
use Rattle.plist_write.proofs.walk.objects_of.Goals as goal

pub walk-requires-clause-spells : goal.walk-requires-clause-spells
walk-requires-clause-spells g c =
    let binary = c.requires.binary.1 in
    record {
      value = c.requires.binary.0;
      valid = binary.valid;
      spells = subst (λ (i : ℕ). Spells (octets_of c.args.input.now.file) i c.requires.binary.0) (sym c.top.ensures.value) binary.spells;
      deep = binary.fits.depth_fits;
    }

pub returns : goal.returns
returns g c = λ v binary.
    let f = octets_of c.args.input.now.file in
    let walked = c.in_ok-walk.ensures.walked in
    let top = c.top.result in
    let spells = subst (λ (i : ℕ). Spells f i v) (sym c.top.ensures.value) binary.spells in
    let same : walked.value ≡ v = same_value f top walked.value v walked.valid binary.valid walked.spells spells in
    let walks = subst (λ (u : Plist). WalksTree f 0 u c.in_ok-plan.plan c.walk.new.plan c.in_ok-walk.field-0) same walked.walks in
    record {
      stand_for = rw (c.into_objects.ensures.originals, c.into_objects.ensures.references) (Walks-whole f v c.in_ok-plan.plan c.walk.new.plan c.in_ok-walk.field-0 c.in_ok-plan.ensures.empty walks);
    }

pub walk-requires-clause-knows : goal.walk-requires-clause-knows
walk-requires-clause-knows g c = record { scalars = c.in_ok-plan.ensures.knows; ready = c.requires.ready }
