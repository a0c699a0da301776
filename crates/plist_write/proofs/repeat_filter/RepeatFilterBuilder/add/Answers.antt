use Rattle.std.proofs.Common.{◌≡◌, ◌∷◌, [], ◌++◌, refl, ◌∙◌}
use Rattle.plist_value.specs.Scalars.{content_of}
use Rattle.plist_write.specs.RepeatFilter.{HoldsIt}
use Rattle.plist_write.specs.declared.repeat_filter.RepeatFilterBuilder.{RepeatFilterBuilder}
use Rattle.plist_write.proofs.Added.{added-none, added-scalar, not-held}
use Rattle.plist_write.proofs.repeat_filter.RepeatFilterBuilder.add.Goals as goal
use Rattle.plist_write.proofs.repeat_filter.RepeatFilterBuilder.add.Goals.{in-Scalar, in_default}

pub returns-clause-added : goal.returns-clause-added
returns-clause-added c = λ f i holds added.
    let old = c.args.self.now in
    let new : RepeatFilterBuilder = record { bits = c.push.new.self; mask = old.mask; seed = old.seed } in
    let bit = c.match-object.bit in
    let pushed : new.bits.items ≡ old.bits.items ++ (bit ∷ []) = c.in_ok-push.ensures.items in
    elim c.match-object.branch [
      | in-Scalar w ↦ (
          let s = content_of w.in-Scalar.scalar in
          let reads : HoldsIt f i s = rw w.in-Scalar.is at holds.reads in
          added-scalar f i bit old new added pushed refl refl w.in-Scalar.scalar reads (w.bit-is ∙ w.bit_of-bit.ensures)
          )
      | in_default w ↦ added-none f i bit old new added pushed refl refl w.bit-is (λ s reads. not-held f i c.args.object.now w.in_default.not-Scalar holds s reads)
    ]
