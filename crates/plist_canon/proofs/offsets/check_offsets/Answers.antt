use Rattle.std.proofs.Common.{ℕ, refl, sym, subst, add-one, arith}
use Rattle.plist_object.specs.Views.{octets_of}
use Rattle.plist_keys.proofs.KeysInTurn.{below_or_last}
use Rattle.plist_canon.specs.Checking.{Follows, IsEndBefore}
use Rattle.plist_canon.proofs.offsets.check_offsets.Goals as goal

pub loop-i-init : goal.loop-i-init
loop-i-init c = record { ends = refl; follow = λ j below. absurd (omega (arith, below)) }

pub loop-i-preserved : goal.loop-i-preserved
loop-i-preserved c =
    let f = octets_of c.args.file.now in
    let i = c.loop-i.i in
    let span = c.in_ok-end.ensures.ok in
    record {
      ends = subst (λ (n : ℕ). IsEndBefore f n c.in_ok-end.end) (sym (add-one i)) (c.loop-i.end, span);
      follow = below_or_last (Follows f) i c.loop-i.invariant.follow (record { offset = c.loop-i.end; end = c.in_ok-end.end; before = c.loop-i.invariant.ends; span = span });
    }
