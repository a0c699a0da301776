use Rattle.std.proofs.Common.{[], take, refl, sym, ap, ◌∙◌, arith}
use Rattle.plist_value.specs.Texts.{units_of}
use Rattle.plist_print.specs.Shown.{is_verbatim}
use Rattle.plist_print.proofs.Plain.{run-grows}
use Rattle.plist_print.proofs.strings.put_run.Goals as goal

pub loop-filled-init : goal.loop-filled-init
loop-filled-init c =
    let us = units_of c.args.text.now in
    let encoded = c.encode_unit-filled in
    record {
      further = omega arith;
      within = omega (arith, c.requires.within);
      room = omega (arith, encoded.ensures.within);
      split = run-grows us c.args.index c.args.index [] _ c.requires.within c.requires.verbatim (rw c.unit.ensures at encoded.ensures.octets) refl;
    }

pub loop-filled-preserved : goal.loop-filled-preserved
loop-filled-preserved c =
    let us = units_of c.args.text.now in
    let l = c.loop-filled in
    let encoded = c.encode_unit-filled-in-loop-filled in
    let verbatim = ap is_verbatim (sym c.unit-unit.ensures) ∙ sym c.is_verbatim.ensures ∙ c.if-not-is_verbatim.false in
    record {
      further = omega (arith, l.invariant.further);
      within = omega (arith, c.if-next-length.true, c.len-length.ensures);
      room = omega (arith, encoded.ensures.within, c.loop-filled-test.true);
      split = run-grows us c.args.index l.next (take l.filled l.run) _ (omega (arith, c.if-next-length.true, c.len-length.ensures)) verbatim (rw c.unit-unit.ensures at encoded.ensures.octets) l.invariant.split;
    }
