use Rattle.std.proofs.Common.{◌≡◌, ℕ, ◌<◌, ◌≤◌, List, [], ◌∷◌, ◌++◌, eqb, drop, length, sym, ap, ◌∙◌, arith, length-append, length-drop}
use Rattle.std.specs.Prelude.{flat_map}
use Rattle.std.specs.Int.{is_in_range}
use Rattle.std.proofs.lemmas.Bool.{cond_both}
use Rattle.std.proofs.lemmas.List.{append-nil, drop_all}
use Rattle.plist_value.specs.Texts.{units_of}
use Rattle.plist_write.specs.BufferedSink.{sink_state}
use Rattle.plist_write.proofs.Going.{Emits_same}
use Rattle.plist_write.proofs.Steps.{piece-split, piece-settled, piece-stops, no_piece, refused}
use Rattle.plist_value.specs.Escapes.{quoted_unit}
use Rattle.ostep_write.proofs.strings.write_units.Goals as goal

-- each unit is written in some bytes
unit-some : (unit : ℕ) → 0 < length (quoted_unit unit)
unit-some unit =
    cond_both (eqb unit 34) _ _ (λ os. 0 < length os) (λ _. omega arith) (λ _.
    cond_both (eqb unit 92) _ _ (λ os. 0 < length os) (λ _. omega arith) (λ _.
    cond_both (eqb unit 10) _ _ (λ os. 0 < length os) (λ _. omega arith) (λ _.
    cond_both (eqb unit 9) _ _ (λ os. 0 < length os) (λ _. omega arith) (λ _.
    cond_both (eqb unit 13) _ _ (λ os. 0 < length os) (λ _. omega arith) (λ _.
    cond_both (is_in_range 0x20 0x7e unit) _ _ (λ os. 0 < length os) (λ _. omega arith) (λ _. omega arith))))))

units-some : (us : List ℕ) → 0 < length us → 0 < length (flat_map quoted_unit us)
units-some [] some = absurd (omega arith)
units-some (u ∷ us) some = omega (arith, unit-some u, length-append (quoted_unit u) (flat_map quoted_unit us))

pub returns-in_err-next : goal.returns-in_err-next
returns-in_err-next g c =
    let us = units_of c.args.text.now in
    let l = c.loop-index in
    let left : 0 < length (drop l.index us) = omega (arith, c.loop-index-test.true, length-drop l.index us) in
    let some = units-some (drop l.index us) left in
    record { emits = refused c.from_residual.result c.from_residual.ensures.1 (rw (c.in_err-next.ensures.refused.1) (no_piece l.invariant.done (flat_map quoted_unit (drop l.index us)) (flat_map quoted_unit us) c.put_some-put.new.out.items (sink_state g.W.Sink c.args.out.now) (sink_state g.W.Sink l.out) (omega (arith, some)) l.invariant.split l.invariant.emits)) }

pub returns-in_err-flush_if_full : goal.returns-in_err-flush_if_full
returns-in_err-flush_if_full g c =
    let us = units_of c.args.text.now in
    let l = c.loop-index in
    record { emits = refused c.from_residual-in_err-flush_if_full.result c.from_residual-in_err-flush_if_full.ensures.1 (piece-stops l.invariant.done (flat_map quoted_unit (drop l.index us)) (flat_map quoted_unit (drop c.in_ok-next.next us)) (flat_map quoted_unit us) c.put_some-put.new.out.items (sink_state g.W.Sink c.args.out.now) (sink_state g.W.Sink l.out) l.invariant.split l.invariant.emits (rw c.in_ok-next.ensures.value at c.put_some-put.ensures.octets) (sink_state g.W.Sink c.flush_if_full.new.self) _ c.in_err-flush_if_full.ensures.emits) }

pub loop-index-preserved : goal.loop-index-preserved
loop-index-preserved g c =
    let us = units_of c.args.text.now in
    let l = c.loop-index in
    let p = sink_state g.W.Sink c.args.out.now in
    let q = sink_state g.W.Sink l.out in
    let puts = (rw c.in_ok-next.ensures.value at c.put_some-put.ensures.octets) in
    record {
      within = rw c.in_ok-next.ensures.value at c.put_some-put.ensures.within;
      done = l.invariant.done ++ puts.piece;
      split = piece-split l.invariant.done (flat_map quoted_unit (drop l.index us)) (flat_map quoted_unit (drop c.in_ok-next.next us)) (flat_map quoted_unit us) c.put_some-put.new.out.items p q l.invariant.split l.invariant.emits puts;
      emits = piece-settled l.invariant.done (flat_map quoted_unit (drop l.index us)) (flat_map quoted_unit (drop c.in_ok-next.next us)) (flat_map quoted_unit us) c.put_some-put.new.out.items p q l.invariant.split l.invariant.emits puts (sink_state g.W.Sink c.flush_if_full.new.self) _ c.in_ok-flush_if_full.ensures.emits;
    }

pub returns : goal.returns
returns g c =
    let us = units_of c.args.text.now in
    let l = c.loop-index in
    let past : length us ≤ l.index = omega (arith, c.loop-index-test.false) in
    let none : flat_map quoted_unit (drop l.index us) ≡ [] = ap (flat_map quoted_unit) (drop_all l.index us past) in
    let whole : l.invariant.done ≡ flat_map quoted_unit us = sym (append-nil l.invariant.done) ∙ ap (λ os. l.invariant.done ++ os) (sym none) ∙ l.invariant.split in
    record { emits = Emits_same l.invariant.done (flat_map quoted_unit us) (sink_state g.W.Sink c.args.out.now) (sink_state g.W.Sink l.out) _ whole l.invariant.emits }
