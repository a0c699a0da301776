use Rattle.std.proofs.Common.{◌≡◌, ℕ, ◌≤◌, Ok, List, [], ◌∷◌, ◌++◌, drop, length, refl, sym, ap, ◌∙◌, append_assoc, arith}
use Rattle.std.proofs.lemmas.List.{append-nil, drop_all}
use Rattle.std.proofs.lemmas.Result.{err_from_is_err_and}
use Rattle.plist_value.specs.Texts.{units_of}
use Rattle.plist_write.specs.BufferedSink.{SinkState, Emits, sink_state}
use Rattle.plist_write.proofs.Going.{Emits_stop, Emits_same}
use Rattle.plist_print.specs.Units.{printed_units, printed_text}
use Rattle.plist_write.proofs.Steps.{piece-split, piece-settled, piece-stops, no_piece, ended-some, refused, brackets_unopened, brackets_unfilled, brackets_closed}
use Rattle.plist_print.proofs.lines.print_text.Goals as goal

whole : (us behind : List ℕ) → (34 ∷ printed_units us) ++ (34 ∷ behind) ≡ printed_text us ++ behind
whole us behind = sym (append_assoc (34 ∷ printed_units us) (34 ∷ []) behind)

-- after the last unit all units were written
all-written : (us done : List ℕ) (index : ℕ) (p q : SinkState) → length us ≤ index → done ++ printed_units (drop index us) ≡ 34 ∷ printed_units us → Emits {T = Unit {0}} done p q (Ok tt) → Emits {T = Unit {0}} (34 ∷ printed_units us) p q (Ok tt)
all-written us done index p q past split emits =
    let none : printed_units (drop index us) ≡ [] = ap printed_units (drop_all index us past) in
    Emits_same done (34 ∷ printed_units us) p q _ (sym (append-nil done) ∙ ap (λ os. done ++ os) (sym none) ∙ split) emits

pub returns-in_err-put : goal.returns-in_err-put
returns-in_err-put g c =
    let us = units_of c.args.text.now in
    record { emits = refused c.from_residual.result c.from_residual.ensures.1 (Emits_stop (34 ∷ []) ((printed_units us ++ (34 ∷ [])) ++ c.args.after.now) (sink_state g.W.Sink c.args.out.now) _ _ c.in_err-put.ensures.emits) }

pub loop-index-init : goal.loop-index-init
loop-index-init g c = record { within = omega arith; done = 34 ∷ []; split = refl; emits = c.in_ok-put.ensures.emits }

pub returns-in_err-next : goal.returns-in_err-next
returns-in_err-next g c =
    let e = err_from_is_err_and c.from_residual-in_err-next.result c.from_residual-in_err-next.ensures.1 in
    let us = units_of c.args.text.now in
    let l = c.loop-index in
    let left = printed_units (drop l.index us) in
    let behind = c.args.after.now in
    rw (e.1, e.2, c.in_err-next.ensures.refused.1) (record { emits = no_piece l.invariant.done (left ++ (34 ∷ behind)) (printed_text us ++ behind) c.put_some-put.new.out.items (sink_state g.W.Sink c.args.out.now) (sink_state g.W.Sink l.out) (omega (arith, ended-some left 34 behind)) (sym (append_assoc l.invariant.done left (34 ∷ behind)) ∙ ap (λ os. os ++ (34 ∷ behind)) l.invariant.split ∙ whole us behind) l.invariant.emits })

pub returns-in_err-flush_if_full : goal.returns-in_err-flush_if_full
returns-in_err-flush_if_full g c =
    let us = units_of c.args.text.now in
    let l = c.loop-index in
    let p = sink_state g.W.Sink c.args.out.now in
    let q = sink_state g.W.Sink l.out in
    let r = sink_state g.W.Sink c.flush_if_full.new.self in
    record { emits = refused c.from_residual-in_err-flush_if_full.result c.from_residual-in_err-flush_if_full.ensures.1 (brackets_unopened (34 ∷ printed_units us) (34 ∷ []) c.args.after.now (printed_text us ++ c.args.after.now) (whole us c.args.after.now) {T = Unit {0}} p r _ (piece-stops l.invariant.done (printed_units (drop l.index us)) (printed_units (drop c.in_ok-next.next us)) (34 ∷ printed_units us) c.put_some-put.new.out.items p q l.invariant.split l.invariant.emits (rw c.in_ok-next.ensures.value at c.put_some-put.ensures.octets) r _ c.in_err-flush_if_full.ensures.emits)) }

pub loop-index-preserved : goal.loop-index-preserved
loop-index-preserved g c =
    let us = units_of c.args.text.now in
    let l = c.loop-index in
    let p = sink_state g.W.Sink c.args.out.now in
    let q = sink_state g.W.Sink l.out in
    let puts = (rw c.in_ok-next.ensures.value at c.put_some-put.ensures.octets) in
    record {
      within = rw c.in_ok-next.ensures.value at c.put_some-put.ensures.within;
      done = l.invariant.done ++ puts.piece;
      split = piece-split l.invariant.done (printed_units (drop l.index us)) (printed_units (drop c.in_ok-next.next us)) (34 ∷ printed_units us) c.put_some-put.new.out.items p q l.invariant.split l.invariant.emits puts;
      emits = piece-settled l.invariant.done (printed_units (drop l.index us)) (printed_units (drop c.in_ok-next.next us)) (34 ∷ printed_units us) c.put_some-put.new.out.items p q l.invariant.split l.invariant.emits puts (sink_state g.W.Sink c.flush_if_full.new.self) _ c.in_ok-flush_if_full.ensures.emits;
    }

pub returns-in_err-put-2 : goal.returns-in_err-put-2
returns-in_err-put-2 g c =
    let us = units_of c.args.text.now in
    let l = c.loop-index in
    let p = sink_state g.W.Sink c.args.out.now in
    let q = sink_state g.W.Sink l.out in
    let units = all-written us l.invariant.done l.index p q (omega (arith, c.loop-index-test.false)) l.invariant.split l.invariant.emits in
    record { emits = refused c.from_residual-in_err-put-2.result c.from_residual-in_err-put-2.ensures.1 (brackets_unfilled (34 ∷ printed_units us) (34 ∷ []) c.args.after.now (printed_text us ++ c.args.after.now) (whole us c.args.after.now) p q (sink_state g.W.Sink c.put-2.new.self) tt _ units c.in_err-put-2.ensures.emits) }

pub returns : goal.returns
returns g c =
    let us = units_of c.args.text.now in
    let l = c.loop-index in
    let p = sink_state g.W.Sink c.args.out.now in
    let q = sink_state g.W.Sink l.out in
    let units = all-written us l.invariant.done l.index p q (omega (arith, c.loop-index-test.false)) l.invariant.split l.invariant.emits in
    record { emits = brackets_closed (34 ∷ printed_units us) (34 ∷ []) c.args.after.now (printed_text us ++ c.args.after.now) (whole us c.args.after.now) p q (sink_state g.W.Sink c.put-2.new.self) (sink_state g.W.Sink c.put-3.new.self) tt _ c.put-3.result units c.in_ok-put-2.ensures.emits c.put-3.ensures.emits }
