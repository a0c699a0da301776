use Rattle.std.proofs.Common.{◌≡◌, ℕ, ◌+◌, ◌≤◌, List, length, rules, sym, ap, subst, ◌∙◌, arith, length-append}
use Rattle.std.specs.Prelude.{All}
use Rattle.std.specs.List.{concat}
use Rattle.std.proofs.lemmas.Result.{err_from_is_err_and}
use Rattle.plist_object.specs.Spelling.{least_width, references}
use Rattle.plist_object.specs.Views.{octets_of}
use Rattle.plist_object.specs.Files.{starts}
use Rattle.plist_write.specs.Canonical.{trailer_octets}
use Rattle.plist_write.specs.BufferedSink.{PiecesWithin, end_of, sink_state}
use Rattle.plist_write.specs.Pieces.{CanSpellAll}
use Rattle.plist_write.specs.Renumbering.{helds_of, octets_planned, planned}
use Rattle.plist_write.specs.Sending.{Allows}
use Rattle.plist_write.proofs.FileSteps.{file-length, file-stops, file-ends, file-written, offset-is, ending-is, starts-before}
use Rattle.plist_write.proofs.Going.{allows_none}
use Rattle.plist_write.proofs.sending.send_planned.Given as given
use Rattle.plist_write.proofs.sending.send_planned.Goals as goal
use Rattle.plist_write.proofs.sending.send_planned.Goals.{After-width_of-width, In_ok-offsets, After-deref}

-- the width of the code is the least
width : (g : given.Over) (c : After-width_of-width g) → c.width_of-width.result ≡ least_width (length c.args.objects.originals.items)
width g c =
    let count : c.len.result ≡ length c.args.objects.originals.items = search rules in
    c.width_of-width.ensures.value ∙ ap least_width count

-- the objects, with the name of the code for their width
same_planned : (g : given.Over) (c : After-width_of-width g) → octets_planned c.width_of-width.result (octets_of c.args.input.now.file) c.args.objects ≡ planned (octets_of c.args.input.now.file) c.args.objects
same_planned g c = ap (λ w. octets_planned w (octets_of c.args.input.now.file) c.args.objects) (width g c)

end-length : (objects : List (List ℕ)) → length (end_of (starts 8 objects) (8 + length (concat objects))) ≡ length (references (least_width (8 + length (concat objects))) (starts 8 objects)) + 32
end-length objects =
    length-append (references (least_width (8 + length (concat objects))) (starts 8 objects)) (trailer_octets (length (starts 8 objects)) (8 + length (concat objects)))

pub send_objects-requires-clause-spellable : goal.send_objects-requires-clause-spellable
send_objects-requires-clause-spellable g c =
    let is = width g (goal.at.send_objects-requires-clause-spellable g c).After-width_of-width in
    subst (λ (w : ℕ). CanSpellAll w (helds_of (octets_of c.args.input.now.file) c.args.objects.originals.items c.args.objects.references.items)) (sym is) c.requires.can.spellable

pub send_objects-requires-clause-waits : goal.send_objects-requires-clause-waits
send_objects-requires-clause-waits g c = let begun = ap length c.requires.begun in omega (arith, begun)

pub send_objects-requires-clause-room : goal.send_objects-requires-clause-room
send_objects-requires-clause-room g c =
    let is = ap (λ os. length (concat os)) (same_planned g (goal.at.send_objects-requires-clause-room g c).After-width_of-width) in
    let size = file-length (planned (octets_of c.args.input.now.file) c.args.objects) in
    let begun = ap length c.requires.begun in
    omega (arith, is, size, begun, c.requires.can.short, c.requires.first)

pub returns-in_err-offsets-clause-written : goal.returns-in_err-offsets-clause-written
returns-in_err-offsets-clause-written g c =
    let e = err_from_is_err_and c.from_residual.result c.from_residual.ensures.1 in
    let is = same_planned g (goal.at.returns-in_err-offsets-clause-written g c).After-width_of-width in
    rw (e.1, e.2, sym is) (file-stops (octets_planned c.width_of-width.result (octets_of c.args.input.now.file) c.args.objects) (sink_state g.W.Sink c.args.out.now) c.requires.begun c.requires.first (sink_state g.W.Sink c.send_objects.new.out) _ c.in_err-offsets.ensures.emits)

pub returns-in_err-offsets-clause-pieces : goal.returns-in_err-offsets-clause-pieces
returns-in_err-offsets-clause-pieces g c = λ most allows before.
    let begun = ap length c.requires.begun in
    let allowed = rw (sym (width g (goal.at.returns-in_err-offsets-clause-pieces g c).After-width_of-width)) at allows in
    (c.in_err-offsets.ensures.pieces most allowed (omega arith) (record { waits = omega (arith, begun, allows.least); pieces = before })).pieces

-- the end is written after the objects, at the offsets that were returned
module _ (g : given.Over) (c : After-deref g) where
  abbrev objects : List (List ℕ)
  objects = octets_planned c.width_of-width.result (octets_of c.args.input.now.file) c.args.objects

  are : c.deref.result.now ≡ starts 8 objects
  are = c.deref.ensures.value ∙ c.in_ok-offsets.ensures.offsets

  offset : (sink_state g.W.Sink c.send_objects.new.out).sent + length (sink_state g.W.Sink c.send_objects.new.out).waiting ≡ 8 + length (concat objects)
  offset = offset-is objects (sink_state g.W.Sink c.args.out.now) c.requires.begun c.requires.first (sink_state g.W.Sink c.send_objects.new.out) c.deref.result.now _ are c.in_ok-offsets.ensures.emits

pub send_end-requires-clause-before : goal.send_end-requires-clause-before
send_end-requires-clause-before g c =
    let at = (goal.at.send_end-requires-clause-before g c).After-deref in
    let q = sink_state g.W.Sink c.send_objects.new.out in
    subst (λ (ps : List ℕ). All (λ p. p ≤ q.sent + length q.waiting) ps) (sym (are g at)) (starts-before (q.sent + length q.waiting) 8 (objects g at) (omega (arith, offset g at)))

pub send_end-requires-clause-room : goal.send_end-requires-clause-room
send_end-requires-clause-room g c =
    let at = (goal.at.send_end-requires-clause-room g c).After-deref in
    let ends = ap length (ending-is (objects g at) (sink_state g.W.Sink c.args.out.now) c.requires.begun c.requires.first (sink_state g.W.Sink c.send_objects.new.out) c.deref.result.now _ (are g at) c.in_ok-offsets.ensures.emits) in
    let short = rw (sym (same_planned g (goal.at.send_end-requires-clause-room g c).After-width_of-width)) at c.requires.can.short in
    omega (arith, offset g at, ends, end-length (objects g at), file-length (objects g at), short)

pub returns-in_err-send_end-clause-written : goal.returns-in_err-send_end-clause-written
returns-in_err-send_end-clause-written g c =
    let e = err_from_is_err_and c.from_residual-in_err-send_end.result c.from_residual-in_err-send_end.ensures.1 in
    let at = (goal.at.returns-in_err-send_end-clause-written g c).After-deref in
    let is = same_planned g (goal.at.returns-in_err-send_end-clause-written g c).After-width_of-width in
    rw (e.1, e.2, sym is) (file-ends (objects g at) (sink_state g.W.Sink c.args.out.now) c.requires.begun c.requires.first (sink_state g.W.Sink c.send_objects.new.out) c.deref.result.now _ (are g at) c.in_ok-offsets.ensures.emits (sink_state g.W.Sink c.send_end.new.out) _ c.in_err-send_end.ensures.emits)

pub returns-clause-written : goal.returns-clause-written
returns-clause-written g c =
    let at = (goal.at.returns-clause-written g c).After-deref in
    let is = same_planned g (goal.at.returns-clause-written g c).After-width_of-width in
    rw (sym is) (file-written (objects g at) (sink_state g.W.Sink c.args.out.now) c.requires.begun c.requires.first (sink_state g.W.Sink c.send_objects.new.out) c.deref.result.now _ (are g at) c.in_ok-offsets.ensures.emits (sink_state g.W.Sink c.send_end.new.out) _ c.in_ok-send_end.ensures.none c.in_ok-send_end.ensures.emits)

-- no piece was too long when the objects were sent
kept : (g : given.Over) (c : In_ok-offsets g) (most : ℕ) → Allows most (octets_planned c.width_of-width.result (octets_of c.args.input.now.file) c.args.objects) → (sink_state g.W.Sink c.args.out.now).longest ≤ most → PiecesWithin most (sink_state g.W.Sink c.send_objects.new.out)
kept g c most allows before =
    let begun = ap length c.requires.begun in
    let sent = c.in_ok-offsets.ensures.pieces most allows (omega arith) (record { waits = omega (arith, begun, allows.least); pieces = before }) in
    record { waits = omega (arith, sent.waits); pieces = sent.pieces }

pub returns-in_err-send_end-clause-pieces : goal.returns-in_err-send_end-clause-pieces
returns-in_err-send_end-clause-pieces g c = λ most allows before.
    let allowed = rw (sym (width g (goal.at.returns-in_err-send_end-clause-pieces g c).After-width_of-width)) at allows in
    (c.in_err-send_end.ensures.pieces most (allows_none most _ allows) (omega arith) (kept g (goal.at.returns-in_err-send_end-clause-pieces g c).In_ok-offsets most allowed before)).pieces

pub returns-clause-pieces : goal.returns-clause-pieces
returns-clause-pieces g c = λ most allows before.
    let allowed = rw (sym (width g (goal.at.returns-clause-pieces g c).After-width_of-width)) at allows in
    (c.in_ok-send_end.ensures.pieces most (allows_none most _ allows) (omega arith) (kept g (goal.at.returns-clause-pieces g c).In_ok-offsets most allowed before)).pieces
