use Rattle.std.proofs.Common.{◌≡◌, ℕ, ◌+◌, List, [], ◌++◌, length, rules, refl, ap, ◌∙◌, arith}
use Rattle.std.proofs.lemmas.Result.{err_from_is_err_and}
use Rattle.plist_object.specs.Spelling.{least_width, references}
use Rattle.plist_write.specs.Canonical.{trailer_octets}
use Rattle.plist_write.specs.BufferedSink.{end_of, sink_state}
use Rattle.plist_write.proofs.Going.{Emits_rest, room_then, short_then, short_stop}
use Rattle.plist_write.proofs.file_end.send_end.Goals as goal

-- the end of the file, with the names of the code for its parts
end-is : (offsets : List ℕ) (width offset sent held waits : ℕ) → width ≡ least_width offset → offset ≡ sent + held → held ≡ waits → references width offsets ++ trailer_octets (length offsets) offset ≡ end_of offsets (sent + waits)
end-is offsets width offset sent held waits is_width is_place is_held =
    ap (λ w. references w offsets ++ trailer_octets (length offsets) offset) is_width ∙ ap (end_of offsets) (is_place ∙ ap (λ n. sent + n) is_held)

pub returns-in_err-send_offsets-clause-pieces : goal.returns-in_err-send_offsets-clause-pieces
returns-in_err-send_offsets-clause-pieces g c =
    let e = err_from_is_err_and c.from_residual.result c.from_residual.ensures.1 in
    let q = sink_state g.W.Sink c.send_offsets.new.out in
    rw (e.1, e.2) (short_stop [] 0 0 (sink_state g.W.Sink c.args.out.now) q q _ _ (omega arith) refl c.in_err-send_offsets.ensures.pieces)

pub send_trailer-requires : goal.send_trailer-requires
send_trailer-requires g c =
    let offsets = c.args.offsets.now in
    let out = c.args.out.now in
    let held : c.len.result ≡ length out.waiting.now.items = search rules in
    let offset = out.sent + c.len.result in
    let whole = ap length (end-is offsets c.width_of.result offset out.sent c.len.result (length out.waiting.now.items) c.width_of.ensures.value refl held) in
    room_then (references c.width_of.result offsets) (trailer_octets (length offsets) offset) (sink_state g.W.Sink out) (sink_state g.W.Sink c.send_offsets.new.out) _ _ c.in_ok-send_offsets.ensures.emits (omega (arith, whole, c.requires.room))

pub returns-clause-emits : goal.returns-clause-emits
returns-clause-emits g c =
    let offsets = c.args.offsets.now in
    let out = c.args.out.now in
    let held : c.len.result ≡ length out.waiting.now.items = search rules in
    let offset = out.sent + c.len.result in
    let whole = end-is offsets c.width_of.result offset out.sent c.len.result (length out.waiting.now.items) c.width_of.ensures.value refl held in
    Emits_rest (references c.width_of.result offsets) (trailer_octets (length offsets) offset) _ (sink_state g.W.Sink out) (sink_state g.W.Sink c.send_offsets.new.out) (sink_state g.W.Sink c.send_trailer.new.out) _ c.send_trailer.result whole c.in_ok-send_offsets.ensures.emits c.send_trailer.ensures.emits

pub returns-clause-pieces : goal.returns-clause-pieces
returns-clause-pieces g c =
    short_then [] 0 (sink_state g.W.Sink c.args.out.now) (sink_state g.W.Sink c.send_offsets.new.out) (sink_state g.W.Sink c.send_trailer.new.out) _ c.send_trailer.result c.in_ok-send_offsets.ensures.pieces c.send_trailer.ensures.pieces
