use Rattle.std.proofs.Common.{◌≡◌, ℕ, ◌+◌, ◌<◌, ◌≤◌, ◌^◌, List, ◌∙◌, [], ◌++◌, length, drop, get_or, refl, sym, ap, append_assoc, length-append, arith}
use Rattle.std.proofs.lemmas.List.{get_or_default, drop_more, drop_all, append-nil}
use Rattle.std.proofs.lemmas.Bool.Decides.{nat_tests}
use Rattle.std.proofs.lemmas.Result.{err_from_is_err_and}
use Rattle.byteorder.specs.Endian.{big_bytes}
use Rattle.byteorder.specs.Numbers.{length-bytes_high_first}
use Rattle.plist_object.specs.Sizes.{IsWidth}
use Rattle.plist_object.specs.Spelling.{references}
use Rattle.plist_write.specs.BufferedSink.{SinkState, sink_state}
use Rattle.plist_write.proofs.Going.{Emits_then, Emits_last, Emits_rest, Emits_same, Emits_stop, Emits_put, Emits_out, room_then, short_then, short_stop, short_put}
use Rattle.plist_write.proofs.file_end.send_offsets.Goals as goal

-- the offset table, entry by entry
entries-more : (width : ℕ) (offsets : List ℕ) (i offset : ℕ) → offset ≡ get_or offsets i offset → i < length offsets → references width (drop i offsets) ≡ big_bytes width offset ++ references width (drop (i + 1) offsets)
entries-more width offsets i offset is h =
    ap (references width) (drop_more offsets i offset h) ∙ ap (λ p. big_bytes width p ++ references width (drop (i + 1) offsets)) (sym is)

entries-next : (width : ℕ) (offsets : List ℕ) (i offset : ℕ) (done all : List ℕ) → offset ≡ get_or offsets i offset → i < length offsets → done ++ references width (drop i offsets) ≡ all → (done ++ big_bytes width offset) ++ references width (drop (i + 1) offsets) ≡ all
entries-next width offsets i offset done all is h split =
    append_assoc done (big_bytes width offset) (references width (drop (i + 1) offsets)) ∙ ap (λ xs. done ++ xs) (sym (entries-more width offsets i offset is h)) ∙ split

entries-end : (width : ℕ) (offsets : List ℕ) (i : ℕ) (done all : List ℕ) → length offsets ≤ i → done ++ references width (drop i offsets) ≡ all → done ≡ all
entries-end width offsets i done all past split =
    sym (append-nil done) ∙ ap (λ xs. done ++ references width xs) (sym (drop_all i offsets past)) ∙ split

-- a width is not 0
wide : (width : ℕ) → IsWidth width → 0 < width
wide width is = grind (arith, nat_tests)

pub make_room-requires : goal.make_room-requires
make_room-requires g c =
    let l = c.loop-offset in
    let rest = references c.args.width (drop l.offset-index c.args.offsets.now) in
    let room = ap length l.invariant.split in
    let left = room_then l.invariant.done rest (sink_state g.W.Sink c.args.out.now) (sink_state g.W.Sink l.out) tt (2 ^ 64) l.invariant.emits (omega (arith, room, c.requires.room)) in
    omega (arith, left)

pub returns-in_err-make_room-clause-emits : goal.returns-in_err-make_room-clause-emits
returns-in_err-make_room-clause-emits g c =
    let e = err_from_is_err_and c.from_residual.result c.from_residual.ensures.1 in
    let l = c.loop-offset in
    let rest = references c.args.width (drop l.offset-index c.args.offsets.now) in
    let q = sink_state g.W.Sink l.out in
    let r = sink_state g.W.Sink c.make_room.new.self in
    let stop = Emits_stop [] rest q r _ c.in_err-make_room.ensures.emits in
    rw (e.1, e.2) (Emits_rest l.invariant.done rest (references c.args.width c.args.offsets.now) (sink_state g.W.Sink c.args.out.now) q r tt _ l.invariant.split l.invariant.emits stop)

pub returns-in_err-make_room-clause-pieces : goal.returns-in_err-make_room-clause-pieces
returns-in_err-make_room-clause-pieces g c =
    let e = err_from_is_err_and c.from_residual.result c.from_residual.ensures.1 in
    let l = c.loop-offset in
    let q = sink_state g.W.Sink l.out in
    let r = sink_state g.W.Sink c.make_room.new.self in
    let stop = short_stop [] 0 c.from.result q r r _ _ (omega arith) refl c.in_err-make_room.ensures.pieces in
    rw (e.1, e.2) (short_then [] 0 (sink_state g.W.Sink c.args.out.now) q r tt _ l.invariant.short stop)

pub returns-in_err-grown-clause-emits : goal.returns-in_err-grown-clause-emits
returns-in_err-grown-clause-emits g c =
    let e = err_from_is_err_and c.from_residual-in_err-grown.result c.from_residual-in_err-grown.ensures.1 in
    let l = c.loop-offset in
    let rest = references c.args.width (drop l.offset-index c.args.offsets.now) in
    let p = sink_state g.W.Sink c.args.out.now in
    let q = sink_state g.W.Sink l.out in
    let r = sink_state g.W.Sink c.make_room.new.self in
    let end : SinkState = record r { waiting = c.put_number-put.new.out.items } in
    let kept = Emits_last l.invariant.done p q r tt _ l.invariant.emits c.in_ok-make_room.ensures.emits in
    let offsets = c.args.offsets.now in
    let i = l.offset-index in
    let offset = get_or offsets i 0 in
    let is : offset ≡ get_or offsets i offset = sym (get_or_default offsets i offset 0 c.loop-offset-test.true) in
    let later = references c.args.width (drop (i + 1) offsets) in
    let long = ap length (entries-more c.args.width offsets i offset is c.loop-offset-test.true) ∙ length-append (big_bytes c.args.width offset) later in
    let some = wide c.args.width c.requires.width in
    rw (e.1, e.2, c.in_err-grown.ensures.refused.1) (Emits_rest l.invariant.done rest (references c.args.width c.args.offsets.now) p r end _ _ l.invariant.split kept (Emits_out rest c.put_number-put.new.out.items r (omega (arith, long, some, length-bytes_high_first c.args.width offset))))

pub returns-in_err-grown-clause-pieces : goal.returns-in_err-grown-clause-pieces
returns-in_err-grown-clause-pieces g c =
    let e = err_from_is_err_and c.from_residual-in_err-grown.result c.from_residual-in_err-grown.ensures.1 in
    let l = c.loop-offset in
    let q = sink_state g.W.Sink l.out in
    let r = sink_state g.W.Sink c.make_room.new.self in
    let end : SinkState = record r { waiting = c.put_number-put.new.out.items } in
    let stop = short_stop [] 0 c.from.result q r end _ _ (omega arith) refl c.in_ok-make_room.ensures.pieces in
    rw (e.1, e.2) (short_then [] 0 (sink_state g.W.Sink c.args.out.now) q end tt _ l.invariant.short stop)

pub loop-offset-preserved : goal.loop-offset-preserved
loop-offset-preserved g c =
    let width = c.args.width in
    let offsets = c.args.offsets.now in
    let l = c.loop-offset in
    let i = l.offset-index in
    let offset = get_or offsets i 0 in
    let is : offset ≡ get_or offsets i offset = sym (get_or_default offsets i offset 0 c.loop-offset-test.true) in
    let p = sink_state g.W.Sink c.args.out.now in
    let q = sink_state g.W.Sink l.out in
    let r = sink_state g.W.Sink c.make_room.new.self in
    let items = c.put_number-put.new.out.items in
    let next : SinkState = record r { waiting = items } in
    let entry = big_bytes width offset in
    let kept = Emits_last l.invariant.done p q r tt _ l.invariant.emits c.in_ok-make_room.ensures.emits in
    let digits = length-bytes_high_first width offset in
    let put = rw c.in_ok-grown.ensures.value at c.put_number-put.ensures.ok in
    record {
      done = l.invariant.done ++ entry;
      split = entries-next width offsets i offset l.invariant.done (references width offsets) is c.loop-offset-test.true l.invariant.split;
      emits = Emits_then l.invariant.done entry p r next _ _ kept (Emits_put entry items r put);
      short = short_then [] 0 p q next tt _ l.invariant.short (short_put c.from.result entry items q r _ (omega arith) (omega (arith, digits)) put c.in_ok-make_room.ensures.pieces);
    }

pub returns-clause-emits : goal.returns-clause-emits
returns-clause-emits g c =
    let l = c.loop-offset in
    let all = references c.args.width c.args.offsets.now in
    let whole = entries-end c.args.width c.args.offsets.now l.offset-index l.invariant.done all c.loop-offset-test.false l.invariant.split in
    Emits_same l.invariant.done all (sink_state g.W.Sink c.args.out.now) (sink_state g.W.Sink l.out) _ whole l.invariant.emits
