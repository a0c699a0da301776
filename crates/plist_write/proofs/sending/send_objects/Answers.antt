use Rattle.std.proofs.Common.{◌≡◌, ℕ, ◌+◌, ◌-◌, ◌<◌, ◌≤◌, ◌^◌, List, [], ◌++◌, drop, get_or, length, rules, sym, ap, subst, ◌∙◌, arith, length-append}
use Rattle.std.specs.List.{concat}
use Rattle.std.proofs.lemmas.List.{append-nil, length-drop}
use Rattle.std.proofs.lemmas.Result.{err_from_is_err_and}
use Rattle.plist_object.specs.Views.{octets_of}
use Rattle.plist_object.specs.Files.{starts}
use Rattle.plist_write.specs.Pieces.{CanSpellAll, octets_in_object}
use Rattle.plist_write.specs.Renumbering.{AreSound, held_in, helds_of, renumbered, octets_for, octets_planned}
use Rattle.plist_write.specs.Sending.{Allows}
use Rattle.plist_write.specs.BufferedSink.{sink_state}
use Rattle.plist_write.proofs.Going.{Emits_out, Emits_put, Emits_then, Emits_rest, Emits_stop, Emits_same, room_then}
use Rattle.plist_write.proofs.ObjectSteps.{sound-next, Step, step, measured-next, none-left, split-next, split-end, placed-next, placed-end}
use Rattle.plist_write.proofs.Sizes.{spelling-some}
use Rattle.plist_write.proofs.sending.send_objects.Given as given
use Rattle.plist_write.proofs.sending.send_objects.Goals as goal
use Rattle.plist_write.proofs.sending.send_objects.Goals.{After-renumbered_object}

pub renumbered_object-requires : goal.renumbered_object-requires
renumbered_object-requires g c =
    let start = c.args.objects.now.originals.items in
    let l = c.loop-original in
    let original = c.from.result in
    let is : original ≡ get_or start l.original-index original = search rules in
    let sound = sound-next (octets_of c.args.input.now.file) start l.original-index original l.numbers.now (search rules) is l.invariant.sound in
    record { read = sound.read; numbers = sound.enough }

-- the object at the index, and what remains after it
next : (g : given.Over) (c : After-renumbered_object g) → Step c.args.width (octets_of c.args.input.now.file) c.args.objects.now.originals.items c.loop-original.original-index c.from.result c.loop-original.numbers.now c.renumbered_object.result.1.now (octets_in_object c.args.width c.renumbered_object.result.0)
next g c =
    let start = c.args.objects.now.originals.items in
    let l = c.loop-original in
    let original = c.from.result in
    let is : original ≡ get_or start l.original-index original = search rules in
    step c.args.width (octets_of c.args.input.now.file) start l.original-index original l.numbers.now c.renumbered_object.result.1.now (octets_in_object c.args.width c.renumbered_object.result.0) (search rules) is (c.renumbered_object.ensures.spelled c.args.width) c.renumbered_object.ensures.behind l.invariant.sound l.invariant.spellable

pub object_length-size-requires-clause-spellable : goal.object_length-size-requires-clause-spellable
object_length-size-requires-clause-spellable g c =
    let one = next g (goal.at.object_length-size-requires-clause-spellable g c).After-renumbered_object in
    c.renumbered_object.ensures.spellable c.args.width one.here

pub push_reserved-requires : goal.push_reserved-requires
push_reserved-requires g c =
    let start = c.args.objects.now.originals.items in
    let i = c.loop-original.original-index in
    let below : i < length start = search rules in
    omega (arith, c.loop-original.invariant.room, length-drop i start)

pub send_object-requires-clause-spellable : goal.send_object-requires-clause-spellable
send_object-requires-clause-spellable g c =
    let one = next g (goal.at.send_object-requires-clause-spellable g c).After-renumbered_object in
    c.renumbered_object.ensures.spellable c.args.width one.here

pub send_object-requires-clause-some : goal.send_object-requires-clause-some
send_object-requires-clause-some g c =
    let spelled = ap length (c.renumbered_object.ensures.spelled c.args.width) in
    let some = spelling-some c.args.width (renumbered (held_in (octets_of c.args.input.now.file) c.from.result) c.loop-original.numbers.now) in
    omega (arith, c.object_length-size.ensures, spelled, some)

pub send_object-requires-clause-room : goal.send_object-requires-clause-room
send_object-requires-clause-room g c =
    let f = octets_of c.args.input.now.file in
    let start = c.args.objects.now.originals.items in
    let l = c.loop-original in
    let one = next g (goal.at.send_object-requires-clause-room g c).After-renumbered_object in
    let later = concat (octets_for c.args.width f (drop (l.original-index + 1) start) c.renumbered_object.result.1.now) in
    let rest = concat (octets_for c.args.width f (drop l.original-index start) l.numbers.now) in
    let whole = ap length l.invariant.split in
    let left = room_then l.invariant.done rest (sink_state g.W.Sink c.args.out.now) (sink_state g.W.Sink l.out) tt (2 ^ 64 - 8) l.invariant.emits (omega (arith, whole, c.requires.room)) in
    let sizes = ap (λ os. length (concat os)) one.split ∙ length-append (octets_in_object c.args.width c.renumbered_object.result.0) later in
    omega (arith, left, sizes)

pub returns-in_err-send_object-clause-emits : goal.returns-in_err-send_object-clause-emits
returns-in_err-send_object-clause-emits g c =
    let p = err_from_is_err_and c.from_residual-in_err-send_object.result c.from_residual-in_err-send_object.ensures.1 in
    let l = c.loop-original in
    let one = next g (goal.at.returns-in_err-send_object-clause-emits g c).After-renumbered_object in
    let octets = octets_in_object c.args.width c.renumbered_object.result.0 in
    let later = concat (octets_for c.args.width (octets_of c.args.input.now.file) (drop (l.original-index + 1) c.args.objects.now.originals.items) c.renumbered_object.result.1.now) in
    let whole = ap (λ os. l.invariant.done ++ concat os) (sym one.split) ∙ l.invariant.split in
    let q = sink_state g.W.Sink l.out in
    let r = sink_state g.W.Sink c.send_object.new.out in
    rw (p.1, p.2) (Emits_rest l.invariant.done (octets ++ later) (concat (octets_planned c.args.width (octets_of c.args.input.now.file) c.args.objects.now)) (sink_state g.W.Sink c.args.out.now) q r tt _ whole l.invariant.emits (Emits_stop octets later q r _ c.in_err-send_object.ensures.emits))

pub overflow_add-offset : goal.overflow_add-offset
overflow_add-offset g c =
    let l = c.loop-original in
    let one = next g (goal.at.overflow_add-offset g c).After-renumbered_object in
    let all = concat (octets_planned c.args.width (octets_of c.args.input.now.file) c.args.objects.now) in
    let measured = measured-next l.offset c.object_length-size.result (8 + length all) _ _ _ c.object_length-size.ensures one.split l.invariant.measured in
    let bound = measured.0 in
    let room = c.requires.room in
    omega (arith, bound, room)

pub loop-original-preserved : goal.loop-original-preserved
loop-original-preserved g c =
    let start = c.args.objects.now.originals.items in
    let l = c.loop-original in
    let i = l.original-index in
    let one = next g (goal.at.loop-original-preserved g c).After-renumbered_object in
    let octets = octets_in_object c.args.width c.renumbered_object.result.0 in
    let later = octets_for c.args.width (octets_of c.args.input.now.file) (drop (i + 1) start) c.renumbered_object.result.1.now in
    let all = octets_planned c.args.width (octets_of c.args.input.now.file) c.args.objects.now in
    let size = c.object_length-size.result in
    record {
      sound = one.sound;
      spellable = one.spellable;
      measured = (measured-next l.offset size (8 + length (concat all)) octets _ _ c.object_length-size.ensures one.split l.invariant.measured).0;
      offsets = placed-next l.offsets.items c.push_reserved.new.self.items l.offset size octets _ later all c.push_reserved.ensures.items c.object_length-size.ensures one.split l.invariant.offsets;
      room = omega (arith, c.push_reserved.ensures.len, c.push_reserved.ensures.capacity, l.invariant.room, one.below, length-drop i start, length-drop (i + 1) start);
      done = l.invariant.done ++ octets;
      split = split-next l.invariant.done octets (concat all) _ later one.split l.invariant.split;
      emits = Emits_then l.invariant.done octets (sink_state g.W.Sink c.args.out.now) (sink_state g.W.Sink l.out) (sink_state g.W.Sink c.send_object.new.out) tt _ l.invariant.emits c.in_ok-send_object.ensures.emits;
      allowed = λ most allows. (let here = rw one.split at (l.invariant.allowed most allows) in record { least = here.least; each = here.each.1 });
      short = λ most allows before. (
          let here = rw one.split at (l.invariant.allowed most allows) in
          let now = l.invariant.short most allows before in
          let sent = c.in_ok-send_object.ensures.pieces most (record { least = here.least; each = (here.each.0, tt) }) (omega arith) now in
          record { waits = omega (arith, sent.waits); pieces = sent.pieces });
    }

pub returns-clause-emits : goal.returns-clause-emits
returns-clause-emits g c =
    let l = c.loop-original in
    let all = concat (octets_planned c.args.width (octets_of c.args.input.now.file) c.args.objects.now) in
    let past : length c.args.objects.now.originals.items ≤ l.original-index = search rules in
    let none = none-left c.args.width (octets_of c.args.input.now.file) c.args.objects.now.originals.items l.original-index l.numbers.now past in
    let whole = split-end l.invariant.done all _ none l.invariant.split in
    let emits = Emits_same l.invariant.done all (sink_state g.W.Sink c.args.out.now) (sink_state g.W.Sink l.out) _ whole l.invariant.emits in
    record { stays = emits.stays; done = emits.done; stopped = tt }

pub returns-clause-offsets : goal.returns-clause-offsets
returns-clause-offsets g c =
    let l = c.loop-original in
    let all = octets_planned c.args.width (octets_of c.args.input.now.file) c.args.objects.now in
    let past : length c.args.objects.now.originals.items ≤ l.original-index = search rules in
    let none = none-left c.args.width (octets_of c.args.input.now.file) c.args.objects.now.originals.items l.original-index l.numbers.now past in
    placed-end l.offsets.items l.offset _ all none l.invariant.offsets

pub returns-in_err-send_object-clause-pieces : goal.returns-in_err-send_object-clause-pieces
returns-in_err-send_object-clause-pieces g c = λ most allows fits before.
    let p = err_from_is_err_and c.from_residual-in_err-send_object.result c.from_residual-in_err-send_object.ensures.1 in
    let l = c.loop-original in
    let one = next g (goal.at.returns-in_err-send_object-clause-pieces g c).After-renumbered_object in
    let here = rw one.split at (l.invariant.allowed most allows) in
    let now = l.invariant.short most allows before in
    let sent = c.in_err-send_object.ensures.pieces most (record { least = here.least; each = (here.each.0, tt) }) (omega arith) now in
    rw (p.1, p.2) (record { waits = tt; pieces = sent.pieces })

pub returns-clause-pieces : goal.returns-clause-pieces
returns-clause-pieces g c = λ most allows fits before.
    let now = c.loop-original.invariant.short most allows before in
    record { waits = omega (arith, now.waits); pieces = now.pieces }

pub returns-in_err-offsets-clause-emits : goal.returns-in_err-offsets-clause-emits
returns-in_err-offsets-clause-emits g c =
    let e = err_from_is_err_and c.from_residual.result c.from_residual.ensures.1 in
    let p = sink_state g.W.Sink c.args.out.now in
    rw (e.1, e.2, c.in_err-offsets.ensures.refused.1) (Emits_out (concat (octets_planned c.args.width (octets_of c.args.input.now.file) c.args.objects.now)) p.waiting p (omega (arith, c.requires.waits)))

pub returns-in_err-offsets-clause-pieces : goal.returns-in_err-offsets-clause-pieces
returns-in_err-offsets-clause-pieces g c = λ most allows fits before.
    let e = err_from_is_err_and c.from_residual.result c.from_residual.ensures.1 in
    rw (e.1, e.2) (record { waits = tt; pieces = before.pieces })

pub loop-original-init : goal.loop-original-init
loop-original-init g c =
    let f = octets_of c.args.input.now.file in
    let start = c.args.objects.now.originals.items in
    let is = c.as_slice-numbers.ensures.value in
    let left = ap (octets_for c.args.width f start) is in
    let p = sink_state g.W.Sink c.args.out.now in
    let none = rw c.in_ok-offsets.ensures.value at c.with_capacity.ensures.items in
    let len = rw c.in_ok-offsets.ensures.value at c.with_capacity.ensures.len in
    let capacity = rw c.in_ok-offsets.ensures.value at c.with_capacity.ensures.capacity in
    record {
      sound = subst (λ (rs : List ℕ). AreSound f start rs) (sym is) c.requires.sound;
      spellable = subst (λ (rs : List ℕ). CanSpellAll c.args.width (helds_of f start rs)) (sym is) c.requires.spellable;
      measured = ap (λ os. 8 + length (concat os)) left;
      offsets = ap (λ ps. ps ++ starts 8 (octets_for c.args.width f start c.as_slice-numbers.result.now)) none ∙ ap (starts 8) left;
      room = first_of (search rules, omega (arith, len, capacity));
      done = [];
      split = ap concat left;
      emits = Emits_put [] p.waiting p (sym (append-nil p.waiting));
      allowed = λ most allows. subst (λ (os : List (List ℕ)). Allows most os) (sym left) allows;
      short = λ most allows before. before;
    }
