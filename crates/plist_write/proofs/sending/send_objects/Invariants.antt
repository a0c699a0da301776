use Rattle.std.proofs.Common.{◌≡◌, ℕ, ◌+◌, ◌≤◌, List, ◌++◌, length, drop, vec_len, vec_capacity, Ok}
use Rattle.std.specs.List.{concat}
use Rattle.plist_object.specs.Views.{octets_of}
use Rattle.plist_object.specs.Files.{starts}
use Rattle.plist_write.specs.Pieces.{CanSpellAll}
use Rattle.plist_write.specs.Renumbering.{AreSound, helds_of, octets_for, octets_planned}
use Rattle.plist_write.specs.Sending.{Allows}
use Rattle.plist_write.specs.BufferedSink.{Emits, PiecesWithin, sink_state}
use Rattle.plist_write.proofs.sending.send_objects.Given as goal

-- the objects sent and those that remain are all objects
abbrev pub invariant-loop-original : goal.invariant-loop-original
invariant-loop-original g l =
    let f = octets_of l.input.file in
    let left = drop l.original-index l.objects.originals.items in
    let all = octets_planned l.width f l.objects in
    record {
      sound : AreSound f left l.numbers;
      spellable : CanSpellAll l.width (helds_of f left l.numbers);
      measured : l.offset + length (concat (octets_for l.width f left l.numbers)) ≡ 8 + length (concat all);
      offsets : l.offsets.items ++ starts l.offset (octets_for l.width f left l.numbers) ≡ starts 8 all;
      room : vec_len l.offsets + length left ≤ vec_capacity l.offsets;
      done : List ℕ;
      split : done ++ concat (octets_for l.width f left l.numbers) ≡ concat all;
      emits : Emits {T = Unit {0}} done (sink_state g.W.Sink l.fn.out) (sink_state g.W.Sink l.out) (Ok tt);
      allowed : (most : ℕ) → Allows most all → Allows most (octets_for l.width f left l.numbers);
      short : (most : ℕ) → Allows most all → PiecesWithin most (sink_state g.W.Sink l.fn.out) → PiecesWithin most (sink_state g.W.Sink l.out);
    }
