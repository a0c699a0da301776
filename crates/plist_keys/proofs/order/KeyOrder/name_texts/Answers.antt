use Rattle.std.proofs.Common.{◌<◌, length, sym, arith}
use Rattle.plist_object.specs.Views.{numbers_of, octets_of}
use Rattle.std.specs.Prelude.{slice_index}
use Rattle.std.proofs.lemmas.Bool.{true≢false}
use Rattle.plist_object.specs.Places.{HoldsText}
use Rattle.plist_keys.proofs.KeysInTurn.{below_or_last, refuted}
use Rattle.plist_keys.proofs.order.KeyOrder.name_texts.Goals as goal

pub returns-then-not-names_text : goal.returns-then-not-names_text
returns-then-not-names_text c = (
  λ e. absurd (true≢false (sym e)),
  λ each.
      let f = octets_of c.args.file.now in
      let below : c.loop-k.k < length (numbers_of c.args.keys.now) = omega (arith, c.len-k-end.ensures) in
      let here : HoldsText f c.get.result = rw c.get.ensures (each c.loop-k.k below) in
      absurd (refuted (HoldsText f c.get.result) c.names_text.result c.names_text.ensures c.if-not-names_text.true here),
)

pub loop-k-preserved : goal.loop-k-preserved
loop-k-preserved c =
    let f = octets_of c.args.file.now in
    let keys = numbers_of c.args.keys.now in
    let found : HoldsText f c.get.result = c.names_text.ensures.0 c.if-not-names_text.false in
    below_or_last (λ j. HoldsText f (slice_index keys j)) c.loop-k.k c.loop-k.invariant (rw c.get.ensures at found)
