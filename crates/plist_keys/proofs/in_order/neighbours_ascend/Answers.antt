use Rattle.plist_object.specs.Views.{numbers_of, octets_of}
use Rattle.plist_keys.specs.Ascending.{AreInOrder}
use Rattle.plist_keys.proofs.KeysInTurn.{turns_more}
use Rattle.plist_keys.proofs.in_order.neighbours_ascend.Goals as goal

pub loop-k-preserved : goal.loop-k-preserved
loop-k-preserved c =
    let f = octets_of c.args.file.now in
    let keys = numbers_of c.args.keys.now in
    let here : AreInOrder f c.get.result c.get-in-loop-k.result = c.are_in_order.ensures.0 c.if-not-are_in_order.false in
    turns_more f keys c.loop-k.k c.loop-k.auto.k c.loop-k.invariant (rw (c.get.ensures, c.get-in-loop-k.ensures) at here)
