use Rattle.std.proofs.Common.{refl}
use Rattle.plist_canon.proofs.Paths.{SeenInTurn-none}
use Rattle.plist_canon.proofs.preorder.Walk.new.Goals as goal

pub returns : goal.returns
returns c = λ f. SeenInTurn-none f _ c.whole.result c.in_ok-with_capacity.ensures.items c.new.ensures.items refl c.whole.ensures.nodes c.whole.ensures.payload
