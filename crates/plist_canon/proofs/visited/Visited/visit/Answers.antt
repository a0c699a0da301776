use Rattle.std.proofs.Common.{add-one}
use Rattle.plist_canon.proofs.visited.Visited.visit.Goals as goal

pub returns : goal.returns
returns c = λ f i holds span before. record {
  added = rw add-one (c.in_ok-add.ensures.added f i holds before.added);
  walked = rw add-one (c.in_ok-visit.ensures f i holds before.walked);
  ends = rw add-one (c.args.read.now.start, span);
}
