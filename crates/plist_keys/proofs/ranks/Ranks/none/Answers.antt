use Rattle.plist_keys.proofs.Ranked.{no_ranks}
use Rattle.plist_keys.proofs.ranks.Ranks.none.Goals as goal

pub returns : goal.returns
returns c f = no_ranks f _ c.new.ensures.items c.new-2.ensures.items
