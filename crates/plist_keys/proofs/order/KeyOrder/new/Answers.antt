use Rattle.plist_keys.proofs.order.KeyOrder.new.Goals as goal

pub returns : goal.returns
returns c f = record { last = c.none.ensures f; longest = c.none-2.ensures f; ascending = tt; ranks = c.none-3.ensures f }
