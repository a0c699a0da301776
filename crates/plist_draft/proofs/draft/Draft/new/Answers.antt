use Rattle.plist_draft.proofs.Storing.{stores_none, helds_at-none}
use Rattle.plist_draft.proofs.draft.Draft.new.Goals as goal

pub invariant_of-result : goal.invariant_of-result
invariant_of-result c =
    record { laid = stores_none _ _ c.in_ok-octets.ensures.items c.new.ensures.items }

pub returns : goal.returns
returns c = helds_at-none _ _ c.new.ensures.items
