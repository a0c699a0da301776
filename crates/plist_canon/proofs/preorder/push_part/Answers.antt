use Rattle.std.proofs.Common.{ap, ◌∙◌}
use Rattle.plist_canon.specs.Preorders.{path_groups}
use Rattle.plist_canon.proofs.Paths.{path_groups-push}
use Rattle.plist_canon.proofs.preorder.push_part.Goals as goal

pub returns : goal.returns
returns c =
    rw (← c.saturating_sub.ensures) (ap path_groups c.in_ok-push.ensures.items ∙ path_groups-push c.args.path.now.items (record { owner = c.args.owner; levels = c.saturating_sub.result; refs = c.args.refs; done = 0 }))
