use Rattle.std.proofs.Common.{◌∙◌}
use Rattle.plist_object.specs.Views.{octets_of}
use Rattle.plist_write.proofs.Remembering.{knows-none}
use Rattle.plist_write.proofs.plan.Plan.new.Goals as goal

pub returns-clause-knows : goal.returns-clause-knows
returns-clause-knows g c =
    let memo = c.in_ok-memo.ensures in
    knows-none (octets_of c.args.input.now.file) _ c.in_ok-originals.ensures.items c.new-2.ensures (memo.listed ∙ c.count-2.ensures) memo.none
