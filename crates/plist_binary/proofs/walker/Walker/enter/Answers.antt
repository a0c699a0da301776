use Rattle.std.proofs.Common.{subst, sym}
use Rattle.plist_binary.specs.Progress.{RefusesNode, walked}
use Rattle.plist_binary.proofs.Entering.{Refuses-nodes, Refuses-depth, Refuses-object}
use Rattle.plist_binary.proofs.walker.Walker.enter.Goals as goal

pub returns-in_default-clause-refused : goal.returns-in_default-clause-refused
returns-in_default-clause-refused c =
    Refuses-nodes c.args.self.now.laid c.requires c.in_ok-refuse_cycle.ensures.new c.in_default.ensures.over

pub returns-then-node-eq0-clause-refused : goal.returns-then-node-eq0-clause-refused
returns-then-node-eq0-clause-refused c =
    Refuses-depth c.args.self.now.laid c.requires c.in_ok-refuse_cycle.ensures.new c.if-node-eq0.true

pub returns-in-Err-clause-refused : goal.returns-in-Err-clause-refused
returns-in-Err-clause-refused c =
    subst (RefusesNode (walked c.args.self.now) c.args.node.now c.args.progress.now) (sym c.of_object.ensures)
    (Refuses-object c.in-Err.fault c.args.self.now.laid c.requires c.in-Err.ensures.read)
