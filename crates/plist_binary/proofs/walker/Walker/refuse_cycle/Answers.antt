use Rattle.std.proofs.Common.{◌≡◌, ◌∷◌, ℕ, List, subst, sym, ap, ◌∙◌}
use Rattle.plist_object.proofs.Ascending.{Among}
use Rattle.plist_binary.specs.Paths.{containers_of, Leads}
use Rattle.plist_binary.specs.Progress.{above, walked}
use Rattle.plist_binary.proofs.Beginning.{IsDue-leads}
use Rattle.plist_binary.proofs.Making.{Open-among}
use Rattle.plist_binary.proofs.Entering.{Refuses-cycle}
use Rattle.plist_binary.proofs.walker.Walker.refuse_cycle.Goals as goal

pub returns-in-In-clause-refused : goal.returns-in-In-clause-refused
returns-in-In-clause-refused c =
    let f = walked c.args.self.now in
    let node = c.args.node.now in
    let path : above node ≡ c.in-In.container ∷ containers_of c.in-In.field-1.now = ap containers_of c.in-In.is in
    let among = Open-among node.object c.requires.so_far.states (sym c.state_at.ensures ∙ c.in-Open.is) in
    Refuses-cycle f (containers_of c.in-In.field-1.now) c.in-In.container node.object node.levels c.args.progress.now.left c.args.self.now.laid c.args.self.now.octets (subst (λ (containers : List ℕ). Leads f containers node.object) path (IsDue-leads c.requires)) (subst (Among node.object) path among)
