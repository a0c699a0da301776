use Rattle.std.proofs.Common.{ℕ, sym, subst, arith}
use Rattle.plist_binary.specs.States.{IsState}
use Rattle.plist_binary.specs.Passing.{Passes}
use Rattle.plist_binary.proofs.PassSteps.{Passes-size}
use Rattle.plist_binary.proofs.progress.Progress.recall.Goals as goal

pub returns : goal.returns
returns c = λ f path is.
    let object = c.args.object in
    let all = c.args.self.now.writable in
    let known = c.in_ok-size.ensures f path all object (subst (IsState f path all object) (sym c.state_at.ensures) (is.states.each object)) in
    subst (λ (deep : ℕ). Passes f object c.args.levels c.args.self.now.left deep c.in_ok-take.field-0 all all) (sym c.from-deep.ensures) (Passes-size f object c.args.levels c.args.self.now.left c.in_ok-take.field-0 c.in_ok-size.size all known (omega arith) c.in_ok-take.ensures)
