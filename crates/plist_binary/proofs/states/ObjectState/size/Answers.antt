use Rattle.std.proofs.Common.{subst}
use Rattle.plist_binary.specs.States.{IsState}
use Rattle.plist_binary.proofs.PassSteps.{IsValueSize-key}
use Rattle.plist_binary.proofs.states.ObjectState.size.Goals as goal

pub returns-in-Key : goal.returns-in-Key
returns-in-Key c f path all i is =
    IsValueSize-key f all i c.in-Key.payload (subst (IsState f path all i) c.in-Key.is is)
