use Rattle.std.proofs.Common.{◌∙◌}
use Rattle.plist_write.proofs.in_memory.canonical_of.Goals as goal

pub returns-in-Ok : goal.returns-in-Ok
returns-in-Ok g c = λ v binary.
    let added = c.in-Ok.ensures.written v binary in
    c.into_octets.ensures ∙ (rw c.new-sink.ensures.taken at added.whole.0)
