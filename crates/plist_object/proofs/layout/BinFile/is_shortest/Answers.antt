use Rattle.plist_object.specs.Views.{held_of, octets_of}
use Rattle.plist_object.proofs.CanonicalHeads.{shortest_iff}
use Rattle.plist_object.proofs.layout.BinFile.is_shortest.Goals as goal

pub returns-clause-shortest : goal.returns-clause-shortest
returns-clause-shortest c =
    let file = c.args.self.now in
    let octets = c.in_ok-octets.octets.now in
    let begins = c.begins_canonically.ensures in
    let read = rw file.reference_width_read at c.in_ok-object.ensures.read in
    let both = shortest_iff (octets_of file) c.args.n octets (held_of c.in_ok-object.object) c.in_ok-object.field-0-1.now c.in_ok-octets.ensures read c.in_ok-object.ensures.valid begins.counted begins.octets in
    (λ yes. both.0 (begins.begins.0 yes), λ shortest. begins.begins.1 (both.1 shortest))
