use Rattle.std.proofs.Common.{refl}
use Rattle.plist_object.proofs.Read.{ascii_object-reads}
use Rattle.plist_object.proofs.reading.ascii.Goals as goal

pub returns-clause-read : goal.returns-clause-read
returns-clause-read c =
    let ascii = c.in_ok-ascii.ascii in
    let found = c.in_ok-text.ensures.ok_part in
    let units = rw found at c.of_ascii.ensures.text in
    let low = rw found at c.of_ascii.ensures.ascii in
    rw units (ascii_object-reads c.args.low ascii.count c.args.octets.now ascii.octets.now c.in_ok-ascii.rest.now c.in_ok-ascii.ensures.read (low.0 refl))
