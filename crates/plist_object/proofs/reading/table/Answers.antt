use Rattle.std.proofs.Common.{◌≡◌, ◌*◌, ◌/◌, length, sym, ◌∙◌, arith}
use Rattle.plist_object.proofs.Listed.{length-numbers}
use Rattle.plist_object.proofs.Read.{table_object-reads}
use Rattle.plist_object.proofs.reading.table.Goals as goal

pub returns-clause-read : goal.returns-clause-read
returns-clause-read c =
    let pairs = c.in_ok-pairs.pairs in
    let read = rw c.from.ensures at c.in_ok-pairs.ensures.read in
    let whole = rw c.from.ensures at c.in_ok-pairs.ensures.whole in
    let half : length pairs.octets.now / 2 ≡ pairs.count * c.args.width = omega (arith, whole) in
    rw (c.of-keys.ensures, c.of-values.ensures, c.split_at.ensures.front, c.split_at.ensures.back)
    (table_object-reads c.args.width c.args.low pairs.count (length pairs.octets.now / 2) c.args.octets.now pairs.octets.now c.in_ok-pairs.rest.now read half)

pub returns-clause-valid : goal.returns-clause-valid
returns-clause-valid c =
    let width = c.args.width in
    let count = c.in_ok-pairs.pairs.count in
    rw (c.of-keys.ensures, c.of-values.ensures) (length-numbers width count c.split_at.result.0.now ∙ sym (length-numbers width count c.split_at.result.1.now))
