use Rattle.std.proofs.Common.{◌<◌, sym, arith}
use Rattle.plist_object.proofs.Listed.{length-numbers, numbers-at, number_within}
use Rattle.plist_object.proofs.refs.Refs.get.Goals as goal

pub number_at-requires-clause-within : goal.number_at-requires-clause-within
number_at-requires-clause-within c =
    let refs = c.args.self.now in
    let inside : c.args.i < refs.count = omega (arith, length-numbers refs.width refs.count refs.octets.now) in
    omega (arith, number_within refs.width refs.count c.args.i inside, refs.whole)

pub returns : goal.returns
returns c =
    let refs = c.args.self.now in
    let inside : c.args.i < refs.count = omega (arith, length-numbers refs.width refs.count refs.octets.now) in
    rw c.number_at.ensures (sym (numbers-at refs.width refs.count c.args.i refs.octets.now inside))
