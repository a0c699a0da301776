use Rattle.std.proofs.Common.{◌+◌, get_or, arith, refl}
use Rattle.plist_keys.proofs.PrefixSteps.{octets_fit, octets_step}
use Rattle.plist_keys.proofs.prefixes.octets_prefix.Goals as goal

pub loop-i-preserved : goal.loop-i-preserved
loop-i-preserved c =
    let small = c.type_inv.octets (c.args.front + c.loop-i.i) in
    octets_step c.args.front c.loop-i.i c.loop-i.prefix c.from.result c.args.octets.now (omega arith) c.requires (omega (arith, small)) c.from.ensures c.loop-i.invariant

pub overflow_mul-prefix : goal.overflow_mul-prefix
overflow_mul-prefix c =
    let index = c.args.front + c.loop-i.i in
    let small = c.type_inv.octets index in
    let below = octets_fit c.args.front c.loop-i.i c.loop-i.prefix (get_or c.args.octets.now index 0) c.args.octets.now (omega arith) c.requires (omega (arith, small)) refl c.loop-i.invariant in
    omega (arith, below)

pub overflow_add-prefix : goal.overflow_add-prefix
overflow_add-prefix c =
    let small = c.type_inv.octets (c.args.front + c.loop-i.i) in
    let below = octets_fit c.args.front c.loop-i.i c.loop-i.prefix c.from.result c.args.octets.now (omega arith) c.requires (omega (arith, small)) c.from.ensures c.loop-i.invariant in
    omega (arith, below)
