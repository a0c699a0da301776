use Rattle.std.proofs.Common.{◌+◌, ◌-◌, ◌*◌, ◌^◌, ◌<◌, drop, arith}
use Rattle.plist_value.specs.Texts.{units_of}
use Rattle.plist_keys.specs.Prefixes.{digits_of}
use Rattle.plist_keys.proofs.PrefixSteps.{digits_below, digits_fit, digits_step}
use Rattle.plist_keys.proofs.prefixes.units_prefix.Goals as goal

pub loop-read-preserved : goal.loop-read-preserved
loop-read-preserved c =
    digits_step 255 (8 - c.loop-read.read) (8 - (c.loop-read.read + 1)) c.loop-read.prefix c.digit_at-digit.result.0 (digits_of 255 8 (drop c.args.front (units_of c.args.text.now))) (drop c.loop-read.index (units_of c.args.text.now)) (drop c.digit_at-digit.result.1 (units_of c.args.text.now)) (omega arith) c.digit_at-digit.ensures.digit c.digit_at-digit.ensures.next c.loop-read.invariant

-- with one more digit, what was read is below 2^64
fits : (c : goal.After-digit_at-digit) → 256 * c.loop-read.prefix + c.digit_at-digit.result.0 < 256 ^ 8
fits c =
    let units = units_of c.args.text.now in
    let whole = digits_of 255 8 (drop c.args.front units) in
    let most = digits_fit 255 (8 - c.loop-read.read) (8 - (c.loop-read.read + 1)) c.loop-read.prefix c.digit_at-digit.result.0 whole (drop c.loop-read.index units) (omega arith) c.digit_at-digit.ensures.digit c.loop-read.invariant in
    let below = digits_below 255 8 (drop c.args.front units) in
    omega (arith, most, below)

pub overflow_mul-prefix : goal.overflow_mul-prefix
overflow_mul-prefix c = let below = fits c in omega (arith, below)

pub overflow_add-prefix : goal.overflow_add-prefix
overflow_add-prefix c = let below = fits c in omega (arith, below)
