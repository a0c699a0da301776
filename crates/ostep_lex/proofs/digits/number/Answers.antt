use Rattle.std.proofs.Common.{◌≤◌, arith, ◌∙◌}
use Rattle.std.proofs.Math.Nat.{mul-le-mul}
use Rattle.ostep_lex.proofs.PieceSteps.{pow_limit, digit_limit, number_step, number_no_digit}
use Rattle.ostep_lex.proofs.digits.number.Goals as goal

pub overflow_mul-value : goal.overflow_mul-value
overflow_mul-value c =
    let l = pow_limit c.args.base c.loop.counter c.requires.base_limit (omega arith) in
    let v : c.loop.value ≤ 65536 = omega arith in
    let b : c.args.base ≤ 16 = omega arith in
    let m = mul-le-mul v b in
    omega arith

pub overflow_add-value : goal.overflow_add-value
overflow_add-value c =
    let l = pow_limit c.args.base c.loop.counter c.requires.base_limit (omega arith) in
    let v : c.loop.value ≤ 65536 = omega arith in
    let b : c.args.base ≤ 16 = omega arith in
    let m = mul-le-mul v b in
    omega (arith, c.in-Some-to_digit.ensures.value)

pub loop-preserved : goal.loop-preserved
loop-preserved c =
    let d = c.in-Some-to_digit.ensures.value in (
      c.loop.invariant.0 ∙ number_step c.args.base c.args.count c.loop.counter _ _ _ _ _ c.in-Some.ensures.0 c.loop-test.true d,
      c.in-Some.ensures.1 ∙ c.loop.invariant.1,
      digit_limit c.args.base c.loop.counter _ _ c.loop.invariant.2 (omega (arith, d)),
    )

pub returns-in_default-clause-limit : goal.returns-in_default-clause-limit
returns-in_default-clause-limit c = omega (arith, pow_limit c.args.base c.loop.counter c.requires.base_limit (omega arith))

pub returns-in_default-to_digit-clause-value : goal.returns-in_default-to_digit-clause-value
returns-in_default-to_digit-clause-value c =
    c.loop.invariant.0 ∙ number_no_digit c.args.base _ _ _ _ _ c.in-Some.ensures.0 c.in_default-to_digit.ensures.value

pub returns-in_default-to_digit-clause-limit : goal.returns-in_default-to_digit-clause-limit
returns-in_default-to_digit-clause-limit c = omega (arith, pow_limit c.args.base c.loop.counter c.requires.base_limit (omega arith))

pub returns-clause-limit : goal.returns-clause-limit
returns-clause-limit c = omega (arith, pow_limit c.args.base c.loop.counter c.requires.base_limit (omega arith))
