use Rattle.std.proofs.Common.{refl}
use Rattle.plist_forms.specs.Fault.{check_fault_for}
use Rattle.plist_forms.proofs.Refusing.{failed_as}
use Rattle.plistconv_c.specs.Inputs.{IsCheckRefused, refused}
use Rattle.plistconv_c.proofs.checking.checked.Goals as goal

pub returns-in_err-check_with_hasher-in-Some-clause-fault : goal.returns-in_err-check_with_hasher-in-Some-clause-fault
returns-in_err-check_with_hasher-in-Some-clause-fault c =
    let cause = c.in_err-check_with_hasher-in-Some.field-0.0 in
    let after = c.from_residual-in_err-check_with_hasher-in-Some in
    failed_as (IsCheckRefused c.args.octets.now) (check_fault_for cause) after.result after.ensures.1
    (refused cause c.in_ok-admit.ensures.within c.in_err-check_with_hasher-in-Some.ensures.fault refl)

pub returns-in_err-check-in-None-clause-fault : goal.returns-in_err-check-in-None-clause-fault
returns-in_err-check-in-None-clause-fault c =
    let cause = c.in_err-check-in-None.field-0.0 in
    let after = c.from_residual-in_err-check-in-None in
    failed_as (IsCheckRefused c.args.octets.now) (check_fault_for cause) after.result after.ensures.1
    (refused cause c.in_ok-admit.ensures.within c.in_err-check-in-None.ensures.fault refl)
