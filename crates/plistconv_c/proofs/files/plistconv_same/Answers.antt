use Rattle.std.proofs.Common.{refl, subst}
use Rattle.plist_value.specs.Plist.{Plist}
use Rattle.plistconv_c.specs.Answers.{second_refused}
use Rattle.plistconv_c.specs.Inputs.{IsInputAccepted, IsInputRefused, IsPairRefused}
use Rattle.plistconv_c.proofs.files.plistconv_same.Goals as goal

pub returns-in-Err-Second-clause-refused : goal.returns-in-Err-Second-clause-refused
returns-in-Err-Second-clause-refused c = λ _.
    let refused : (v : Plist) × (IsInputAccepted c.args.first.now v × IsInputRefused c.args.second.now c.in-Err-Second.fault) =
    subst (IsPairRefused c.args.first.now c.args.second.now) c.in-Err-Second.field-0-is c.in-Err-Second.ensures.refused in
    record {
      fault = c.in-Err-Second.fault;
      input = 2;
      refused = second_refused refused.0 refused.1.0 refused.1.1 refl;
      reported_is = c.set-in-Err-Second.ensures.set;
      number_reported = c.set-in-Err-Second.ensures.number;
      nothing = refl;
    }
