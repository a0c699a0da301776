use Rattle.std.proofs.Common.{arith, subst}
use Rattle.plist_object.specs.Views.{octets_of}
use Rattle.plist_canon.specs.Rules.{FollowsRules, IsBroken}
use Rattle.plist_canon.specs.Checking.{IsFlaw}
use Rattle.plist_canon.specs.declared.checking.Verdict.TheVariants as verdict
use Rattle.plist_canon.proofs.Followed.{verdict_decides}
use Rattle.plist_canon.specs.First.{IsReported, IsReportedFlaw}
use Rattle.plist_canon.proofs.checking.check_with_hasher.Goals as goal

pub returns-in-Ok-clause-canonical : goal.returns-in-Ok-clause-canonical
returns-in-Ok-clause-canonical g c =
    verdict_decides c.args.octets.now (λ i. omega (arith, c.type_inv.octets i)) c.in_ok-file.ensures.ok verdict.Canonical (subst FollowsRules c.in_ok-file.ensures.laid c.in-Ok.ensures.ok)

pub returns-in-Err-Broken-clause-canonical : goal.returns-in-Err-Broken-clause-canonical
returns-in-Err-Broken-clause-canonical g c =
    let object = c.in-Err-Broken.object in
    let flawed = subst (IsFlaw (octets_of c.in_ok-file.file)) c.in-Err-Broken.field-0-is c.in-Err-Broken.ensures.err in
    let broken : IsBroken (octets_of c.in_ok-file.file) c.number.result object = rw c.number.ensures flawed in
    verdict_decides c.args.octets.now (λ i. omega (arith, c.type_inv.octets i)) c.in_ok-file.ensures.ok (verdict.Broken c.number.result object) (subst (λ f. IsBroken f c.number.result object) c.in_ok-file.ensures.laid broken)

pub returns-in-Err-Broken-clause-verdict : goal.returns-in-Err-Broken-clause-verdict
returns-in-Err-Broken-clause-verdict g c =
    let object = c.in-Err-Broken.object in
    let flawed = subst (IsFlaw (octets_of c.in_ok-file.file)) c.in-Err-Broken.field-0-is c.in-Err-Broken.ensures.err in
    let broken : IsBroken (octets_of c.in_ok-file.file) c.number.result object = rw c.number.ensures flawed in
    subst (λ f. IsBroken f c.number.result object) c.in_ok-file.ensures.laid broken

pub returns-in-Err-Broken-clause-first : goal.returns-in-Err-Broken-clause-first
returns-in-Err-Broken-clause-first g c =
    let object = c.in-Err-Broken.object in
    let reported = subst (IsReportedFlaw (octets_of c.in_ok-file.file)) c.in-Err-Broken.field-0-is c.in-Err-Broken.ensures.first in
    let first : IsReported (octets_of c.in_ok-file.file) c.number.result object = rw c.number.ensures reported in
    subst (λ f. IsReported f c.number.result object) c.in_ok-file.ensures.laid first
