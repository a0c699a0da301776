use Rattle.std.proofs.Common.{arith}
use Rattle.std.proofs.lemmas.Result.{on_ok_weaker, IfErr-weaker}
use Rattle.plist_object.specs.Views.{octets_of}
use Rattle.plist_canon.specs.Checking.{IsFlaw}
use Rattle.plist_canon.specs.Steps.{WalkedAll}
use Rattle.plist_canon.specs.First.{IsReportedFlaw}
use Rattle.plist_canon.proofs.Firsts.{objects_reported, passed_on, walk_reported}
use Rattle.plist_canon.proofs.checking.check_rules.Goals as goal

whole : (g : _) (c : goal.After-finish g) → WalkedAll (octets_of c.args.file) c.in_ok-check_objects.field-0
whole g c =
    let checked = c.in_ok-check_objects.ensures.checked in
    record {
      some = (let some = c.args.file.laid.trailed.some_object in omega arith);
      octets = c.requires.valid;
      read = λ i below. (checked i below).read;
      ascending = λ i below. (checked i below).ascending;
      walked = c.in_ok-check_objects.ensures.walked;
    }

pub returns-clause-ok : goal.returns-clause-ok
returns-clause-ok g c =
    let checked = c.in_ok-check_objects.ensures.checked in
    on_ok_weaker c.finish.result
    (λ finished.
    let walked = finished (octets_of c.args.file) (whole g c) in
    record {
      reads_within_limits = record { read = λ i below. (checked i below).read; fits = walked.fits };
      plain_trailer = c.in_ok-check_trailer.ensures.plain;
      least_widths = c.in_ok-check_trailer.ensures.widths;
      adjoins = c.in_ok-check_objects.ensures.adjoin;
      spelled_canonically = λ i below. (checked i below).spelled;
      ascending_keys = λ i below. (checked i below).ascending;
      no_repeat = c.in_ok-check_objects.ensures.single;
      numbered_in_preorder = walked.numbered;
    })
    c.finish.ensures.ok

pub returns-clause-err : goal.returns-clause-err
returns-clause-err g c =
    let f = octets_of c.args.file in
    IfErr-weaker c.finish.result _ (IsFlaw f) (λ flaw broken. broken f (whole g c)) c.finish.ensures.err

pub returns-in_err-check_objects-clause-first : goal.returns-in_err-check_objects-clause-first
returns-in_err-check_objects-clause-first g c =
    let f = octets_of c.args.file in
    let told = c.in_ok-check_trailer.ensures in
    passed_on (IsReportedFlaw f) _ c.from_residual-in_err-check_objects.result c.from_residual-in_err-check_objects.ensures.1
    (objects_reported f c.in_err-check_objects.field-0.0 (record { plain = told.plain; widths = told.widths }) c.in_err-check_objects.ensures.first)

pub returns-clause-first : goal.returns-clause-first
returns-clause-first g c =
    let f = octets_of c.args.file in
    let told = c.in_ok-check_trailer.ensures in
    let objects = c.in_ok-check_objects.ensures in
    IfErr-weaker c.finish.result _ (IsReportedFlaw f)
    (λ flaw walk. walk_reported f flaw (record { plain = told.plain; widths = told.widths }) (λ i below. record { checked = objects.checked i below; single = objects.single i below }) objects.adjoin (walk f (whole g c)))
    c.finish.ensures.first
