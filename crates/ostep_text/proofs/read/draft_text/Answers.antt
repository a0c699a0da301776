use Rattle.std.proofs.Common.{refl}
use Rattle.ostep_text.specs.Fault.{of_tokens}
use Rattle.ostep_text.specs.Stands.{Stands}
use Rattle.ostep_lex.proofs.Exits.{passed_on}
use Rattle.ostep_text.proofs.Standing.{tokens-stand}
use Rattle.ostep_text.proofs.BareSteps.{whole-left, refused-by}
use Rattle.ostep_text.proofs.read.draft_text.Goals as goal

pub returns-in_err-open-clause-stands : goal.returns-in_err-open-clause-stands
returns-in_err-open-clause-stands c =
    passed_on (Stands c.args.octets.now) (of_tokens c.in_err-open.field-0.0) c.from_residual.result c.from_residual.ensures.1 (tokens-stand c.args.octets.now c.in_err-open.field-0.0 c.in_err-open.ensures.stands)

pub returns-in_err-open-clause-refused : goal.returns-in_err-open-clause-refused
returns-in_err-open-clause-refused c = refused-by c.args.octets.now c.faulty_is_no_text.ensures c.from_residual.result (returns-in_err-open-clause-stands c)

pub returns-in_err-top-clause-stands : goal.returns-in_err-top-clause-stands
returns-in_err-top-clause-stands c =
    let octets = c.args.octets.now in
    passed_on (Stands octets) c.in_err-top.field-0.0 c.from_residual-in_err-top.result c.from_residual-in_err-top.ensures.1
    (c.in_err-top.ensures.stands octets (record { after = c.in_ok-open.ensures.ok; ends = refl }) (whole-left c.whole.result c.whole.ensures.nodes c.whole.ensures.payload))

pub returns-in_err-top-clause-refused : goal.returns-in_err-top-clause-refused
returns-in_err-top-clause-refused c = refused-by c.args.octets.now c.faulty_is_no_text.ensures c.from_residual-in_err-top.result (returns-in_err-top-clause-stands c)

pub returns-clause-drafted : goal.returns-clause-drafted
returns-clause-drafted c =
    let d = c.in_ok-top.ensures.read c.args.octets.now (record { after = c.in_ok-open.ensures.ok; ends = refl }) (whole-left c.whole.result c.whole.ensures.nodes c.whole.ensures.payload) in
    (d.0, (d.2, c.in_ok-finish.ensures.spells d.0 d.2.is_plist d.2.fits d.1))
