use Rattle.std.proofs.Common.{sym, subst}
use Rattle.ostep_text.specs.Stands.{Stands}
use Rattle.ostep_text.specs.Reading.{MayRefuse}
use Rattle.ostep_lex.proofs.Exits.{passed_on, on_ok}
use Rattle.ostep_text.proofs.DraftSteps.{keeps-from, no-memory}
use Rattle.ostep_text.proofs.TakeSteps.{spends-same}
use Rattle.ostep_text.proofs.reader.Reader.string.Goals as goal

pub returns-in_err-charge-clause-stands : goal.returns-in_err-charge-clause-stands
returns-in_err-charge-clause-stands c octets tokens h m =
    passed_on (Stands octets) c.in_err-charge.field-0.0 c.from_residual.result c.from_residual.ensures.1
    (c.in_err-charge.ensures.stands octets tokens h (subst (λ x. MayRefuse octets c.args.octet c.args.levels x c.args.self.now.left) (sym c.text_payload.ensures) m))

pub returns-clause-spent : goal.returns-clause-spent
returns-clause-spent c = on_ok _ c.put_text.result (spends-same c.in_ok-charge.ensures.spent c.text_payload.ensures)

pub returns-clause-kept : goal.returns-clause-kept
returns-clause-kept c = on_ok _ c.put_text.result (keeps-from c.in_ok-charge.ensures.draft c.put_text.ensures.kept)

pub returns-clause-stands : goal.returns-clause-stands
returns-clause-stands c octets tokens h m = no-memory octets c.put_text.result c.put_text.ensures.memory
