use Rattle.std.proofs.Common.{ℕ, sym, subst}
use Rattle.plist_object.specs.Spelled.{Spells}
use Rattle.plist_object.specs.Views.{octets_of}
use Rattle.plist_write.specs.declared.notation.Mark.TheVariants.{TextEnd}
use Rattle.plist_write.specs.Notation.{text_in, document_in}
use Rattle.plist_write.proofs.Going.{Emits_then, Emits_last, Emits_stop}
use Rattle.plist_write.proofs.Steps.{refused}
use Rattle.plist_write.proofs.notation_writer.write_whole.Goals as goal

pub returns-in_err-write_value-clause-emits : goal.returns-in_err-write_value-clause-emits
returns-in_err-write_value-clause-emits g c = λ v binary.
    let parts = g.N.Notation.parts in
    let spells = subst (λ (i : ℕ). Spells (octets_of c.args.judged.file) i v) (sym c.top.ensures.value) binary.spells in
    refused c.from_residual.result c.from_residual.ensures.1 (Emits_stop (text_in parts 0 v) (parts.mark_text TextEnd) _ _ _ (c.in_err-write_value.ensures.emits v binary.valid spells))

pub returns-in_err-write_mark-clause-emits : goal.returns-in_err-write_mark-clause-emits
returns-in_err-write_mark-clause-emits g c = λ v binary.
    let parts = g.N.Notation.parts in
    let spells = subst (λ (i : ℕ). Spells (octets_of c.args.judged.file) i v) (sym c.top.ensures.value) binary.spells in
    refused c.from_residual-in_err-write_mark.result c.from_residual-in_err-write_mark.ensures.1 (Emits_then (text_in parts 0 v) (parts.mark_text TextEnd) _ _ _ _ _ (c.in_ok-write_value.ensures.emits v binary.valid spells) c.in_err-write_mark.ensures.emits)

pub returns-clause-emits : goal.returns-clause-emits
returns-clause-emits g c = λ v binary.
    let parts = g.N.Notation.parts in
    let spells = subst (λ (i : ℕ). Spells (octets_of c.args.judged.file) i v) (sym c.top.ensures.value) binary.spells in
    Emits_last (document_in parts v) _ _ _ _ c.flush.result (Emits_then (text_in parts 0 v) (parts.mark_text TextEnd) _ _ _ _ _ (c.in_ok-write_value.ensures.emits v binary.valid spells) c.in_ok-write_mark.ensures.emits) c.flush.ensures.emits
