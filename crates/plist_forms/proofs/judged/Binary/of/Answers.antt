use Rattle.std.proofs.Common.{◌≡◌, ◌∙◌, ap, false, sym}
use Rattle.plist_forms.specs.Accepted.{begins_as_binary}
use Rattle.plist_forms.specs.Fault.{text_fault_for}
use Rattle.plist_forms.proofs.Refusing.{refused_as, text_refused}
use Rattle.plist_forms.proofs.judged.Binary.of.Goals as goal

pub returns-in_err-draft_text-clause-refused : goal.returns-in_err-draft_text-clause-refused
returns-in_err-draft_text-clause-refused g c =
    let octets = g.I.AsSlice.items c.args.input in
    let fault = c.in_err-draft_text.field-0.0 in
    let begins : begins_as_binary octets ≡ false =
    sym (ap begins_as_binary c.as_slice.ensures) ∙ sym c.begins_as_binary.ensures ∙ c.if-begins_as_binary.false in
    let stands = rw c.as_slice-2.ensures at c.in_err-draft_text.ensures.stands in
    let none = rw c.as_slice-2.ensures at c.in_err-draft_text.ensures.refused in
    refused_as octets (text_fault_for fault) c.from_residual.result c.from_residual.ensures.1 (text_refused octets begins fault stands none)
