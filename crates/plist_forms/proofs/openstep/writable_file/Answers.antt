use Rattle.std.proofs.Common.{◌≡◌, ◌∙◌, false, inl, inr, refl, rules, true}
use Rattle.plist_value.specs.Writable.{is_writable}
use Rattle.plist_forms.specs.Output.{IsOutputFault}
use Rattle.plist_forms.specs.declared.forms.Form.TheVariants.{OpenStep}
use Rattle.plist_forms.proofs.Refusing.{failed_as}
use Rattle.plist_forms.proofs.openstep.writable_file.Goals as goal

pub returns-in_err-judged-clause-refused : goal.returns-in_err-judged-clause-refused
returns-in_err-judged-clause-refused g c = λ input read.
    failed_as (IsOutputFault OpenStep input) _ c.from_residual.result c.from_residual.ensures.1 (inl (c.in_err-judged.ensures.refused input read))

pub returns-then-judged-clause-encodes : goal.returns-then-judged-clause-encodes
returns-then-judged-clause-encodes g c = λ input read.
    let writable : c.in_ok-judged.judged.writable ≡ true = search rules in
    let encoded = c.in_ok-judged.ensures.encodes input read in
    record {
      value = encoded.value;
      accepted = encoded.accepted;
      binary = encoded.binary;
      told = λ v binary. encoded.told v binary ∙ writable;
    }

pub returns-clause-refused : goal.returns-clause-refused
returns-clause-refused g c = λ input read.
    let encoded = c.in_ok-judged.ensures.encodes input read in
    let unwritable : c.in_ok-judged.judged.writable ≡ false = search rules in
    let apart : is_writable encoded.value ≡ false =
    encoded.told encoded.value encoded.binary ∙ unwritable in
    inr (record { value = encoded.value; accepted = encoded.accepted; none = rw apart refl; is = refl })
