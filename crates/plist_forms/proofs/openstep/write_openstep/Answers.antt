use Rattle.std.proofs.Common.{inl, refl}
use Rattle.plist_forms.specs.Output.{IsOutputFault}
use Rattle.plist_forms.specs.declared.forms.Form.TheVariants.{OpenStep}
use Rattle.plist_forms.proofs.Answering.{unsent, untouched}
use Rattle.plist_forms.proofs.openstep.write_openstep.Goals as goal

pub returns-in_err-binary-clause-writes : goal.returns-in_err-binary-clause-writes
returns-in_err-binary-clause-writes g c =
    inl (unsent (IsOutputFault OpenStep c.args.octets.now) _ _ _ c.from_residual.result c.from_residual.ensures.1 (inl c.in_err-binary.ensures.refused))

pub returns-in_err-binary-clause-untouched : goal.returns-in_err-binary-clause-untouched
returns-in_err-binary-clause-untouched g c = untouched _ c.from_residual.result refl

pub write_text-requires : goal.write_text-requires
write_text-requires g c = (c.args.octets.now, c.in_ok-binary.ensures.read)
