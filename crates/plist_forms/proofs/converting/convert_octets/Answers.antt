use Rattle.std.proofs.Common.{inl, refl}
use Rattle.plist_forms.specs.Output.{IsOutputFault}
use Rattle.plist_forms.proofs.Answering.{unsent, untouched}
use Rattle.plist_forms.proofs.converting.convert_octets.Goals as goal

pub returns-in_err-binary-clause-writes : goal.returns-in_err-binary-clause-writes
returns-in_err-binary-clause-writes g c =
    inl (unsent (IsOutputFault c.args.form c.args.octets.items) _ _ _ c.from_residual.result c.from_residual.ensures.1 (inl c.in_err-binary.ensures.refused))

pub returns-in_err-binary-clause-untouched : goal.returns-in_err-binary-clause-untouched
returns-in_err-binary-clause-untouched g c = untouched _ c.from_residual.result refl
