use Rattle.std.proofs.Common.{inl, refl}
use Rattle.plist_forms.specs.Output.{IsOutputFault}
use Rattle.plist_forms.specs.declared.forms.Form.TheVariants.{Binary1}
use Rattle.plist_forms.proofs.Answering.{after_put, failed_answer, file_sent, unsent, untouched}
use Rattle.plist_forms.proofs.converting.write_binary1.Goals as goal

pub returns-in_err-judged-clause-writes : goal.returns-in_err-judged-clause-writes
returns-in_err-judged-clause-writes g c = λ input read.
    inl (unsent (IsOutputFault Binary1 input) _ _ _ c.from_residual.result c.from_residual.ensures.1 (inl (c.in_err-judged.ensures.refused input read)))

pub returns-in_err-judged-clause-untouched : goal.returns-in_err-judged-clause-untouched
returns-in_err-judged-clause-untouched g c = untouched _ c.from_residual.result refl

pub write_canonical_of-requires-clause-binary : goal.write_canonical_of-requires-clause-binary
write_canonical_of-requires-clause-binary g c =
    let encoded = c.in_ok-judged.ensures.encodes c.requires.0 c.requires.1 in
    (encoded.value, encoded.binary)

pub returns-in_err-write_canonical_of-clause-writes : goal.returns-in_err-write_canonical_of-clause-writes
returns-in_err-write_canonical_of-clause-writes g c = λ input read.
    let encoded = c.in_ok-judged.ensures.encodes input read in
    file_sent input encoded.value encoded.accepted _ _ _ _ _ c.from_residual-in_err-write_canonical_of.result (failed_answer _ _ c.from_residual-in_err-write_canonical_of.ensures.1) (c.in_err-write_canonical_of.ensures.written encoded.value encoded.binary)

pub returns-in_err-write_canonical_of-clause-untouched : goal.returns-in_err-write_canonical_of-clause-untouched
returns-in_err-write_canonical_of-clause-untouched g c = after_put _ _ c.from_residual-in_err-write_canonical_of.result c.from_residual-in_err-write_canonical_of.ensures.1

pub returns-clause-writes : goal.returns-clause-writes
returns-clause-writes g c = λ input read.
    let encoded = c.in_ok-judged.ensures.encodes input read in
    file_sent input encoded.value encoded.accepted _ _ _ _ _ _ refl (c.in_ok-write_canonical_of.ensures.written encoded.value encoded.binary)
