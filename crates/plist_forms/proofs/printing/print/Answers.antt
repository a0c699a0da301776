use Rattle.std.proofs.Common.{inl, refl}
use Rattle.plist_forms.specs.Refusals.{IsRefused}
use Rattle.plist_forms.proofs.Answering.{after_put, failed_answer, text_sent, unsent, untouched}
use Rattle.plist_forms.proofs.printing.print.Goals as goal

pub returns-in_err-binary-clause-prints : goal.returns-in_err-binary-clause-prints
returns-in_err-binary-clause-prints g c =
    inl (unsent (IsRefused c.args.octets.now) _ _ _ c.from_residual.result c.from_residual.ensures.1 c.in_err-binary.ensures.refused)

pub returns-in_err-binary-clause-untouched : goal.returns-in_err-binary-clause-untouched
returns-in_err-binary-clause-untouched g c = untouched _ c.from_residual.result refl

pub returns-in_err-judged-clause-prints : goal.returns-in_err-judged-clause-prints
returns-in_err-judged-clause-prints g c =
    inl (unsent (IsRefused c.args.octets.now) _ _ _ c.from_residual-in_err-judged.result c.from_residual-in_err-judged.ensures.1 (c.in_err-judged.ensures.refused c.args.octets.now c.in_ok-binary.ensures.read))

pub returns-in_err-judged-clause-untouched : goal.returns-in_err-judged-clause-untouched
returns-in_err-judged-clause-untouched g c = untouched _ c.from_residual-in_err-judged.result refl

pub print_of-requires-clause-binary : goal.print_of-requires-clause-binary
print_of-requires-clause-binary g c =
    let encoded = c.in_ok-judged.ensures.encodes c.args.octets.now c.in_ok-binary.ensures.read in
    (encoded.value, encoded.binary)

pub returns-in_err-print_of-clause-prints : goal.returns-in_err-print_of-clause-prints
returns-in_err-print_of-clause-prints g c =
    let encoded = c.in_ok-judged.ensures.encodes c.args.octets.now c.in_ok-binary.ensures.read in
    text_sent c.args.octets.now encoded.value encoded.accepted _ _ _ _ _ c.from_residual-in_err-print_of.result (failed_answer _ _ c.from_residual-in_err-print_of.ensures.1) (c.in_err-print_of.ensures.written encoded.value encoded.binary)

pub returns-in_err-print_of-clause-untouched : goal.returns-in_err-print_of-clause-untouched
returns-in_err-print_of-clause-untouched g c = after_put _ _ c.from_residual-in_err-print_of.result c.from_residual-in_err-print_of.ensures.1

pub returns-clause-prints : goal.returns-clause-prints
returns-clause-prints g c =
    let encoded = c.in_ok-judged.ensures.encodes c.args.octets.now c.in_ok-binary.ensures.read in
    text_sent c.args.octets.now encoded.value encoded.accepted _ _ _ _ _ _ refl (c.in_ok-print_of.ensures.written encoded.value encoded.binary)

pub judged-requires : goal.judged-requires
judged-requires g c = (c.args.octets.now, c.in_ok-binary.ensures.read)
