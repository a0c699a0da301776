use Rattle.plist_forms.specs.Fault.{fault_for}
use Rattle.plist_forms.proofs.Judging.{file_refused, read_value}
use Rattle.plist_forms.proofs.Refusing.{refused_as}
use Rattle.plist_forms.proofs.canonicals.read_any.Goals as goal

pub returns-in_err-read-clause-refused : goal.returns-in_err-read-clause-refused
returns-in_err-read-clause-refused c =
    let octets = c.args.octets.now in
    let fault = c.in_err-read.field-0.0 in
    let stands = rw c.octets.ensures at c.in_err-read.ensures.stands in
    let none = rw c.octets.ensures at c.in_err-read.ensures.refused in
    let refused = file_refused _ octets c.in_ok-binary.binary c.in_ok-binary.ensures.read fault stands none in
    refused_as octets (fault_for fault) c.from_residual-in_err-read.result c.from_residual-in_err-read.ensures.1 refused

pub returns-clause-read : goal.returns-clause-read
returns-clause-read c =
    let binary = rw c.octets.ensures at c.in_ok-read.ensures.read in
    read_value _ c.args.octets.now c.in_ok-binary.binary c.in_ok-binary.ensures.read _ binary
