-- Worked examples of the definitions, by computing.
use Rattle.std.proofs.Common.{◌≡◌, refl, codes}
use Rattle.std.specs.Fmt.{digits}
use Rattle.plist_binary.specs.declared.fault.BinaryFault.TheVariants as binary
use Rattle.plist_forms.specs.declared.faults.Fault.TheVariants.{Binary, WriteFailed}
use Rattle.plist_forms.specs.Fault.{code_of, status_for, fault_for}
use Rattle.plist_forms.specs.Line.{line_of}

line-object : line_of (codes "PATH") (Binary (binary.NotAscii 0)) ≡ codes "PATH: refused 11 NotAscii at object 0"
unfolding digits
line-object = refl

line-sent : line_of (codes "PATH") (WriteFailed 10) ≡ codes "PATH: refused 51 WriteFailed after 10 octets"
unfolding digits
line-sent = refl

-- out of memory in a reader is this crate's, before anything was sent
status-memory : status_for (code_of (fault_for binary.OutOfMemory)) ≡ 5
status-memory = refl
