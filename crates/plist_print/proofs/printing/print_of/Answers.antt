use Rattle.std.proofs.Common.{rules, arith}
use Rattle.plist_write.proofs.Going.{same_written}
use Rattle.plist_write.specs.Notation.{document_in}
use Rattle.plist_print.specs.Printed.{printed}
use Rattle.plist_print.specs.Printing.{printed_parts}
use Rattle.plist_print.proofs.Texts.{whole_is}
use Rattle.plist_print.proofs.printing.print_of.Goals as goal

pub returns-clause-written : goal.returns-clause-written
returns-clause-written g c = λ v binary.
    let whole = same_written (document_in printed_parts v) (printed v) _ _ _ _ _ (whole_is v) (c.write_in_notation.ensures.written v binary) in
    first_of (search (rules, whole), grind (arith, whole))
