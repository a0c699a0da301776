use Rattle.std.proofs.Common.{◌++◌, rules, arith}
use Rattle.std.specs.Prelude.{codes}
use Rattle.plist_write.proofs.Going.{same_written}
use Rattle.plist_write.specs.Notation.{document_in}
use Rattle.ostep_text.specs.Written.{written}
use Rattle.ostep_write.specs.Writing.{written_parts}
use Rattle.ostep_write.proofs.Texts.{whole_is}
use Rattle.ostep_write.proofs.writing.write_text_of.Goals as goal

pub returns-clause-written : goal.returns-clause-written
returns-clause-written g c = λ v binary.
    let whole = same_written (document_in written_parts v) (written v ++ codes "\n") _ _ _ _ _ (whole_is v) (c.write_in_notation.ensures.written v binary) in
    first_of (search (rules, whole), grind (arith, whole))
