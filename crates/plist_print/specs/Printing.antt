-- Printed texts as a notation.
use Rattle.std.specs.Prelude.{ℕ, List, [], ◌++◌, codes}
use Rattle.plist_write.specs.declared.notation.Mark.{Mark}
use Rattle.plist_write.specs.declared.notation.Mark.TheVariants.{EmptyList, ListStart, ListEnd}
use Rattle.plist_write.specs.declared.notation.Mark.TheVariants.{EmptyTable, TableStart, TableEnd}
use Rattle.plist_write.specs.Notation.{Parts}
use Rattle.plist_print.specs.Units.{printed_text}
use Rattle.plist_print.specs.Printed.{indent, printed_line}

-- what precedes the value of this key
abbrev pub pair_head : ℕ → List ℕ → List ℕ
pair_head level key = indent level ++ (printed_text key ++ codes " => ")

abbrev pub printed_mark : Mark → List ℕ
printed_mark EmptyList = codes "[]\n"
printed_mark ListStart = codes "[\n"
printed_mark ListEnd = codes "]\n"
printed_mark EmptyTable = codes "{}\n"
printed_mark TableStart = codes "{\n"
printed_mark TableEnd = codes "}\n"
printed_mark _ = []

abbrev pub printed_parts : Parts
printed_parts = record {
  scalar_text = printed_line;
  line_start = indent;
  pair_start = pair_head;
  mark_text = printed_mark;
}
