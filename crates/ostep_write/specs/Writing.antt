-- OpenStep texts as a notation.
use Rattle.std.specs.Prelude.{ℕ, List, [], ◌++◌, codes}
use Rattle.plist_write.specs.declared.notation.Mark.{Mark}
use Rattle.plist_write.specs.declared.notation.Mark.TheVariants.{EmptyList, ListStart, ListEnd}
use Rattle.plist_write.specs.declared.notation.Mark.TheVariants.{ItemEnd, EmptyTable, TableStart}
use Rattle.plist_write.specs.declared.notation.Mark.TheVariants.{TableEnd, PairEnd, TextEnd}
use Rattle.plist_write.specs.Notation.{Parts}
use Rattle.ostep_text.specs.Written.{written_scalar, written_text}

abbrev pub written_mark : Mark → List ℕ
written_mark EmptyList = codes "(\n)"
written_mark ListStart = codes "(\n"
written_mark ListEnd = codes ")"
written_mark ItemEnd = codes ",\n"
written_mark EmptyTable = codes "{\n}"
written_mark TableStart = codes "{\n"
written_mark TableEnd = codes "}"
written_mark PairEnd = codes ";\n"
written_mark TextEnd = codes "\n"

abbrev pub written_parts : Parts
written_parts = record {
  scalar_text = λ level s. written_scalar s;
  line_start = λ level. [];
  pair_start = λ level key. written_text key ++ codes " = ";
  mark_text = written_mark;
}
