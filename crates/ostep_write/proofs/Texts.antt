-- The text of a value in the notation is the text that is written for it.
use Rattle.std.proofs.Common.{◌≡◌, ℕ, ◌+◌, ◌++◌, refl, sym, ap, ◌∙◌, append_assoc}
use Rattle.std.specs.Prelude.{codes}
use Rattle.plist_value.specs.Plist.{Plist, scalar, list, table, Items, no_items, item, Pairs, no_pairs, pair}
use Rattle.plist_write.specs.Notation.{text_in, items_in, pairs_in, document_in}
use Rattle.ostep_text.specs.Written.{written, written_text, written_items, written_pairs}
use Rattle.ostep_write.specs.Writing.{written_parts}

list_is : (level : ℕ) (vs : Items) → items_in written_parts (level + 1) vs ≡ written_items vs → text_in written_parts level (list vs) ≡ written (list vs)
list_is level no_items same = refl
list_is level (item v vs) same = ap (λ lines. codes "(\n" ++ (lines ++ codes ")")) same

table_is : (level : ℕ) (ps : Pairs) → pairs_in written_parts (level + 1) ps ≡ written_pairs ps → text_in written_parts level (table ps) ≡ written (table ps)
table_is level no_pairs same = refl
table_is level (pair key v ps) same = ap (λ lines. codes "{\n" ++ (lines ++ codes "}")) same

mutual
  text_is : (level : ℕ) (v : Plist) → text_in written_parts level v ≡ written v
  text_is level (scalar s) = refl
  text_is level (list vs) = list_is level vs (items_are (level + 1) vs)
  text_is level (table ps) = table_is level ps (pairs_are (level + 1) ps)

  items_are : (level : ℕ) (vs : Items) → items_in written_parts level vs ≡ written_items vs
  items_are level no_items = refl
  items_are level (item v vs) =
      ap (λ one. (one ++ codes ",\n") ++ items_in written_parts level vs) (text_is level v) ∙ ap (λ rest. (written v ++ codes ",\n") ++ rest) (items_are level vs)

  pairs_are : (level : ℕ) (ps : Pairs) → pairs_in written_parts level ps ≡ written_pairs ps
  pairs_are level no_pairs = refl
  pairs_are level (pair key v ps) =
      let start = written_text key ++ codes " = " in
      ap (λ one. (start ++ (one ++ codes ";\n")) ++ pairs_in written_parts level ps) (text_is level v) ∙ ap (λ one. one ++ pairs_in written_parts level ps) (sym (append_assoc start (written v) (codes ";\n"))) ∙ ap (λ rest. (start ++ written v ++ codes ";\n") ++ rest) (pairs_are level ps)

pub whole_is : (v : Plist) → document_in written_parts v ≡ written v ++ codes "\n"
whole_is v = ap (λ text. text ++ codes "\n") (text_is 0 v)
