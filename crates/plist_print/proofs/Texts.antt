-- The text of a value in the notation is its printed text.
use Rattle.std.proofs.Common.{◌≡◌, ℕ, ◌+◌, List, [], ◌++◌, refl, ap, ◌∙◌, add-one, append_assoc}
use Rattle.std.specs.Prelude.{codes}
use Rattle.std.proofs.lemmas.List.{append-nil}
use Rattle.plist_value.specs.Plist.{Plist, scalar, list, table, Items, no_items, item, Pairs, no_pairs, pair}
use Rattle.plist_write.specs.Notation.{text_in, items_in, pairs_in, document_in}
use Rattle.plist_print.specs.Units.{printed_text}
use Rattle.plist_print.specs.Printed.{indent, enclosed, printed, printed_at, printed_items, printed_pairs}
use Rattle.plist_print.specs.Printing.{pair_head, printed_parts}

list_is : (level : ℕ) (vs : Items) → items_in printed_parts (level + 1) vs ≡ printed_items (level + 1) vs → text_in printed_parts level (list vs) ≡ printed_at level (list vs)
list_is level no_items same = refl
list_is level (item v vs) same =
    ap (enclosed level 91 93) (same ∙ ap (λ deeper. printed_items deeper (item v vs)) (add-one level))

table_is : (level : ℕ) (ps : Pairs) → pairs_in printed_parts (level + 1) ps ≡ printed_pairs (level + 1) ps → text_in printed_parts level (table ps) ≡ printed_at level (table ps)
table_is level no_pairs same = refl
table_is level (pair key v ps) same =
    ap (enclosed level 123 125) (same ∙ ap (λ deeper. printed_pairs deeper (pair key v ps)) (add-one level))

-- nothing follows an item, or a value
joined : (start one first others rest : List ℕ) → one ≡ first → others ≡ rest → (start ++ (one ++ [])) ++ others ≡ start ++ (first ++ rest)
joined start one first others rest same alike =
    ap (λ xs. (start ++ xs) ++ others) (append-nil one ∙ same) ∙ append_assoc start first others ∙ ap (λ xs. start ++ (first ++ xs)) alike

mutual
  text_is : (level : ℕ) (v : Plist) → text_in printed_parts level v ≡ printed_at level v
  text_is level (scalar s) = refl
  text_is level (list vs) = list_is level vs (items_are (level + 1) vs)
  text_is level (table ps) = table_is level ps (pairs_are (level + 1) ps)

  items_are : (level : ℕ) (vs : Items) → items_in printed_parts level vs ≡ printed_items level vs
  items_are level no_items = refl
  items_are level (item v vs) =
      joined (indent level) (text_in printed_parts level v) (printed_at level v) (items_in printed_parts level vs) (printed_items level vs) (text_is level v) (items_are level vs)

  pairs_are : (level : ℕ) (ps : Pairs) → pairs_in printed_parts level ps ≡ printed_pairs level ps
  pairs_are level no_pairs = refl
  pairs_are level (pair key v ps) =
      let rest = printed_at level v ++ printed_pairs level ps in
      joined (pair_head level key) (text_in printed_parts level v) (printed_at level v) (pairs_in printed_parts level ps) (printed_pairs level ps) (text_is level v) (pairs_are level ps) ∙ append_assoc (indent level) (printed_text key ++ codes " => ") rest ∙ ap (λ xs. indent level ++ xs) (append_assoc (printed_text key) (codes " => ") rest)

pub whole_is : (v : Plist) → document_in printed_parts v ≡ printed v
whole_is v = append-nil (text_in printed_parts 0 v) ∙ text_is 0 v
