-- Examples: the files of small drafts, by computation, and the value of one.
use Rattle.std.proofs.Common.{◌≡◌, ℕ, List, [], ◌∷◌, ◌++◌, replicate, Ok, refl, arith}
use Rattle.std.proofs.lemmas.List.Sorted.{IsPermutation-swap}
use Rattle.plist_value.specs.Plist.{text}
use Rattle.plist_value.specs.Rows.{a, b, swapped}
use Rattle.plist_object.specs.Layout.{header}
use Rattle.plist_object.specs.Objects.{Content, holds_scalar, holds_table, table_object, marked_object, content, count_of_content}
use Rattle.plist_object.specs.Places.{octets_at, object_at, what_holds}
use Rattle.plist_draft.specs.Stored.{draft_file}
use Rattle.plist_draft.specs.Encoded.{SpellsIn}

-- the end of a file of fewer than 256 bytes: the number of objects, the top object, and the offset
-- of the offset table
end_of : ℕ → ℕ → ℕ → List ℕ
end_of count top offset =
    replicate 6 0 ++ (4 ∷ 4 ∷ (replicate 7 0 ++ (count ∷ (replicate 7 0 ++ (top ∷ (replicate 7 0 ++ (offset ∷ [])))))))

one_text : draft_file 0 (holds_scalar (text a) ∷ []) ≡ header ++ (81 ∷ 97 ∷ 0 ∷ 0 ∷ 0 ∷ 8 ∷ end_of 1 0 10)
unfolding draft_file end_of
one_text = refl

-- a, b, and a dictionary that has a under b and then b under a
pairs : List Content
pairs = holds_scalar (text a) ∷ holds_scalar (text b) ∷ holds_table (1 ∷ 0 ∷ []) (0 ∷ 1 ∷ []) ∷ []

table-file : draft_file 2 pairs ≡ header ++ (81 ∷ 97 ∷ 81 ∷ 98 ∷ 210 ∷ 0 ∷ 0 ∷ 0 ∷ 1 ∷ 0 ∷ 0 ∷ 0 ∷ 0 ∷ 0 ∷ 0 ∷ 0 ∷ 0 ∷ 0 ∷ 0 ∷ 0 ∷ 1 ∷ 0 ∷ 0 ∷ 0 ∷ 8 ∷ 0 ∷ 0 ∷ 0 ∷ 10 ∷ 0 ∷ 0 ∷ 0 ∷ 12 ∷ end_of 3 2 29)
unfolding draft_file end_of pairs
table-file = refl

-- the rows in the order of their keys
table-spells : SpellsIn pairs 2 swapped
unfolding pairs
table-spells = (
  1 ∷ 0 ∷ [],
  (0 ∷ 1 ∷ [], ((0, 1) ∷ (1, 0) ∷ [], (refl, (IsPermutation-swap _ _ 0 1 (omega arith) (omega arith) refl, (refl, refl, (refl, refl, refl)))))),
)

table-top : what_holds (draft_file 2 pairs) 2 ≡ Ok (holds_table (1 ∷ 0 ∷ []) (0 ∷ 1 ∷ []))
unfolding draft_file pairs what_holds object_at octets_at marked_object table_object content count_of_content
table-top = refl
