-- Small files that follow the rules, or break one of them.
use Rattle.std.proofs.Common.{◌≡◌, ℕ, true, false, zero, suc, ◌<◌, List, [], ◌∷◌, ◌++◌, replicate, Result, Ok, refl, sym, ap, subst, ◌∙◌, inl, inr, arith}
use Rattle.std.specs.declared.cmp.Ordering.TheVariants.{Less, Greater}
use Rattle.std.specs.List.{AllByRecursion}
use Rattle.std.specs.List.Sorted.{IsStrictlySortedBy}
use Rattle.plist_value.specs.Plist.{text, AreUnits}
use Rattle.plist_value.specs.Limits.{Fits}
use Rattle.plist_value.specs.Rows.{swapped}
use Rattle.plist_object.specs.declared.object.ObjectFault.{ObjectFault}
use Rattle.plist_object.specs.Layout.{header, IsLaid}
use Rattle.plist_object.specs.Objects.{Content, holds_scalar, holds_list, object_in, count_spelled, count_of_content, content, simple_object, ascii_object, list_object, table_object, marked_object}
use Rattle.plist_object.specs.Places.{octets_at, object_at, what_holds, span_of, Holds}
use Rattle.plist_object.specs.Shortest.{spelling_of, IsShortest}
use Rattle.plist_object.proofs.Uniqueness.{same_held}
use Rattle.plist_write.specs.Canonical.{canon}
use Rattle.plist_keys.specs.Overlap.{keys_before, marked_length}
use Rattle.plist_object.specs.References.{references_of}
use Rattle.plist_canon.specs.Rules.{ReadsWithinLimits, FollowsRules, HasPlainTrailer, HasLeastWidths, Adjoins, IsSpelledCanonically, HasAscendingKeys, IsNoRepeat, IsNumberedInPreorder, held_by, begins, goes_on, TurnsAt, LeavesOver}
use Rattle.plist_canon.proofs.InOrder.{AreBelow-none, AreBelow-new, new_or_known}
use Rattle.plist_canon.proofs.Visiting.{TurnsAt-unnumbered}
use Rattle.plist_canon.proofs.Followed.{canonical_follows_rules}

-- The end of a file of fewer than 256 bytes: the first unused byte of the trailer, the width of a
-- reference, the number of objects, and where the offset table begins.
abbrev end_with : ℕ → ℕ → ℕ → ℕ → List ℕ
end_with slack width count place =
    slack ∷ (replicate 5 0 ++ (1 ∷ width ∷ (replicate 7 0 ++ (count ∷ (replicate 15 0 ++ (place ∷ []))))))

abbrev end_of : ℕ → ℕ → List ℕ
end_of count place = end_with 0 1 count place

-- the canonical file of {a = b; b = a}, which follows the rules
abbrev swapped_file : List ℕ
swapped_file = header ++ (210 ∷ 1 ∷ 2 ∷ 2 ∷ 1 ∷ 81 ∷ 97 ∷ 81 ∷ 98 ∷ 8 ∷ 13 ∷ 15 ∷ end_of 3 17)

one_unit : (unit : ℕ) → unit < 65536 → AreUnits (unit ∷ [])
one_unit unit h zero = h
one_unit unit h (suc i) = omega arith

swapped-canon : canon swapped ≡ swapped_file
unfolding canon
swapped-canon = refl

follows : FollowsRules swapped_file
follows =
    let a = one_unit 97 (omega arith) in
    let b = one_unit 98 (omega arith) in
    let fits : Fits swapped = record { nodes_fit = omega arith; depth_fits = omega arith; payload_fits = omega arith } in
    subst FollowsRules swapped-canon (canonical_follows_rules swapped (a, b, refl, (b, a, tt, tt)) fits).1

same_head : (m n : ℕ) (ms ns : List ℕ) → m ∷ ms ≡ n ∷ ns → m ≡ n
same_head m n ms ns e = cc

-- an array with a reference to no object
abbrev stray_file : List ℕ
stray_file = header ++ (161 ∷ 1 ∷ 8 ∷ end_of 1 10)

numbers_below : (held : Content) → held ≡ holds_list (1 ∷ []) → AllByRecursion (λ reference. reference < 1) (references_of held) → ⊥
numbers_below held e numbers =
    let below = subst (λ (held : Content). AllByRecursion (λ reference. reference < 1) (references_of held)) e numbers in
    let first : 1 < 1 = below.0 in
    omega arith

breaks-c0 : ReadsWithinLimits stray_file → ⊥
unfolding what_holds object_at octets_at marked_object list_object content count_of_content
breaks-c0 h =
    let read = h.read 0 (omega arith) in
    let top : Holds stray_file 0 (holds_list (1 ∷ [])) = record { listed = omega arith; reads = refl } in
    numbers_below read.held (same_held stray_file 0 read.held (holds_list (1 ∷ [])) read.holds top) read.numbers

-- an empty dictionary, with 1 in the first byte of the trailer
abbrev slack_file : List ℕ
slack_file = header ++ (208 ∷ 8 ∷ end_with 1 1 1 9)

breaks-c1 : HasPlainTrailer slack_file → ⊥
breaks-c1 h = let first = same_head 1 0 (replicate 5 0) (replicate 5 0) h.slack in omega arith

-- an array of one boolean, with a reference of two bytes
abbrev wide_file : List ℕ
wide_file = header ++ (161 ∷ 0 ∷ 1 ∷ 9 ∷ 8 ∷ 11 ∷ end_with 0 2 2 12)

breaks-c2 : HasLeastWidths wide_file → ⊥
breaks-c2 h = let reference = h.reference in omega arith

-- an array of one boolean, with a byte between the two objects
abbrev unused_file : List ℕ
unused_file = header ++ (161 ∷ 1 ∷ 0 ∷ 9 ∷ 8 ∷ 11 ∷ end_of 2 12)

breaks-c3 : Adjoins unused_file 1 → ⊥
unfolding span_of object_at octets_at marked_object list_object content count_of_content simple_object
breaks-c3 h = let touches = h.next 0 8 10 11 12 refl refl refl in omega arith

-- a string of one unit, with its count in a byte of its own
abbrev long_head_file : List ℕ
long_head_file = header ++ (95 ∷ 16 ∷ 1 ∷ 97 ∷ 8 ∷ end_of 1 12)

same_octets : (xs ys : List ℕ) → ◌≡◌ {A = Result (List ℕ) ObjectFault} (Ok xs) (Ok ys) → xs ≡ ys
same_octets xs ys e = cc

same_read : (a b : Content) (xs ys : List ℕ) → ◌≡◌ {A = Result (Content × List ℕ) ObjectFault} (Ok (a, xs)) (Ok (b, ys)) → ◌≡◌ {A = Content × List ℕ} (a, xs) (b, ys)
same_read a b xs ys e = cc

not_shortest : IsShortest long_head_file 0 → ⊥
unfolding octets_at marked_object ascii_object content count_of_content count_spelled
not_shortest x =
    let octets = same_octets (95 ∷ 16 ∷ 1 ∷ 97 ∷ []) x.octets x.stands in
    let read = ap (object_in 1) octets ∙ x.reads in
    let both = same_read (holds_scalar (text (97 ∷ []))) x.held [] x.behind read in
    let spelled = octets ∙ x.spelled ∙ ap (λ (p : Content × List ℕ). spelling_of 1 p.0 ++ p.1) (sym both) in
    omega (arith, same_head 95 81 (16 ∷ 1 ∷ 97 ∷ []) (97 ∷ []) spelled)

breaks-c4 : IsSpelledCanonically long_head_file 0 → ⊥
unfolding object_at octets_at marked_object ascii_object content count_of_content count_spelled
breaks-c4 h = not_shortest (h refl)

-- a dictionary with the key b before the key a
abbrev descending_file : List ℕ
descending_file = header ++ (210 ∷ 1 ∷ 2 ∷ 2 ∷ 1 ∷ 81 ∷ 98 ∷ 81 ∷ 97 ∷ 8 ∷ 13 ∷ 15 ∷ end_of 3 17)

breaks-c5 : HasAscendingKeys descending_file 0 → ⊥
unfolding what_holds object_at octets_at marked_object table_object ascii_object content count_of_content IsStrictlySortedBy
breaks-c5 h =
    let b : Holds descending_file 1 (holds_scalar (text (98 ∷ []))) = record { listed = omega arith; reads = refl } in
    let a : Holds descending_file 2 (holds_scalar (text (97 ∷ []))) = record { listed = omega arith; reads = refl } in
    let sorted = h (1 ∷ 2 ∷ []) (2 ∷ 1 ∷ []) ((98 ∷ []) ∷ (97 ∷ []) ∷ []) refl (b, (a, refl)) in
    let e : Greater ≡ Less = sorted.0.0 in
    absurd (cc)

-- an array with the string a twice, each in an object of its own
abbrev repeat_file : List ℕ
repeat_file = header ++ (162 ∷ 1 ∷ 2 ∷ 81 ∷ 97 ∷ 81 ∷ 97 ∷ 8 ∷ 11 ∷ 13 ∷ end_of 3 15)

breaks-c6 : IsNoRepeat repeat_file 2 → ⊥
unfolding what_holds object_at octets_at marked_object ascii_object content count_of_content
breaks-c6 h = h (text (97 ∷ [])) refl 1 (omega arith) refl

-- the dictionary has two keys, which fit into the file
keys_counted : keys_before descending_file 3 ≡ 2
unfolding what_holds object_at octets_at marked_object table_object ascii_object content count_of_content
keys_counted = refl

keys_measured : marked_length descending_file 0 (false ∷ true ∷ true ∷ []) ≡ 2
unfolding what_holds object_at octets_at marked_object table_object ascii_object content count_of_content
keys_measured = refl

-- an array of two strings, the first of which is object 2
abbrev unordered_file : List ℕ
unordered_file = header ++ (162 ∷ 2 ∷ 1 ∷ 81 ∷ 97 ∷ 81 ∷ 98 ∷ 8 ∷ 11 ∷ 13 ∷ end_of 3 15)

-- object 1 would be next, but object 0 refers to object 2
turns-c7 : TurnsAt unordered_file 0
unfolding what_holds object_at octets_at marked_object list_object content count_of_content
turns-c7 =
    let top : Holds unordered_file 0 (holds_list (2 ∷ 1 ∷ [])) = record { listed = omega arith; reads = refl } in
    record {
      entries = 0 ∷ [];
      number = 2;
      left = held_by 0 (1 ∷ []);
      comes = begins (holds_list (2 ∷ 1 ∷ [])) top;
      other = λ _ order. elim (new_or_known (0 ∷ []) 1 (AreBelow-new [] 0 AreBelow-none) unordered_file 2 order) [
        | inl new ↦ omega arith
        | inr known ↦ (let below = known.0 in omega arith)
      ];
    }

breaks-c7 : IsNumberedInPreorder unordered_file → ⊥
breaks-c7 = TurnsAt-unnumbered unordered_file 0 turns-c7

-- an array with an empty array twice, both times object 1
abbrev twice_file : List ℕ
twice_file = header ++ (162 ∷ 1 ∷ 1 ∷ 160 ∷ 8 ∷ 11 ∷ end_of 2 12)

turns-twice : TurnsAt twice_file 0
unfolding what_holds object_at octets_at marked_object list_object content count_of_content
turns-twice =
    let top : Holds twice_file 0 (holds_list (1 ∷ 1 ∷ [])) = record { listed = omega arith; reads = refl } in
    let inner : Holds twice_file 1 (holds_list []) = record { listed = omega arith; reads = refl } in
    let first = AreBelow-new [] 0 AreBelow-none in
    let second = AreBelow-new (0 ∷ []) 1 first in
    record {
      entries = 0 ∷ 1 ∷ [];
      number = 1;
      left = [];
      comes = goes_on (0 ∷ []) 0 1 (holds_list []) (held_by 0 (1 ∷ [])) (begins (holds_list (1 ∷ 1 ∷ [])) top) (inl first) inner;
      other = λ _ order. elim (new_or_known (0 ∷ 1 ∷ []) 2 second twice_file 1 order) [
        | inl new ↦ omega arith
        | inr known ↦ (let e = same_held twice_file 1 (holds_scalar known.1.0) (holds_list []) known.1.1 inner in cc)
      ];
    }

-- an empty array, and a string that is in no container
abbrev over_file : List ℕ
over_file = header ++ (160 ∷ 81 ∷ 97 ∷ 8 ∷ 9 ∷ end_of 2 11)

leaves-over : LeavesOver over_file
unfolding what_holds object_at octets_at marked_object list_object content count_of_content
leaves-over = record {
  entries = 0 ∷ [];
  comes = begins (holds_list []) (record { listed = omega arith; reads = refl });
  object = 1;
  over = omega arith;
  missed = λ among. (let below = (AreBelow-new [] 0 AreBelow-none 1).0 among in omega arith);
}

-- the files that break a rule have the layout
all-laid : IsLaid stray_file × IsLaid slack_file × IsLaid wide_file × IsLaid unused_file × IsLaid long_head_file × IsLaid descending_file × IsLaid repeat_file × IsLaid unordered_file × IsLaid twice_file × IsLaid over_file
all-laid = (
  record { long = omega arith; headed = refl; trailed = omega arith },
  record { long = omega arith; headed = refl; trailed = omega arith },
  record { long = omega arith; headed = refl; trailed = omega arith },
  record { long = omega arith; headed = refl; trailed = omega arith },
  record { long = omega arith; headed = refl; trailed = omega arith },
  record { long = omega arith; headed = refl; trailed = omega arith },
  record { long = omega arith; headed = refl; trailed = omega arith },
  record { long = omega arith; headed = refl; trailed = omega arith },
  record { long = omega arith; headed = refl; trailed = omega arith },
  record { long = omega arith; headed = refl; trailed = omega arith },
)
