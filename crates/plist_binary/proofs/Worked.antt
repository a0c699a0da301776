-- Small files: the value that one encodes, and where faults are true in others.
use Rattle.std.proofs.Common.{◌≡◌, ℕ, zero, suc, ◌+◌, ◌*◌, ◌<◌, ◌≤◌, true, List, [], ◌∷◌, ◌++◌, replicate, refl, sym, subst, ⊎_elim, length, take, nat_lt, not-suc-le-zero, lit<, lit≤, inl, arith}
use Rattle.std.specs.List.{list_all, Contains}
use Rattle.std.proofs.lemmas.Bool.{and_parts, ltb-true}
use Rattle.std.specs.List.Sorted.{IsPermutation}
use Rattle.plist_value.specs.Plist.{text, flag, scalar, list, no_items, item, no_pairs, pair, AllUnder}
use Rattle.plist_value.specs.Rows.{a, b, swapped}
use Rattle.plist_object.specs.Layout.{header, Trailer, trailer_of, IsTrailer, IsLaid}
use Rattle.plist_object.specs.Objects.{Content, holds_scalar, holds_list, holds_table, marked_object, content, count_of_content, simple_object, ascii_object, list_object, table_object}
use Rattle.plist_object.specs.Places.{Holds, what_holds, object_at, octets_at}
use Rattle.plist_object.specs.References.{references_of}
use Rattle.plist_object.specs.Spelled.{SpellPairs, IsBinary}
use Rattle.plist_object.proofs.Ascending.{Among-contains, Contains-among}
use Rattle.plist_object.proofs.Uniqueness.{same_held}
use Rattle.plist_binary.specs.declared.fault.BinaryFault.TheVariants.{TooShort, BadTrailer, NullObject, BadReference, KeyNotText, DuplicateKey, Cycle, TooDeep, TooManyNodes, TooMuchPayload}
use Rattle.plist_binary.specs.Begins.{Begins}
use Rattle.plist_binary.specs.Faults.{Stands, StandsWithin}
use Rattle.plist_binary.specs.Paths.{Refers, Leads}
use Rattle.plist_binary.proofs.Beginning.{Comes-refers}

all_under : (bound : ℕ) (xs : List ℕ) → 0 < bound → list_all (λ x. nat_lt x bound) xs ≡ true → AllUnder bound xs
all_under bound [] h e i = h
all_under bound (x ∷ xs) h e zero = ltb-true x bound (and_parts (nat_lt x bound) (list_all (λ x. nat_lt x bound) xs) e).0
all_under bound (x ∷ xs) h e (suc i) =
    all_under bound xs h (and_parts (nat_lt x bound) (list_all (λ x. nat_lt x bound) xs) e).1 i

-- the end of a file with one-byte offsets and references: the number of objects, object 0 as the
-- top, and where the offset table begins
unfoldable end_of : ℕ → ℕ → List ℕ
end_of count place = replicate 6 0 ++ (1 ∷ 1 ∷ (replicate 7 0 ++ (count ∷ (replicate 15 0 ++ (place ∷ [])))))

unfoldable trailer : ℕ → ℕ → Trailer
trailer count place = record { offset_width = 1; reference_width = 1; count = count; top = 0; table = place }

laid : (f : List ℕ) (count place : ℕ) → trailer_of f ≡ trailer count place → 1 ≤ count → 9 ≤ place → place + count * 1 + 32 ≡ length f → 42 ≤ length f → take 8 f ≡ header → IsLaid f
unfolding trailer
laid f count place is some behind ends long headed = record {
  long = long;
  headed = headed;
  trailed = subst (IsTrailer (length f)) (sym is) record {
    offset_width_least = lit≤ tt;
    offset_width_most = lit≤ tt;
    reference_width_least = lit≤ tt;
    reference_width_most = lit≤ tt;
    some_object = some;
    top_below = some;
    table_behind = behind;
    ends = ends;
  };
}

-- {b = a; a = b}, the later key first
unfoldable unsorted : List ℕ
unsorted = header ++ (210 ∷ 1 ∷ 2 ∷ 2 ∷ 1 ∷ 81 ∷ 98 ∷ 81 ∷ 97 ∷ 8 ∷ 13 ∷ 15 ∷ end_of 3 17)

unsorted-laid : IsLaid unsorted
unfolding unsorted end_of trailer
unsorted-laid = laid unsorted 3 17 refl (lit≤ tt) (lit≤ tt) refl (lit≤ tt) refl

unsorted-table : Holds unsorted 0 (holds_table (1 ∷ 2 ∷ []) (2 ∷ 1 ∷ []))
unfolding unsorted end_of what_holds object_at octets_at marked_object table_object content count_of_content
unsorted-table = record { listed = lit< tt; reads = refl }

unsorted-b : Holds unsorted 1 (holds_scalar (text b))
unfolding unsorted end_of what_holds object_at octets_at marked_object ascii_object content count_of_content
unsorted-b = record { listed = lit< tt; reads = refl }

unsorted-a : Holds unsorted 2 (holds_scalar (text a))
unfolding unsorted end_of what_holds object_at octets_at marked_object ascii_object content count_of_content
unsorted-a = record { listed = lit< tt; reads = refl }

unsorted-binary : IsBinary unsorted swapped
unfolding unsorted end_of
unsorted-binary =
    let units_a = all_under 65536 a (lit< tt) refl in
    let units_b = all_under 65536 b (lit< tt) refl in
    let rows = (2, 1) ∷ (1, 2) ∷ [] in
    let moved : IsPermutation ((1, 2) ∷ (2, 1) ∷ []) rows = record { moves = (0, 1) ∷ []; below = (lit< tt, lit< tt, tt); is = refl } in
    let spell : SpellPairs unsorted rows (pair a (scalar (text b)) (pair b (scalar (text a)) no_pairs)) = (unsorted-a, unsorted-b, (unsorted-b, unsorted-a, refl)) in
    record {
      octets = all_under 256 unsorted (lit< tt) refl;
      laid = unsorted-laid;
      spells = (1 ∷ 2 ∷ [], (2 ∷ 1 ∷ [], (rows, (unsorted-table, (moved, spell)))));
      valid = (units_a, units_b, refl, (units_b, units_a, tt, tt));
      fits = record { nodes_fit = lit≤ tt; depth_fits = lit≤ tt; payload_fits = lit≤ tt };
    }

-- its first 41 bytes
short : Stands (take 41 unsorted) TooShort
unfolding unsorted end_of
short = lit< tt

-- all its bytes except the last
unended : Stands (take 51 unsorted) BadTrailer
unfolding unsorted end_of
unended = (lit≤ tt, refl, λ fits. not-suc-le-zero fits.offset_width_least)

-- the last value comes after the dictionary, both keys and the first value
unsorted-value : Begins unsorted (0 ∷ []) 1 4 6
unfolding unsorted end_of
unsorted-value =
    let units_a = all_under 65536 a (lit< tt) refl in
    let units_b = all_under 65536 b (lit< tt) refl in
    record {
      nodes_above = 0;
      payload_above = 0;
      above = (refl, refl, refl);
      new = λ among. Among-contains 0 [] among;
      deep = lit≤ tt;
      values = item (scalar (text b)) (item (scalar (text a)) (item (scalar (text a)) no_items));
      comes = record {
        held = holds_table (1 ∷ 2 ∷ []) (2 ∷ 1 ∷ []);
        holds = unsorted-table;
        front = 1 ∷ 2 ∷ 2 ∷ [];
        behind = [];
        all = refl;
        spell = (unsorted-b, (unsorted-a, (unsorted-a, refl)));
        valid = (units_b, (units_a, (units_a, tt)));
      };
      nodes_sum = refl;
      payload_sum = refl;
    }

-- with 7 bytes of payload allowed, those of the last value exceed them
unsorted-last : StandsWithin unsorted 5 7 (TooMuchPayload 1)
unfolding unsorted end_of what_holds object_at octets_at marked_object ascii_object content count_of_content
unsorted-last = record {
  laid = unsorted-laid;
  listed = lit< tt;
  before = 0 ∷ [];
  nodes = 4;
  payload = 6;
  begins = unsorted-value;
  shallow = lit< tt;
  fewer = lit< tt;
  within = lit≤ tt;
  above = lit< tt;
}

-- an array that contains an array that contains the first
circular : List ℕ
circular = header ++ (161 ∷ 1 ∷ 161 ∷ 0 ∷ 8 ∷ 10 ∷ end_of 2 12)

circular-first : Refers circular 0 1
unfolding circular end_of what_holds object_at octets_at marked_object list_object content count_of_content
circular-first = record { held = holds_list (1 ∷ []); holds = record { listed = lit< tt; reads = refl }; among = (0, lit< tt, refl) }

circular-second : Refers circular 1 0
unfolding circular end_of what_holds object_at octets_at marked_object list_object content count_of_content
circular-second = record { held = holds_list (0 ∷ []); holds = record { listed = lit< tt; reads = refl }; among = (0, lit< tt, refl) }

circular-cycle : Stands circular (Cycle 1)
unfolding circular end_of trailer
circular-cycle = record {
  ends = record {
    laid = laid circular 2 12 refl (lit≤ tt) (lit≤ tt) refl (lit≤ tt) refl;
    before = 0 ∷ [];
    leads = (circular-first, refl);
  };
  reference = 0;
  refers = circular-second;
  on_path = (1, lit< tt, refl);
}

-- an array whose item is the array itself: it has no node too many, however few are allowed
own : List ℕ
own = header ++ (161 ∷ 0 ∷ 8 ∷ end_of 1 10)

own-nodes : (few most : ℕ) → StandsWithin own (suc few) most (TooManyNodes 0) → ⊥
unfolding own end_of
own-nodes few most stands = none stands.before stands.payload stands.begins stands.new where
  none : (before : List ℕ) (payload : ℕ) → Begins own before 0 (suc few) payload → ¬ Contains before 0 → ⊥
  none [] payload begins new = omega (arith, begins.1)
  none (j ∷ before) payload begins new =
      let refers = Comes-refers 0 begins.comes (0, lit< tt, refl) in
      let only : j ≡ 0 = (let listed = refers.holds.listed in omega (arith, listed)) in
      new (Contains-among 0 (j ∷ before) (inl (sym only)))

-- an array whose item is no object
nowhere : List ℕ
nowhere = header ++ (161 ∷ 1 ∷ 8 ∷ end_of 1 10)

nowhere-reference : Stands nowhere (BadReference 0)
unfolding nowhere end_of trailer what_holds object_at octets_at marked_object list_object content count_of_content
nowhere-reference = record {
  ends = record { laid = laid nowhere 1 10 refl (lit≤ tt) (lit≤ tt) refl (lit≤ tt) refl; before = []; leads = refl };
  reference = 1;
  refers = record { held = holds_list (1 ∷ []); holds = record { listed = lit< tt; reads = refl }; among = (0, lit< tt, refl) };
  above = lit≤ tt;
}

-- a null
null : List ℕ
null = header ++ (0 ∷ 8 ∷ end_of 1 9)

null-object : Stands null (NullObject 0)
unfolding null end_of trailer what_holds object_at octets_at marked_object simple_object
null-object = record {
  ends = record { laid = laid null 1 9 refl (lit≤ tt) (lit≤ tt) refl (lit≤ tt) refl; before = []; leads = refl };
  listed = lit< tt;
  fails = refl;
}

-- a dictionary whose key is a boolean
flagged : List ℕ
flagged = header ++ (209 ∷ 1 ∷ 1 ∷ 9 ∷ 8 ∷ 11 ∷ end_of 2 12)

flagged-key : Stands flagged (KeyNotText 0)
unfolding flagged end_of trailer what_holds object_at octets_at marked_object table_object simple_object content count_of_content
flagged-key = record {
  ends = record { laid = laid flagged 2 12 refl (lit≤ tt) (lit≤ tt) refl (lit≤ tt) refl; before = []; leads = refl };
  keys = 1 ∷ [];
  values = 1 ∷ [];
  holds = record { listed = lit< tt; reads = refl };
  key = 1;
  among = (0, lit< tt, refl);
  held = holds_scalar (flag true);
  reads = record { listed = lit< tt; reads = refl };
  no_text = λ none. none;
}

-- nor is it too deep
own-deep : Stands own (TooDeep 0) → ⊥
unfolding own end_of
own-deep stands = none stands.ends.before stands.ends.leads stands.long stands.acyclic.0 where
  none : (before : List ℕ) → Leads own before 0 → length before ≡ 512 → ¬ Contains before 0 → ⊥
  none [] leads long new = omega (arith, long)
  none (j ∷ before) leads long new =
      let only : j ≡ 0 = (let listed = leads.0.holds.listed in omega (arith, listed)) in
      new (Contains-among 0 (j ∷ before) (inl (sym only)))

-- a dictionary with a duplicate key
twice : List ℕ
twice = header ++ (210 ∷ 1 ∷ 2 ∷ 3 ∷ 3 ∷ 81 ∷ 97 ∷ 81 ∷ 97 ∷ 9 ∷ 8 ∷ 13 ∷ 15 ∷ 17 ∷ end_of 4 18)

twice-key : Stands twice (DuplicateKey 0)
unfolding twice end_of trailer what_holds object_at octets_at marked_object table_object ascii_object content count_of_content
twice-key = record {
  ends = record { laid = laid twice 4 18 refl (lit≤ tt) (lit≤ tt) refl (lit≤ tt) refl; before = []; leads = refl };
  keys = 1 ∷ 2 ∷ [];
  values = 3 ∷ 3 ∷ [];
  holds = record { listed = lit< tt; reads = refl };
  first = 0;
  second = 1;
  apart = lit< tt;
  within = lit< tt;
  units = a;
  first_reads = record { listed = lit< tt; reads = refl };
  second_reads = record { listed = lit< tt; reads = refl };
}

-- an array that contains one empty array twice
unfoldable shared : List ℕ
shared = header ++ (162 ∷ 1 ∷ 1 ∷ 160 ∷ 8 ∷ 11 ∷ end_of 2 12)

shared-first : Holds shared 0 (holds_list (1 ∷ 1 ∷ []))
unfolding shared end_of what_holds object_at octets_at marked_object list_object content count_of_content
shared-first = record { listed = lit< tt; reads = refl }

shared-second : Holds shared 1 (holds_list [])
unfolding shared end_of what_holds object_at octets_at marked_object list_object content count_of_content
shared-second = record { listed = lit< tt; reads = refl }

-- the only references of that file
shared-refers : (i j : ℕ) → Refers shared i j → (i ≡ 0) × (j ≡ 1)
unfolding shared end_of
shared-refers zero j refers =
    let held = same_held shared 0 refers.held (holds_list (1 ∷ 1 ∷ [])) refers.holds shared-first in
    let among = Among-contains j (1 ∷ 1 ∷ []) (subst (λ (h : Content). Contains (references_of h) j) held refers.among) in
    (refl, ⊎_elim (λ e. e) (⊎_elim (λ e. e) absurd) among)
shared-refers (suc zero) j refers =
    let held = same_held shared 1 refers.held (holds_list []) refers.holds shared-second in
    absurd (Among-contains j [] (subst (λ (h : Content). Contains (references_of h) j) held refers.among))
shared-refers (suc (suc i)) j refers =
    let listed : suc (suc i) < 2 = refers.holds.listed in
    absurd (omega arith)

-- two nodes come before the second item
shared-again : Begins shared (0 ∷ []) 1 2 0
unfolding shared end_of
shared-again = record {
  nodes_above = 0;
  payload_above = 0;
  above = (refl, refl, refl);
  new = λ among. Among-contains 0 [] among;
  deep = lit≤ tt;
  values = item (list no_items) no_items;
  comes = record {
    held = holds_list (1 ∷ 1 ∷ []);
    holds = shared-first;
    front = 1 ∷ [];
    behind = [];
    all = refl;
    spell = (([], (shared-second, refl)), refl);
    valid = (tt, tt);
  };
  nodes_sum = refl;
  payload_sum = refl;
}

-- with two nodes allowed, the third is one too many
shared-third : StandsWithin shared 2 0 (TooManyNodes 1)
unfolding shared end_of trailer
shared-third = record {
  laid = laid shared 2 12 refl (lit≤ tt) (lit≤ tt) refl (lit≤ tt) refl;
  listed = lit< tt;
  before = 0 ∷ [];
  payload = 0;
  begins = shared-again;
  new = λ among. ⊎_elim (λ (same : 1 ≡ 0). cc) (λ none. none) (Among-contains 1 (0 ∷ []) among);
  within = lit≤ tt;
}

-- the object at the top is not one too many
shared-top : StandsWithin shared 2 0 (TooManyNodes 0) → ⊥
shared-top stands = top stands.before stands.payload stands.begins where
  top : (before : List ℕ) (payload : ℕ) → Begins shared before 0 2 payload → ⊥
  top [] payload begins = omega (arith, begins.1)
  top (j ∷ before) payload begins = omega (arith, (shared-refers j 0 (Comes-refers 0 begins.comes (0, lit< tt, refl))).1)
