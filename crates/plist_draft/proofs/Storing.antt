-- Objects appended to stored objects are read back with them.
use Rattle.std.proofs.Common.{◌≡◌, ℕ, ◌+◌, List, [], ◌∷◌, ◌++◌, length, map, suc, Ok, refl, sym, ap, subst, ◌∙◌, arith, length-append, append_assoc}
use Rattle.std.specs.List.{AllByRecursion, concat, zip}
use Rattle.std.specs.List.Sorted.{IsPermutation}
use Rattle.std.proofs.lemmas.List.{drop_at, append-nil, map-append, length-map}
use Rattle.std.proofs.lemmas.List.Folds.{concat-append}
use Rattle.std.proofs.lemmas.Option.{slice_get-map}
use Rattle.plist_value.specs.Plist.{AllUnder, Scalar, IsScalar, scalar, Items, list, Pairs, table}
use Rattle.plist_object.specs.Layout.{header}
use Rattle.plist_object.specs.Objects.{Content, holds_scalar, holds_list, holds_table, object_in}
use Rattle.plist_object.specs.Shortest.{spelling_of}
use Rattle.plist_object.specs.Sizes.{IsSmall}
use Rattle.plist_object.proofs.ReadReferences.{AllFit, object_in-list, object_in-table}
use Rattle.plist_object.proofs.ReadScalars.{object_in-scalar}
use Rattle.plist_object.specs.Files.{starts}
use Rattle.plist_draft.specs.Stored.{IsKept, spellings, held_from, helds_at, Stores, StandsAgain}
use Rattle.plist_draft.specs.Encoded.{HasContent, Keeps, SpellsIn, SpellItemsIn, SpellPairsIn}
use Rattle.plist_draft.proofs.Telling.{appending_keeps, HasContent-last}

-- numbers below 2^32 fit into four bytes
fit_four : (refs : List ℕ) → AllUnder 4294967296 refs → AllFit 4 refs
fit_four [] under = tt
fit_four (r ∷ refs) under = (under 0, fit_four refs (λ i. under (suc i)))

-- an object that a draft may contain is read back from its encoding, whatever follows it
pub object_in-kept : (held : Content) (rest : List ℕ) → IsKept held → object_in 4 (spelling_of 4 held ++ rest) ≡ Ok (held, rest)
object_in-kept (holds_scalar s) rest kept = object_in-scalar 4 s rest kept.0 kept.1
object_in-kept (holds_list refs) rest kept = object_in-list 4 refs rest kept.few (fit_four refs kept.fit)
object_in-kept (holds_table keys values) rest kept =
    object_in-table 4 keys values rest kept.1.few kept.0 (fit_four keys kept.1.fit) (fit_four values kept.2.fit)

held_from-kept : (before rest : List ℕ) (held : Content) → IsKept held → held_from (before ++ (spelling_of 4 held ++ rest)) (length before) ≡ held
held_from-kept before rest held kept =
    rw (drop_at before (spelling_of 4 held ++ rest) (length before) refl, object_in-kept held rest kept) refl

-- objects stored one after another are read back, whatever comes before them
read_back : (before : List ℕ) (helds : List Content) → AllByRecursion IsKept helds → map (held_from (before ++ concat (spellings helds))) (starts (length before) (spellings helds)) ≡ helds
read_back before [] kept = refl
read_back before (held ∷ helds) kept =
    let spelled = spelling_of 4 held in
    let rest = concat (spellings helds) in
    let first = held_from-kept before rest held kept.0 in
    let others : map (held_from ((before ++ spelled) ++ rest)) (starts (length (before ++ spelled)) (spellings helds)) ≡ helds = read_back (before ++ spelled) helds kept.1 in
    let moved : map (held_from (before ++ (spelled ++ rest))) (starts (length before + length spelled) (spellings helds)) ≡ helds =
    subst (λ (xs : List ℕ). map (held_from xs) (starts (length before + length spelled) (spellings helds)) ≡ helds) (append_assoc before spelled rest)
    (subst (λ (n : ℕ). map (held_from ((before ++ spelled) ++ rest)) (starts n (spellings helds)) ≡ helds) (length-append before spelled) others) in
    rw (first, moved) refl

pub helds_at-stored : (octets offsets : List ℕ) (helds : List Content) → Stores octets offsets helds → helds_at octets offsets ≡ helds
unfolding helds_at
helds_at-stored octets offsets helds stored =
    rw (stored.spelled, stored.placed) (read_back header helds stored.kept)

starts-append : (k : ℕ) (objects others : List (List ℕ)) → starts k (objects ++ others) ≡ starts k objects ++ starts (k + length (concat objects)) others
starts-append k [] others = let none : k + 0 ≡ k = omega arith in rw none refl
starts-append k (o ∷ os) others =
    let next : k + length o + length (concat os) ≡ k + length (o ++ concat os) = rw length-append (omega arith) in
    ap (λ (xs : List ℕ). k ∷ xs) (starts-append (k + length o) os others ∙ ap (λ (n : ℕ). starts (k + length o) os ++ starts n others) next)

AllByRecursion-last : (helds : List Content) (held : Content) → AllByRecursion IsKept helds → IsKept held → AllByRecursion IsKept (helds ++ (held ∷ []))
AllByRecursion-last [] held all last = (last, tt)
AllByRecursion-last (first ∷ helds) held all last = (all.0, AllByRecursion-last helds held all.1 last)

stored-last : (octets offsets : List ℕ) (helds : List Content) (held : Content) → Stores octets offsets helds → IsKept held → Stores (octets ++ spelling_of 4 held) (offsets ++ (length octets ∷ [])) (helds ++ (held ∷ []))
stored-last octets offsets helds held stored kept =
    let spelled = spelling_of 4 held in
    let spread : spellings (helds ++ (held ∷ [])) ≡ spellings helds ++ (spelled ∷ []) = map-append (spelling_of 4) helds (held ∷ []) in
    let joined : concat (spellings helds ++ (spelled ∷ [])) ≡ concat (spellings helds) ++ spelled = concat-append (spellings helds) (spelled ∷ []) ∙ ap (λ (xs : List ℕ). concat (spellings helds) ++ xs) (append-nil spelled) in
    let size : length octets ≡ 8 + length (concat (spellings helds)) = ap length stored.spelled ∙ length-append header (concat (spellings helds)) in
    record {
      spelled = rw (stored.spelled, spread, joined, append_assoc) refl;
      placed = rw (spread, starts-append, sym size, stored.placed) refl;
      kept = AllByRecursion-last helds held stored.kept kept;
    }

-- one more object with this content was appended
pub record PutsHeld (octets offsets octets_after places_after : List ℕ) (held : Content) : Type 0 where
  pub stored : Stores octets_after places_after (helds_at octets_after places_after)
  pub put : helds_at octets_after places_after ≡ helds_at octets offsets ++ (held ∷ [])
  pub number : length offsets ≡ length (helds_at octets offsets)
  pub encoded : HasContent (helds_at octets_after places_after) (length offsets) held
  pub keeps : Keeps (helds_at octets offsets) (helds_at octets_after places_after)

pub length-helds_at : (octets offsets : List ℕ) → length (helds_at octets offsets) ≡ length offsets
unfolding helds_at
length-helds_at octets offsets = length-map offsets (held_from octets)

pub puts_held : (octets offsets octets_after places_after : List ℕ) (held : Content) → Stores octets offsets (helds_at octets offsets) → IsKept held → octets_after ≡ octets ++ spelling_of 4 held → places_after ≡ offsets ++ (length octets ∷ []) → PutsHeld octets offsets octets_after places_after held
puts_held octets offsets octets_after places_after held stored kept spelled placed =
    let last = stored-last octets offsets (helds_at octets offsets) held stored kept in
    let after : Stores octets_after places_after (helds_at octets offsets ++ (held ∷ [])) = rw (spelled, placed) last in
    let put = helds_at-stored octets_after places_after (helds_at octets offsets ++ (held ∷ [])) after in
    record {
      stored = rw put after;
      put = put;
      number = sym (length-helds_at octets offsets);
      encoded = rw (put, sym (length-helds_at octets offsets)) (HasContent-last (helds_at octets offsets) held);
      keeps = rw put (appending_keeps (helds_at octets offsets) (held ∷ []));
    }

-- an appended scalar, array or dictionary encodes its value
module _ (octets offsets octets_after places_after : List ℕ) (number : ℕ) (next : number ≡ length offsets) where
  pub spells-scalar : (s : Scalar) → PutsHeld octets offsets octets_after places_after (holds_scalar s) → SpellsIn (helds_at octets_after places_after) number (scalar s)
  spells-scalar s puts = rw next puts.encoded

  pub spells-list : (refs : List ℕ) (vs : Items) → PutsHeld octets offsets octets_after places_after (holds_list refs) → SpellItemsIn (helds_at octets offsets) refs vs → SpellsIn (helds_at octets_after places_after) number (list vs)
  spells-list refs vs puts encoded = (refs, (rw next puts.encoded, puts.keeps.items refs vs encoded))

  pub spells-table : (keys values : List ℕ) (rows : List (ℕ × ℕ)) (ps : Pairs) → PutsHeld octets offsets octets_after places_after (holds_table keys values) → IsPermutation (zip keys values) rows → SpellPairsIn (helds_at octets offsets) rows ps → SpellsIn (helds_at octets_after places_after) number (table ps)
  spells-table keys values rows ps puts moved encoded =
      (keys, (values, (rows, (rw next puts.encoded, (moved, puts.keeps.pairs rows ps encoded)))))

-- the header alone contains no objects
pub helds_at-none : (octets offsets : List ℕ) → offsets ≡ [] → helds_at octets offsets ≡ []
unfolding helds_at
helds_at-none octets offsets none = rw none refl

pub stores_none : (octets offsets : List ℕ) → octets ≡ header → offsets ≡ [] → Stores octets offsets (helds_at octets offsets)
stores_none octets offsets begun none =
    rw (helds_at-none octets offsets none) (record { spelled = begun; placed = none; kept = tt })

-- an object that begins with the encoding of a scalar contains this scalar
pub held-again : (octets offsets : List ℕ) (number : ℕ) (s : Scalar) → IsScalar s → IsSmall s → StandsAgain octets offsets number (spelling_of 4 (holds_scalar s)) → HasContent (helds_at octets offsets) number (holds_scalar s)
unfolding helds_at
held-again octets offsets number s valid small again =
    rw (slice_get-map (held_from octets) offsets number, again.placed, again.stands, object_in-kept (holds_scalar s) again.behind (valid, small)) refl
