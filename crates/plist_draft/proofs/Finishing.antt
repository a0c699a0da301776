-- The file of a draft has the contents of the draft's objects, so it encodes what they encode.
use Rattle.std.proofs.Common.{◌≡◌, ℕ, ◌+◌, ◌*◌, ◌<◌, ◌≤◌, List, [], ◌∷◌, ◌++◌, length, get_or, zero, suc, Ok, refl, sym, ap, subst, ◌∙◌, arith, length-append, append_assoc}
use Rattle.std.specs.List.{AllByRecursion, concat}
use Rattle.std.proofs.lemmas.List.{length-map, get_or-map}
use Rattle.std.proofs.lemmas.Option.{slice_get_within, get_or_from_slice_get}
use Rattle.plist_value.specs.Plist.{AllUnder, AreOctets, Plist, scalar, list, table, Items, no_items, item, Pairs, no_pairs, pair, IsPlist}
use Rattle.plist_value.specs.Limits.{Fits}
use Rattle.plist_object.specs.Layout.{header, Trailer, trailer_of}
use Rattle.plist_object.specs.Objects.{Content, object_in}
use Rattle.plist_object.specs.Places.{Holds}
use Rattle.plist_object.specs.Shortest.{spelling_of}
use Rattle.plist_object.specs.Spelling.{references}
use Rattle.plist_object.specs.Spelled.{Spells, SpellItems, SpellPairs, IsBinary}
use Rattle.plist_object.specs.Files.{starts, trailer_with}
use Rattle.plist_draft.specs.Stored.{IsKept, spellings, draft_file, helds_at, Stores}
use Rattle.plist_draft.specs.Encoded.{HasContent, SpellsBy, SpellItemsBy, SpellPairsBy, SpellsIn, Shows}
use Rattle.plist_object.proofs.Files.{length-starts, before_trailer, length-file_with, CanStand, trailer_of-file, is_laid, object_at-file}
use Rattle.plist_draft.proofs.Storing.{object_in-kept}
use Rattle.plist_draft.proofs.Telling.{SpellsBy-encoded}
use Rattle.plist_object.proofs.Readable.{what_holds-at}

-- an object has at least one byte
some_octet : (held : Content) (octets : List ℕ) → object_in 4 (octets ++ []) ≡ Ok (held, []) → 1 ≤ length octets
some_octet held [] read = absurd (cc)
some_octet held (x ∷ octets) read = omega arith

kept_at : (helds : List Content) (i : ℕ) (held : Content) → AllByRecursion IsKept helds → HasContent helds i held → IsKept held
kept_at [] i held all tells = absurd (let within = slice_get_within [] i held tells in omega arith)
kept_at (first ∷ helds) zero held all tells = let same : first ≡ held = cc in subst IsKept same all.0
kept_at (first ∷ helds) (suc i) held all tells = kept_at helds i held all.1 tells

each_some : (helds : List Content) (i : ℕ) → AllByRecursion IsKept helds → i < length (spellings helds) → 1 ≤ length (get_or (spellings helds) i [])
each_some [] i all within = absurd (omega arith)
each_some (held ∷ helds) zero all within = some_octet held (spelling_of 4 held) (object_in-kept held [] all.0)
each_some (held ∷ helds) (suc i) all within = each_some helds i all.1 (omega arith)

-- what encodes a value is one of the objects
spells_within : (helds : List Content) (i : ℕ) (v : Plist) → SpellsIn helds i v → i < length helds
spells_within helds i (scalar s) h = slice_get_within helds i _ h
spells_within helds i (list vs) h = slice_get_within helds i _ h.1.0
spells_within helds i (table ps) h = slice_get_within helds i _ h.1.1.1.0

-- a file encodes what its objects encode by their contents
mutual
  Spells-holds : (f : List ℕ) (i : ℕ) (v : Plist) → SpellsBy (Holds f) i v → Spells f i v
  Spells-holds f i (scalar s) h = h
  Spells-holds f i (list vs) h = (h.0, (h.1.0, SpellItems-holds f h.0 vs h.1.1))
  Spells-holds f i (table ps) h =
      (h.0, (h.1.0, (h.1.1.0, (h.1.1.1.0, (h.1.1.1.1.0, SpellPairs-holds f h.1.1.0 ps h.1.1.1.1.1)))))

  SpellItems-holds : (f refs : List ℕ) (vs : Items) → SpellItemsBy (Holds f) refs vs → SpellItems f refs vs
  SpellItems-holds f refs no_items h = h
  SpellItems-holds f [] (item v vs) h = absurd h
  SpellItems-holds f (i ∷ refs) (item v vs) h = (Spells-holds f i v h.0, SpellItems-holds f refs vs h.1)

  SpellPairs-holds : (f : List ℕ) (rows : List (ℕ × ℕ)) (ps : Pairs) → SpellPairsBy (Holds f) rows ps → SpellPairs f rows ps
  SpellPairs-holds f rows no_pairs h = h
  SpellPairs-holds f [] (pair key v ps) h = absurd h
  SpellPairs-holds f (row ∷ rows) (pair key v ps) h = (h.0, Spells-holds f row.1 v h.1, SpellPairs-holds f rows ps h.2)

module _ (helds : List Content) (top : ℕ) (kept : AllByRecursion IsKept helds) (can : CanStand 4 4 top (spellings helds)) where
  Holds-encoded : (i : ℕ) (held : Content) → HasContent helds i held → Holds (draft_file top helds) i held
  unfolding draft_file
  Holds-encoded i held tells =
      let f = draft_file top helds in
      let within = slice_get_within helds i held tells in
      let listed : length (spellings helds) ≡ length helds = length-map helds (spelling_of 4) in
      let below : i < length (spellings helds) = omega arith in
      let read = object_at-file 4 4 top (spellings helds) can i below in
      let same : get_or helds i held ≡ held = get_or_from_slice_get helds i held held tells in
      let octets : get_or (spellings helds) i [] ≡ spelling_of 4 held = get_or-map (spelling_of 4) helds i held [] within ∙ ap (spelling_of 4) same in
      let back = object_in-kept held read.0 (kept_at helds i held kept tells) in
      record {
        listed = subst (λ (n : ℕ). i < n) (sym (ap (λ (x : Trailer). x.count) (trailer_of-file 4 4 top (spellings helds) can))) below;
        reads = what_holds-at f i held read.0 (read.1 ∙ ap (λ (xs : List ℕ). object_in 4 (xs ++ read.0)) octets ∙ back);
      }

  file-spells : (v : Plist) → SpellsIn helds top v → Spells (draft_file top helds) (trailer_of (draft_file top helds)).top v
  unfolding draft_file
  file-spells v encoded =
      let f = draft_file top helds in
      let at_top : Spells f top v = Spells-holds f top v (SpellsBy-encoded (HasContent helds) (Holds f) Holds-encoded top v encoded) in
      subst (λ (i : ℕ). Spells f i v) (sym (ap (λ (x : Trailer). x.top) (trailer_of-file 4 4 top (spellings helds) can))) at_top

-- the appended parts are those of the file
pub file-parts : (octets offsets begun f : List ℕ) (top : ℕ) → Stores octets offsets (helds_at octets offsets) → begun ≡ octets ++ references 4 offsets → f ≡ begun ++ trailer_with 4 4 (length offsets) top (length octets) → f ≡ draft_file top (helds_at octets offsets)
unfolding draft_file
file-parts octets offsets begun f top stored entries ended =
    let helds = helds_at octets offsets in
    let body = concat (spellings helds) in
    let counted : length offsets ≡ length (spellings helds) = ap length stored.placed ∙ length-starts 8 (spellings helds) in
    let size : length octets ≡ 8 + length body = ap length stored.spelled ∙ length-append header body in
    let tail : trailer_with 4 4 (length offsets) top (length octets) ≡ trailer_with 4 4 (length (spellings helds)) top (8 + length body) = rw (counted, size) refl in
    let front : begun ≡ header ++ (body ++ references 4 (starts 8 (spellings helds))) = entries ∙ ap (λ (xs : List ℕ). xs ++ references 4 offsets) stored.spelled ∙ append_assoc header body (references 4 offsets) ∙ ap (λ (xs : List ℕ). header ++ (body ++ references 4 xs)) stored.placed in
    ended ∙ ap (λ (xs : List ℕ). begun ++ xs) tail ∙ ap (λ (xs : List ℕ). xs ++ trailer_with 4 4 (length (spellings helds)) top (8 + length body)) front ∙ sym (before_trailer header body (references 4 (starts 8 (spellings helds))) (trailer_with 4 4 (length (spellings helds)) top (8 + length body)))

-- a file may consist of the objects of a draft, with one of them at its top
can_stand : (octets offsets f : List ℕ) (top : ℕ) → Stores octets offsets (helds_at octets offsets) → AllUnder 4294967296 offsets → length f < 18446744073709551616 → f ≡ draft_file top (helds_at octets offsets) → top < length (helds_at octets offsets) → CanStand 4 4 top (spellings (helds_at octets offsets))
unfolding draft_file
can_stand octets offsets f top stored short long is within =
    let helds = helds_at octets offsets in
    let listed : length (spellings helds) ≡ length helds = length-map helds (spelling_of 4) in
    let size : length f ≡ 8 + length (concat (spellings helds)) + 4 * length (spellings helds) + 32 = ap length is ∙ length-file_with 4 4 top (spellings helds) in
    record {
      offset_width_least = omega arith;
      offset_width_most = omega arith;
      reference_width_least = omega arith;
      reference_width_most = omega arith;
      top_below = omega arith;
      each = λ i h. each_some helds i stored.kept h;
      starts_fit = λ i h. subst (AllUnder 4294967296) stored.placed short i;
      count_fits = omega arith;
      table_fits = omega arith;
    }

-- the finished bytes are a binary file of the value that the top object encodes
pub finished : (octets offsets f : List ℕ) (top : ℕ) (v : Plist) → Stores octets offsets (helds_at octets offsets) → AllUnder 4294967296 offsets → length f < 18446744073709551616 → f ≡ draft_file top (helds_at octets offsets) → AreOctets f → IsPlist v → Fits v → SpellsIn (helds_at octets offsets) top v → IsBinary f v
unfolding draft_file
finished octets offsets f top v stored short long is in_range valid fits encoded =
    let helds = helds_at octets offsets in
    let can = can_stand octets offsets f top stored short long is (spells_within helds top v encoded) in
    record {
      octets = in_range;
      laid = rw is (is_laid 4 4 top (spellings helds) can);
      spells = rw is (file-spells helds top stored.kept can v encoded);
      valid = valid;
      fits = fits;
    }

-- the file contains the objects of the draft
pub shows : (octets offsets f : List ℕ) (top : ℕ) → Stores octets offsets (helds_at octets offsets) → AllUnder 4294967296 offsets → length f < 18446744073709551616 → f ≡ draft_file top (helds_at octets offsets) → top < length (helds_at octets offsets) → Shows f top (helds_at octets offsets)
unfolding draft_file
shows octets offsets f top stored short long is within =
    let helds = helds_at octets offsets in
    let can = can_stand octets offsets f top stored short long is within in
    record {
      topmost = ap (λ xs. (trailer_of xs).top) is ∙ ap (λ (x : Trailer). x.top) (trailer_of-file 4 4 top (spellings helds) can);
      holds = λ i held tells. rw is (Holds-encoded helds top stored.kept can i held tells);
    }
