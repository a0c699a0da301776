-- Contiguous pieces make up the bytes that they are in, and begin at their offsets.
use Rattle.std.proofs.Common.{◌≡◌, ℕ, suc, ◌+◌, ◌*◌, ◌<◌, ◌≤◌, List, [], ◌∷◌, ◌++◌, length, drop, get_or, refl, sym, ap, ◌∙◌, arith, ◌-◌, ltb, leb, ◌&&◌, Bool, true, false, cond, take, Result, Ok, Err, length-append, length-drop, ltb-true, leb-true, subst, slice_index, replicate, take-append-drop, take_all}
use Rattle.std.specs.List.{concat}
use Rattle.std.proofs.lemmas.List.{drop_at, drop-drop, drop_all, length-take-le, take_rest, get_or-drop, drop_more}
use Rattle.byteorder.specs.Endian.{big_number, big_bytes}
use Rattle.plist_object.specs.Objects.{numbers, Content, ◌>>=◌, IsContent, object_in}
use Rattle.plist_object.specs.Files.{starts}
use Rattle.std.proofs.lemmas.Bool.{and_parts}
use Rattle.plist_object.specs.declared.object.ObjectFault.{ObjectFault}
use Rattle.plist_object.specs.declared.object.ObjectFault.TheVariants.{BadOffset}
use Rattle.plist_object.specs.Layout.{trailer_of, IsTrailer, number_before_end}
use Rattle.plist_object.specs.Places.{place_of, octets_at, object_at, what_holds, span_of, Holds}
use Rattle.plist_object.specs.Shortest.{spelling_of, IsShortest}
use Rattle.plist_canon.specs.Rules.{IsSpelledCanonically, HasPlainTrailer, HasLeastWidths}
use Rattle.std.specs.Prelude.{◌↔◌}
use Rattle.plist_value.specs.Plist.{AreOctets}
use Rattle.plist_object.specs.Heads.{BeginsCanonically, IsCounted}
use Rattle.plist_object.proofs.CanonicalHeads.{shortest_iff}
use Rattle.plist_object.proofs.Readable.{Holds-reads}
use Rattle.plist_object.specs.Spelling.{least_width}
use Rattle.plist_object.proofs.SameOctets.{big_bytes-big_number, AreOctets-drop}
use Rattle.plist_write.specs.Canonical.{trailer_octets}

-- the piece is in the bytes at this offset
abbrev pub StandsAt : List ℕ → ℕ → List ℕ → Type 0
StandsAt octets offset piece = (behind : List ℕ) × (drop offset octets ≡ piece ++ behind)

-- each object ends at the edge where the next one begins
abbrev pub Touch : (ℕ → ℕ) → List (List ℕ) → Type 0
Touch edge objects = (i : ℕ) → i < length objects → edge (suc i) ≡ edge i + length (get_or objects i [])

pub pieces_make : (octets : List ℕ) (edge : ℕ → ℕ) (objects : List (List ℕ)) → ((i : ℕ) → i < length objects → StandsAt octets (edge i) (get_or objects i [])) → Touch edge objects → length octets ≤ edge (length objects) → drop (edge 0) octets ≡ concat objects
pieces_make octets edge [] stand touch ends = drop_all (edge 0) octets ends
pieces_make octets edge (o ∷ os) stand touch ends =
    let first = stand 0 (omega arith) in
    let next : edge 1 ≡ edge 0 + length o = touch 0 (omega arith) in
    let others : drop (edge 1) octets ≡ concat os = pieces_make octets (λ i. edge (suc i)) os (λ i h. stand (suc i) (omega arith)) (λ i h. touch (suc i) (omega arith)) ends in
    let past : drop (edge 1) octets ≡ first.0 = ap (λ (n : ℕ). drop n octets) next ∙ sym (drop-drop (length o) (edge 0) octets) ∙ ap (drop (length o)) first.1 ∙ drop_at o first.0 (length o) refl in
    first.1 ∙ ap (λ (xs : List ℕ). o ++ xs) (sym past ∙ others)

pub numbers-starts : (w : ℕ) (octets : List ℕ) (edge : ℕ → ℕ) (objects : List (List ℕ)) → ((i : ℕ) → i < length objects → big_number w (drop (i * w) octets) ≡ edge i) → Touch edge objects → numbers w (length objects) octets ≡ starts (edge 0) objects
numbers-starts w octets edge [] entries touch = refl
numbers-starts w octets edge (o ∷ os) entries touch =
    let none : 0 * w ≡ 0 = omega arith in
    let first : big_number w octets ≡ edge 0 = rw none at (entries 0 (omega arith)) in
    let next : edge 1 ≡ edge 0 + length o = touch 0 (omega arith) in
    let entry : (i : ℕ) → i < length os → big_number w (drop (i * w) (drop w octets)) ≡ edge (suc i) = λ i h.
    let offset : w + i * w ≡ suc i * w = omega arith in
    ap (big_number w) (drop-drop (i * w) w octets ∙ ap (λ (n : ℕ). drop n octets) offset) ∙ entries (suc i) (omega arith) in
    let others = numbers-starts w (drop w octets) (λ i. edge (suc i)) os entry (λ i h. touch (suc i) (omega arith)) in
    rw (first, others, next) refl

-- The bytes that an object of a file occupies, if they are its canonical encoding.

-- object i begins between the header and the offset table, with these bytes
pub record IsPlaced (f : List ℕ) (i : ℕ) (octets : List ℕ) : Type 0 where
  pub from : 8 ≤ place_of f i
  pub before : place_of f i < (trailer_of f).table
  pub stands : drop (place_of f i) (take (trailer_of f).table f) ≡ octets

placed_by_test : (f : List ℕ) (i : ℕ) (octets : List ℕ) (inside : Bool) → (leb 8 (place_of f i) && ltb (place_of f i) (trailer_of f).table) ≡ inside → cond {A = Result (List ℕ) ObjectFault} inside (Ok (drop (place_of f i) (take (trailer_of f).table f))) (Err BadOffset) ≡ Ok octets → IsPlaced f i octets
placed_by_test f i octets true is h =
    let parts = and_parts (leb 8 (place_of f i)) (ltb (place_of f i) (trailer_of f).table) is in
    record { from = leb-true 8 (place_of f i) parts.0; before = ltb-true (place_of f i) (trailer_of f).table parts.1; stands = cc }
placed_by_test f i octets false is h = absurd cc

pub is_placed : (f : List ℕ) (i : ℕ) (octets : List ℕ) → octets_at f i ≡ Ok octets → IsPlaced f i octets
unfolding octets_at
is_placed f i octets h = placed_by_test f i octets _ refl h

reads-shortest : (f : List ℕ) (i : ℕ) (x : IsShortest f i) → object_at f i ≡ Ok (x.held, x.behind)
unfolding object_at
reads-shortest f i x = rw (x.stands) (x.reads)

held-shortest : (f : List ℕ) (i : ℕ) (x : IsShortest f i) → what_holds f i ≡ Ok x.held
unfolding what_holds
held-shortest f i x = rw (reads-shortest f i x) refl

span-shortest : (f : List ℕ) (i : ℕ) (x : IsShortest f i) → span_of f i ≡ Ok (place_of f i, (trailer_of f).table - length x.behind)
unfolding span_of
span-shortest f i x = rw (reads-shortest f i x) refl

-- Object i occupies these bytes, between the header and the offset table.
pub record Occupies (f : List ℕ) (i : ℕ) (octets : List ℕ) : Type 0 where
  pub from : 8 ≤ place_of f i
  pub before : place_of f i < (trailer_of f).table
  pub stands : StandsAt (take (trailer_of f).table f) (place_of f i) octets
  pub span : span_of f i ≡ Ok (place_of f i, place_of f i + length octets)
  pub within : place_of f i + length octets ≤ (trailer_of f).table

occupies_shortest : (f : List ℕ) (i : ℕ) → (trailer_of f).table ≤ length f → (x : IsShortest f i) → Occupies f i (spelling_of (trailer_of f).reference_width x.held)
occupies_shortest f i table x =
    let octets = spelling_of (trailer_of f).reference_width x.held in
    let at = is_placed f i x.octets x.stands in
    let before = at.before in
    let stands : drop (place_of f i) (take (trailer_of f).table f) ≡ octets ++ x.behind = at.stands ∙ x.spelled in
    let front = length-take-le (trailer_of f).table f table in
    let whole : length (drop (place_of f i) (take (trailer_of f).table f)) ≡ (trailer_of f).table - place_of f i = length-drop (place_of f i) (take (trailer_of f).table f) ∙ ap (λ (n : ℕ). n - place_of f i) front in
    let parts : length octets + length x.behind ≡ (trailer_of f).table - place_of f i = sym (length-append octets x.behind) ∙ sym (ap length stands) ∙ whole in
    let end : (trailer_of f).table - length x.behind ≡ place_of f i + length octets = omega arith in
    record {
      from = at.from;
      before = at.before;
      stands = (x.behind, stands);
      span = span-shortest f i x ∙ ap (λ (n : ℕ). Ok (place_of f i, n)) end;
      within = omega arith;
    }

-- an object in its canonical encoding occupies that encoding
pub occupies : (f : List ℕ) (i : ℕ) (held : Content) → (trailer_of f).table ≤ length f → Holds f i held → IsSpelledCanonically f i → Occupies f i (spelling_of (trailer_of f).reference_width held)
occupies f i held table holds canonically =
    let x = canonically (Holds-reads f i held holds) in
    let same : x.held ≡ held = let other = held-shortest f i x in cc (other, holds.reads) in
    rw same at (occupies_shortest f i table x)

-- Objects that begin like their canonical encoding.

-- the bytes from an object on, as they were decoded
record AreParts (f : List ℕ) (i : ℕ) (held : Content) : Type 0 where
  octets : List ℕ
  behind : List ℕ
  stands : octets_at f i ≡ Ok octets
  reads : object_in (trailer_of f).reference_width octets ≡ Ok (held, behind)

abbrev held_first : Content × List ℕ → Result Content ObjectFault
held_first read = Ok read.0

abbrev read_pair : Content → List ℕ → Result (Content × List ℕ) ObjectFault
read_pair held behind = Ok (held, behind)

object_parts : (f : List ℕ) (i : ℕ) (held : Content) (octets : List ℕ) (read : Result (Content × List ℕ) ObjectFault) → octets_at f i ≡ Ok octets → object_in (trailer_of f).reference_width octets ≡ read → (read >>= held_first) ≡ Ok held → AreParts f i held
object_parts f i held octets (Ok read) stands reads e =
    let same : read.0 ≡ held = cc in
    record { octets = octets; behind = read.1; stands = stands; reads = reads ∙ ap (λ (h : Content). read_pair h read.1) same }
object_parts f i held octets (Err fault) stands reads e = absurd (let no : Err fault ≡ Ok held = e in cc)

octets_parts : (f : List ℕ) (i : ℕ) (held : Content) (octets : Result (List ℕ) ObjectFault) → octets_at f i ≡ octets → ((octets >>= λ xs. object_in (trailer_of f).reference_width xs) >>= held_first) ≡ Ok held → AreParts f i held
octets_parts f i held (Ok octets) stands e =
    object_parts f i held octets (object_in (trailer_of f).reference_width octets) stands refl e
octets_parts f i held (Err fault) stands e = absurd (let no : Err fault ≡ Ok held = e in cc)

are_parts : (f : List ℕ) (i : ℕ) (held : Content) → what_holds f i ≡ Ok held → AreParts f i held
unfolding what_holds object_at
are_parts f i held reads = octets_parts f i held (octets_at f i) refl reads

pub Holds-placed : (f : List ℕ) (i : ℕ) (held : Content) → Holds f i held → place_of f i < (trailer_of f).table
Holds-placed f i held holds =
    let x = are_parts f i held holds.reads in
    (is_placed f i x.octets x.stands).before

-- an object is in its shortest encoding if and only if it begins canonically
pub begins-shortest : (f : List ℕ) (i offset : ℕ) (objects : List ℕ) (held : Content) → Holds f i held → IsContent held → IsCounted held → place_of f i ≡ offset → objects ≡ take (trailer_of f).table f → AreOctets (take (length objects - offset) (drop offset objects)) → BeginsCanonically held (take (length objects - offset) (drop offset objects)) ↔ IsShortest f i
begins-shortest f i offset objects held holds valid counted starts is are_octets =
    let x = are_parts f i held holds.reads in
    let at = is_placed f i x.octets x.stands in
    let same : take (length objects - offset) (drop offset objects) ≡ x.octets = take_rest objects offset ∙ ap (λ (xs : List ℕ). drop offset xs) is ∙ ap (λ (n : ℕ). drop n (take (trailer_of f).table f)) (sym starts) ∙ at.stands in
    let both = shortest_iff f i x.octets held x.behind x.stands x.reads valid counted (subst AreOctets same are_octets) in (
      λ begins. both.0 (subst (λ (xs : List ℕ). BeginsCanonically held xs) same begins),
      λ shortest. subst (λ (xs : List ℕ). BeginsCanonically held xs) (sym same) (both.1 shortest),
    )

first_part : (a b c : ℕ) → a + b + 32 ≡ c → a ≤ c
first_part a b c is = omega arith

-- the offset table begins within the file
table-within : (f : List ℕ) → IsTrailer (length f) (trailer_of f) → (trailer_of f).table ≤ length f
table-within f trailed =
    let x = trailer_of f in
    first_part x.table (x.count * x.offset_width) (length f) trailed.ends

-- an object begins before the offset table
pub Holds-inside : (f : List ℕ) (i offset : ℕ) (objects : List ℕ) (held : Content) → IsTrailer (length f) (trailer_of f) → Holds f i held → place_of f i ≡ offset → objects ≡ take (trailer_of f).table f → offset ≤ length objects
Holds-inside f i offset objects held trailed holds starts is =
    let x = trailer_of f in
    let long : length objects ≡ x.table = ap length is ∙ length-take-le x.table f (table-within f trailed) in
    omega (arith, Holds-placed f i held holds)

-- The trailer of a file that is plain and has the least widths.

-- 32 bytes are the concatenation of their fields
join_trailer : (e zeros : List ℕ) (w r : ℕ) (count top offset : List ℕ) → length e ≡ 32 → take 6 e ≡ zeros → get_or e 6 0 ≡ w → get_or e 7 0 ≡ r → take 8 (drop 8 e) ≡ count → take 8 (drop 16 e) ≡ top → take 8 (drop 24 e) ≡ offset → e ≡ zeros ++ (w ∷ r ∷ (count ++ (top ++ offset)))
join_trailer e zeros w r count top offset long slack width reference_width counts tops places =
    let seventh : drop 6 e ≡ w ∷ drop 7 e = drop_more e 6 0 (omega arith) ∙ ap (λ (x : ℕ). x ∷ drop 7 e) width in
    let eighth : drop 7 e ≡ r ∷ drop 8 e = drop_more e 7 0 (omega arith) ∙ ap (λ (x : ℕ). x ∷ drop 8 e) reference_width in
    let third : drop 24 e ≡ offset = sym (take_all 8 (drop 24 e) (omega (arith, length-drop 24 e))) ∙ places in
    let second : drop 16 e ≡ top ++ offset = sym (take-append-drop 8 (drop 16 e)) ∙ ap (λ (xs : List ℕ). xs ++ drop 8 (drop 16 e)) tops ∙ ap (λ (xs : List ℕ). top ++ xs) (drop-drop 8 16 e ∙ third) in
    let first : drop 8 e ≡ count ++ (top ++ offset) = sym (take-append-drop 8 (drop 8 e)) ∙ ap (λ (xs : List ℕ). xs ++ drop 8 (drop 8 e)) counts ∙ ap (λ (xs : List ℕ). count ++ xs) (drop-drop 8 8 e ∙ second) in
    sym (take-append-drop 6 e) ∙ ap (λ (xs : List ℕ). xs ++ drop 6 e) slack ∙ ap (λ (xs : List ℕ). zeros ++ xs) (seventh ∙ ap (λ (xs : List ℕ). w ∷ xs) (eighth ∙ ap (λ (xs : List ℕ). r ∷ xs) first))

module _ (f : List ℕ) (octets : AreOctets f) (long : 32 ≤ length f) where
  ended : (back at : ℕ) → back + at ≡ 32 → drop at (drop (length f - 32) f) ≡ drop (length f - back) f
  ended back at is =
      let offset : length f - 32 + at ≡ length f - back = omega arith in
      drop-drop at (length f - 32) f ∙ ap (λ (n : ℕ). drop n f) offset

  octet_at : (back at : ℕ) → back + at ≡ 32 → get_or (drop (length f - 32) f) at 0 ≡ slice_index f (length f - back)
  octet_at back at is =
      let offset : length f - 32 + at ≡ length f - back = omega arith in
      get_or-drop (length f - 32) f at 0 ∙ ap (slice_index f) offset

  number_at : (back at : ℕ) → back + at ≡ 32 → 8 ≤ back → take 8 (drop at (drop (length f - 32) f)) ≡ big_bytes 8 (number_before_end back f)
  number_at back at is enough =
      ap (take 8) (ended back at is) ∙ sym (big_bytes-big_number 8 (drop (length f - back) f) (AreOctets-drop (length f - back) f octets) (omega (arith, length-drop (length f - back) f)))

  pub trailer-is : HasPlainTrailer f → HasLeastWidths f → drop (length f - 32) f ≡ trailer_octets (trailer_of f).count (trailer_of f).table
  trailer-is plain least =
      let n = (trailer_of f).count in
      let t = (trailer_of f).table in
      let size : length (drop (length f - 32) f) ≡ 32 = omega (arith, length-drop (length f - 32) f) in
      join_trailer (drop (length f - 32) f) (replicate 6 0) (least_width t) (least_width n) (big_bytes 8 n) (big_bytes 8 0) (big_bytes 8 t)
      size plain.slack (octet_at 26 6 refl ∙ least.offset) (octet_at 25 7 refl ∙ least.reference)
      (number_at 24 8 refl (omega arith)) (number_at 16 16 refl (omega arith) ∙ ap (big_bytes 8) plain.top) (number_at 8 24 refl (omega arith))
