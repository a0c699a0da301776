-- The file of given objects follows the rules about the trailer and about where objects are.
use Rattle.std.proofs.Common.{◌≡◌, ℕ, zero, suc, ◌+◌, ◌-◌, ◌<◌, ◌≤◌, List, [], ◌∷◌, ◌++◌, length, take, drop, get_or, Result, Ok, refl, sym, ap, ◌∙◌, arith, length-append, length-drop, lt-ltb, le-leb}
use Rattle.std.specs.List.{concat}
use Rattle.std.proofs.lemmas.List.{take_at, drop-drop}
use Rattle.plist_object.specs.declared.object.ObjectFault.{ObjectFault}
use Rattle.plist_object.specs.Layout.{header, Trailer, trailer_of, slack_of}
use Rattle.plist_object.specs.Objects.{Content, object_in}
use Rattle.plist_object.specs.Places.{place_of, octets_at, object_at, span_of}
use Rattle.plist_object.specs.Spelling.{least_width, references}
use Rattle.plist_object.specs.Shortest.{spelling_of, IsShortest}
use Rattle.plist_object.specs.Files.{starts}
use Rattle.plist_write.specs.Canonical.{trailer_octets, file_of}
use Rattle.plist_canon.specs.Rules.{HasPlainTrailer, HasLeastWidths, Adjoins}
use Rattle.plist_object.proofs.Files.{is_piece, before_trailer, before_table, drop-end}
use Rattle.plist_write.proofs.File.{trailer_for, trailer_of-file, place_of-file}

-- object i begins at its offset, and ends where the remaining bytes begin
span_of-is : (f : List ℕ) (i start table : ℕ) (held : Content) (octets behind : List ℕ) → octets_at f i ≡ Ok octets → place_of f i ≡ start → (trailer_of f).table ≡ table → object_in (trailer_of f).reference_width octets ≡ Ok (held, behind) → span_of f i ≡ Ok (start, table - length behind)
unfolding span_of object_at
span_of-is f i start table held octets behind at place is reads = rw (at, reads, place, is) refl

octets_at-is : (f : List ℕ) (i p t : ℕ) (octets : List ℕ) → (trailer_of f).table ≡ t → place_of f i ≡ p → 8 ≤ p → p < t → drop p (take t f) ≡ octets → octets_at f i ≡ Ok octets
unfolding octets_at
octets_at-is f i p t octets at_table at_place behind before stands =
    rw (at_place, at_table, le-leb 8 p behind, lt-ltb p t before, stands) refl

-- where the next object begins
starts-next : (k : ℕ) (objects : List (List ℕ)) (i : ℕ) → suc i < length objects → get_or (starts k objects) (suc i) 0 ≡ get_or (starts k objects) i 0 + length (get_or objects i [])
starts-next k (o ∷ p ∷ os) zero h = refl
starts-next k (o ∷ p ∷ os) (suc i) h = starts-next (k + length o) (p ∷ os) i (omega arith)
starts-next k _ i h = absurd (omega arith)

-- where the last object ends
starts-last : (k : ℕ) (objects : List (List ℕ)) (i : ℕ) → suc i ≡ length objects → get_or (starts k objects) i 0 + length (get_or objects i []) ≡ k + length (concat objects)
starts-last k (o ∷ []) zero h = rw length-append (omega arith)
starts-last k (o ∷ p ∷ os) (suc i) h =
    let others = starts-last (k + length o) (p ∷ os) i (omega arith) in
    omega (arith, length-append o (concat (p ∷ os)))
starts-last k _ _ h = absurd (omega arith)

slack-ended : (front tail : List ℕ) → length tail ≡ 32 → slack_of (front ++ tail) ≡ take 6 tail
slack-ended front tail long = ap (take 6) (drop-end front tail 32 long)

widths_from : (f : List ℕ) (count table : ℕ) → trailer_of f ≡ trailer_for count table → HasLeastWidths f
widths_from f count table e = record {
  offset = ap (λ (x : Trailer). x.offset_width) e ∙ ap (λ (x : Trailer). least_width x.table) (sym e);
  reference = ap (λ (x : Trailer). x.reference_width) e ∙ ap (λ (x : Trailer). least_width x.count) (sym e);
}

same_span : (r : Result (ℕ × ℕ) ObjectFault) (a b c d : ℕ) → r ≡ Ok (a, b) → r ≡ Ok (c, d) → (c ≡ a) × (d ≡ b)
same_span r a b c d x y =
    let p : (c, d) ≡ (a, b) = cc in
    (ap (λ (q : ℕ × ℕ). q.0) p, ap (λ (q : ℕ × ℕ). q.1) p)

starts-first : (k : ℕ) (objects : List (List ℕ)) → 1 ≤ length objects → get_or (starts k objects) 0 0 ≡ k
starts-first k [] some = absurd (omega arith)
starts-first k (o ∷ os) some = refl

-- objects that follow one another are contiguous
spans_adjoin : (f : List ℕ) (objects : List (List ℕ)) → (trailer_of f).count ≡ length objects → (trailer_of f).table ≡ 8 + length (concat objects) → ((i : ℕ) → i < length objects → span_of f i ≡ Ok (get_or (starts 8 objects) i 0, get_or (starts 8 objects) i 0 + length (get_or objects i []))) → (i : ℕ) → i < length objects → Adjoins f i
spans_adjoin f objects counted table_is span i h = record {
  first = λ start end none at.
      let here = same_span (span_of f i) _ _ start end (span i h) at in
      here.0 ∙ ap (λ n. get_or (starts 8 objects) n 0) none ∙ starts-first 8 objects (omega arith);
  next = λ before start middle begin end follows at_before at.
      let here = same_span (span_of f i) _ _ begin end (span i h) at in
      let below : before < length objects = omega arith in
      let there = same_span (span_of f before) _ _ start middle (span before below) at_before in
      here.0 ∙ ap (λ n. get_or (starts 8 objects) n 0) follows ∙ starts-next 8 objects before (rw (follows) at h) ∙ sym there.1;
  last = λ start end is_last at.
      let here = same_span (span_of f i) _ _ start end (span i h) at in
      here.1 ∙ starts-last 8 objects i (is_last ∙ counted) ∙ sym table_is;
}

module _ (objects : List (List ℕ)) (some : 1 ≤ length objects)
    (each : (i : ℕ) → i < length objects → 1 ≤ length (get_or objects i []))
    (count_fits : length objects < 18446744073709551616) (table_fits : 8 + length (concat objects) < 18446744073709551616) where
  abbrev table_place : ℕ
  table_place = 8 + length (concat objects)

  table_is : (trailer_of (file_of objects)).table ≡ table_place
  table_is = ap (λ (x : Trailer). x.table) (trailer_of-file objects some each count_fits table_fits)

  width_is : (trailer_of (file_of objects)).reference_width ≡ least_width (length objects)
  width_is = ap (λ (x : Trailer). x.reference_width) (trailer_of-file objects some each count_fits table_fits)

  pub count_is : (trailer_of (file_of objects)).count ≡ length objects
  count_is = ap (λ (x : Trailer). x.count) (trailer_of-file objects some each count_fits table_fits)

  pub top_is : (trailer_of (file_of objects)).top ≡ 0
  top_is = ap (λ (x : Trailer). x.top) (trailer_of-file objects some each count_fits table_fits)

  pub plain_trailer : HasPlainTrailer (file_of objects)
  plain_trailer =
      let entries = references (least_width table_place) (starts 8 objects) in
      let tail = trailer_octets (length objects) table_place in
      record {
        slack = ap slack_of (before_trailer header (concat objects) entries tail) ∙ slack-ended (header ++ (concat objects ++ entries)) tail refl;
        top = top_is;
      }

  pub least_widths : HasLeastWidths (file_of objects)
  least_widths = widths_from (file_of objects) (length objects) table_place (trailer_of-file objects some each count_fits table_fits)

  -- The bytes from object i on are its own and the rest, which reaches up to the offset table.
  record IsAt (i : ℕ) : Type 0 where
    pub behind : List ℕ
    pub octets : octets_at (file_of objects) i ≡ Ok (get_or objects i [] ++ behind)
    pub ends : get_or (starts 8 objects) i 0 + length (get_or objects i []) ≡ table_place - length behind

  is_at : (i : ℕ) → i < length objects → IsAt i
  is_at i h =
      let entries = references (least_width table_place) (starts 8 objects) in
      let tail = trailer_octets (length objects) table_place in
      let x = is_piece 8 objects i h in
      let start = x.start in
      let place = place_of-file objects some each count_fits table_fits i h ∙ start in
      let front : take table_place (file_of objects) ≡ header ++ concat objects = ap (take table_place) (before_table header (concat objects) entries tail) ∙ take_at (header ++ concat objects) (entries ++ tail) table_place (length-append header (concat objects)) in
      let stands : drop (8 + x.before) (take table_place (file_of objects)) ≡ get_or objects i [] ++ x.behind = ap (drop (8 + x.before)) front ∙ sym (drop-drop x.before 8 (header ++ concat objects)) ∙ x.stands in
      let long : length (drop x.before (concat objects)) ≡ length (get_or objects i []) + length x.behind = ap length x.stands ∙ length-append (get_or objects i []) x.behind in
      record {
        behind = x.behind;
        octets = octets_at-is (file_of objects) i (8 + x.before) table_place _ table_is place (omega (arith, length-drop x.before (concat objects), each i h, x.within)) (omega (arith, length-drop x.before (concat objects), each i h, x.within)) stands;
        ends = omega (arith, length-drop x.before (concat objects), each i h, x.within);
      }

  -- the bytes of each object encode its content, whatever follows it
  module _ (held : ℕ → Content)
      (reads : (i : ℕ) (behind : List ℕ) → i < length objects → object_in (least_width (length objects)) (get_or objects i [] ++ behind) ≡ Ok (held i, behind))
      (spelled : (i : ℕ) → i < length objects → get_or objects i [] ≡ spelling_of (least_width (length objects)) (held i)) where
    span : (i : ℕ) → i < length objects → span_of (file_of objects) i ≡ Ok (get_or (starts 8 objects) i 0, get_or (starts 8 objects) i 0 + length (get_or objects i []))
    span i h =
        let x = is_at i h in
        let place = place_of-file objects some each count_fits table_fits i h in
        let read = ap (λ (w : ℕ). object_in w (get_or objects i [] ++ x.behind)) width_is ∙ reads i x.behind h in
        span_of-is (file_of objects) i (get_or (starts 8 objects) i 0) table_place (held i) (get_or objects i [] ++ x.behind) x.behind x.octets place table_is read ∙ ap (λ (e : ℕ). Ok (get_or (starts 8 objects) i 0, e)) (sym x.ends)

    pub adjoins : (i : ℕ) → i < (trailer_of (file_of objects)).count → Adjoins (file_of objects) i
    adjoins i h = spans_adjoin (file_of objects) objects count_is table_is span i (rw count_is at h)

    pub shortest : (i : ℕ) → i < (trailer_of (file_of objects)).count → IsShortest (file_of objects) i
    shortest i h =
        let below : i < length objects = rw count_is at h in
        let x = is_at i below in
        record {
          octets = get_or objects i [] ++ x.behind;
          held = held i;
          behind = x.behind;
          stands = x.octets;
          reads = ap (λ (w : ℕ). object_in w (get_or objects i [] ++ x.behind)) width_is ∙ reads i x.behind below;
          spelled = ap (λ (octets : List ℕ). octets ++ x.behind) (spelled i below ∙ ap (λ (w : ℕ). spelling_of w (held i)) (sym width_is));
        }
