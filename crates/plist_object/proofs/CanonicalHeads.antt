-- An object that begins like its canonical encoding has that encoding.
use Rattle.std.proofs.Common.{◌≡◌, ℕ, ◌+◌, ◌*◌, ◌^◌, ◌<◌, ◌≤◌, Bool, true, false, cond, ltb, ℤ, List, [], ◌∷◌, ◌++◌, length, take, drop, Result, Ok, Err, refl, sym, ap, ◌∙◌, arith, append_assoc, ltb-false}
use Rattle.std.proofs.lemmas.List.{take_at, take-append-drop, length-take-le, take_all, length-drop}
use Rattle.std.specs.List.{list_all}
use Rattle.plist_value.specs.Plist.{Scalar, text, whole, flag, real4, real8, moment, bytes, AreOctets, IsScalar, IsWhole}
use Rattle.plist_value.specs.Texts.{wide_units}
use Rattle.plist_object.specs.declared.object.ObjectFault.{ObjectFault}
use Rattle.plist_object.specs.declared.object.ObjectFault.TheVariants.{CutObject, NotAscii}
use Rattle.plist_object.specs.Objects.{Content, holds_scalar, holds_list, holds_table, IsContent, cut, ◌>>=◌, count_of_content, content, numbers, object_in, marked_object, real_object, moment_object, data_object, ascii_object, wide_object, list_object, table_object}
use Rattle.plist_object.specs.Spelling.{head, references, scalar_spelling, whole_spelling}
use Rattle.plist_object.specs.Heads.{Begins, BeginsScalar, BeginsCanonically, IsCounted}
use Rattle.plist_object.specs.Layout.{trailer_of}
use Rattle.plist_object.specs.Places.{octets_at}
use Rattle.plist_object.specs.Shortest.{spelling_of, IsShortest}
use Rattle.plist_object.proofs.ReadBack.{is_head, object_in-head}
use Rattle.plist_object.proofs.ReadScalars.{object_in-scalar}
use Rattle.plist_object.proofs.SameOctets.{AreOctets-take, AreOctets-drop, references-numbers, references-wide_units}

-- bytes split after a prefix
pub split_head : (first octets : List ℕ) → Begins first octets → octets ≡ first ++ drop (length first) octets
split_head first octets begins =
    sym (take-append-drop (length first) octets) ∙ ap (λ (xs : List ℕ). xs ++ drop (length first) octets) begins

-- a decoder that succeeded after a cut of n bytes continued with those bytes and the rest
pub record WasCut {B : Type 0} (n : ℕ) (octets : List ℕ) (next : List ℕ × List ℕ → Result B ObjectFault) (y : B) : Type 0 where
  pub enough : n ≤ length octets
  pub goes_on : next (take n octets, drop n octets) ≡ Ok y

cut_by_test : {B : Type 0} (n : ℕ) (octets : List ℕ) (next : List ℕ × List ℕ → Result B ObjectFault) (y : B) (short : Bool) → ltb (length octets) n ≡ short → (cond {A = Result (List ℕ × List ℕ) ObjectFault} short (Err CutObject) (Ok (take n octets, drop n octets)) >>= next) ≡ Ok y → WasCut n octets next y
cut_by_test n octets next y true is e = absurd cc
cut_by_test n octets next y false is e = record { enough = ltb-false (length octets) n is; goes_on = e }

pub was_cut : {B : Type 0} (n : ℕ) (octets : List ℕ) (next : List ℕ × List ℕ → Result B ObjectFault) (y : B) → (cut n octets >>= next) ≡ Ok y → WasCut n octets next y
was_cut n octets next y e = cut_by_test n octets next y (ltb (length octets) n) refl e

-- like `WasCut`, for content whose count is known
pub record WasContent {B : Type 0} (unit n : ℕ) (octets : List ℕ) (next : ℕ × List ℕ × List ℕ → Result B ObjectFault) (y : B) : Type 0 where
  pub enough : n * unit ≤ length octets
  pub goes_on : next (n, take (n * unit) octets, drop (n * unit) octets) ≡ Ok y

content_by_test : {B : Type 0} (unit n : ℕ) (octets : List ℕ) (next : ℕ × List ℕ × List ℕ → Result B ObjectFault) (y : B) (short : Bool) → ltb (length octets) (n * unit) ≡ short → ((cond {A = Result (List ℕ × List ℕ) ObjectFault} short (Err CutObject) (Ok (take (n * unit) octets, drop (n * unit) octets)) >>= λ parts. Ok (n, parts.0, parts.1)) >>= next) ≡ Ok y → WasContent unit n octets next y
content_by_test unit n octets next y true is e = absurd cc
content_by_test unit n octets next y false is e = record { enough = ltb-false (length octets) (n * unit) is; goes_on = e }

pub was_content : {B : Type 0} (unit low n : ℕ) (b tail : List ℕ) (next : ℕ × List ℕ × List ℕ → Result B ObjectFault) (y : B) → count_of_content low b ≡ Ok (n, tail) → (content unit low b >>= next) ≡ Ok y → WasContent unit n tail next y
unfolding content
was_content unit low n b tail next y counts e =
    content_by_test unit n tail next y (ltb (length tail) (n * unit)) refl (rw counts at e)

-- bytes that begin with a marker and count are decoded by kind
pub record Headed (width kind n : ℕ) (octets : List ℕ) (y : Content × List ℕ) : Type 0 where
  pub tail : List ℕ
  pub low : ℕ
  pub behind : List ℕ
  pub parts : octets ≡ head kind n ++ tail
  pub tail_octets : AreOctets tail
  pub counts : count_of_content low behind ≡ Ok (n, tail)
  pub reads : marked_object width kind low behind ≡ Ok y

pub headed : (width kind n : ℕ) (octets : List ℕ) (y : Content × List ℕ) → n < 2 ^ 64 → AreOctets octets → Begins (head kind n) octets → object_in width octets ≡ Ok y → Headed width kind n octets y
headed width kind n octets y small are_octets begins read =
    let tail = drop (length (head kind n)) octets in
    let parts : octets ≡ head kind n ++ tail = split_head (head kind n) octets begins in
    let x = is_head kind n tail small in
    record {
      tail = tail;
      low = x.low;
      behind = x.behind;
      parts = parts;
      tail_octets = AreOctets-drop (length (head kind n)) octets are_octets;
      counts = x.counts;
      reads = sym (ap (object_in width) parts ∙ object_in-head width kind n tail small) ∙ read;
    }

-- bytes whose content and remaining bytes are known
joined : (m : ℕ) (octets first tail content behind : List ℕ) → octets ≡ first ++ tail → take m tail ≡ content → drop m tail ≡ behind → octets ≡ (first ++ content) ++ behind
joined m octets first tail content behind parts front back =
    parts ∙ rw (append_assoc, ← front, ← back, take-append-drop m tail) refl

abbrev pub read_of : Content → List ℕ → Result (Content × List ℕ) ObjectFault
read_of x b = Ok (x, b)

same_read : (x y : Content) (b d : List ℕ) → read_of x b ≡ read_of y d → (x ≡ y) × (b ≡ d)
same_read x y b d e =
    let pairs : (x, b) ≡ (y, d) = cc in
    (ap (λ (p : Content × List ℕ). p.0) pairs, ap (λ (p : Content × List ℕ). p.1) pairs)

same_bytes : (a c : List ℕ) → holds_scalar (bytes a) ≡ holds_scalar (bytes c) → a ≡ c
same_bytes a c e = cc

same_text : (a c : List ℕ) → holds_scalar (text a) ≡ holds_scalar (text c) → a ≡ c
same_text a c e = cc

same_list : (a c : List ℕ) → holds_list a ≡ holds_list c → a ≡ c
same_list a c e = cc

same_table : (a b c d : List ℕ) → holds_table a b ≡ holds_table c d → (a ≡ c) × (b ≡ d)
same_table a b c d e = (cc, cc)

data_spelled : (width : ℕ) (xs behind octets : List ℕ) → length xs < 2 ^ 64 → AreOctets octets → Begins (head 4 (length xs)) octets → object_in width octets ≡ Ok (holds_scalar (bytes xs), behind) → octets ≡ (head 4 (length xs) ++ xs) ++ behind
unfolding marked_object data_object
data_spelled width xs behind octets small are_octets begins read =
    let h = headed width 4 (length xs) octets (holds_scalar (bytes xs), behind) small are_octets begins read in
    let next : ℕ × List ℕ × List ℕ → Result (Content × List ℕ) ObjectFault = λ c. Ok (holds_scalar (bytes c.1), c.2) in
    let w = was_content 1 h.low (length xs) h.behind h.tail next (holds_scalar (bytes xs), behind) h.counts h.reads in
    let same = same_read _ _ _ _ w.goes_on in
    joined (length xs * 1) octets (head 4 (length xs)) h.tail xs behind h.parts (same_bytes _ _ same.0) same.1

ascii_part : (part us rest behind : List ℕ) (ascii : Bool) → list_all (λ u. ltb u 128) part ≡ ascii → cond {A = Result (Content × List ℕ) ObjectFault} ascii (Ok (holds_scalar (text part), rest)) (Err NotAscii) ≡ Ok (holds_scalar (text us), behind) → (part ≡ us) × (rest ≡ behind)
ascii_part part us rest behind true is e = (same_text _ _ (same_read _ _ _ _ e).0, (same_read _ _ _ _ e).1)
ascii_part part us rest behind false is e = absurd cc

ascii_spelled : (width : ℕ) (us behind octets : List ℕ) → length us < 2 ^ 64 → AreOctets octets → Begins (head 5 (length us)) octets → object_in width octets ≡ Ok (holds_scalar (text us), behind) → octets ≡ (head 5 (length us) ++ us) ++ behind
unfolding marked_object ascii_object
ascii_spelled width us behind octets small are_octets begins read =
    let h = headed width 5 (length us) octets (holds_scalar (text us), behind) small are_octets begins read in
    let next : ℕ × List ℕ × List ℕ → Result (Content × List ℕ) ObjectFault = λ c. cond (list_all (λ u. ltb u 128) c.1) (Ok (holds_scalar (text c.1), c.2)) (Err NotAscii) in
    let w = was_content 1 h.low (length us) h.behind h.tail next (holds_scalar (text us), behind) h.counts h.reads in
    let same = ascii_part (take (length us * 1) h.tail) us (drop (length us * 1) h.tail) behind (list_all (λ u. ltb u 128) (take (length us * 1) h.tail)) refl w.goes_on in
    joined (length us * 1) octets (head 5 (length us)) h.tail us behind h.parts same.0 same.1

wide_spelled : (width : ℕ) (us behind octets : List ℕ) → length us < 2 ^ 64 → AreOctets octets → Begins (head 6 (length us)) octets → object_in width octets ≡ Ok (holds_scalar (text us), behind) → octets ≡ (head 6 (length us) ++ references 2 us) ++ behind
unfolding marked_object wide_object
wide_spelled width us behind octets small are_octets begins read =
    let h = headed width 6 (length us) octets (holds_scalar (text us), behind) small are_octets begins read in
    let next : ℕ × List ℕ × List ℕ → Result (Content × List ℕ) ObjectFault = λ c. Ok (holds_scalar (text (wide_units c.1)), c.2) in
    let w = was_content 2 h.low (length us) h.behind h.tail next (holds_scalar (text us), behind) h.counts h.reads in
    let same = same_read _ _ _ _ w.goes_on in
    let part = take (length us * 2) h.tail in
    let spelled : references 2 (wide_units part) ≡ part = references-wide_units (length us) part (AreOctets-take (length us * 2) h.tail h.tail_octets) (length-take-le (length us * 2) h.tail w.enough) in
    let front : part ≡ references 2 us = sym spelled ∙ ap (references 2) (same_text _ _ same.0) in
    joined (length us * 2) octets (head 6 (length us)) h.tail (references 2 us) behind h.parts front same.1

list_spelled : (width : ℕ) (refs behind octets : List ℕ) → length refs < 2 ^ 64 → AreOctets octets → Begins (head 10 (length refs)) octets → object_in width octets ≡ Ok (holds_list refs, behind) → octets ≡ (head 10 (length refs) ++ references width refs) ++ behind
unfolding marked_object list_object
list_spelled width refs behind octets small are_octets begins read =
    let h = headed width 10 (length refs) octets (holds_list refs, behind) small are_octets begins read in
    let next : ℕ × List ℕ × List ℕ → Result (Content × List ℕ) ObjectFault = λ c. Ok (holds_list (numbers width c.0 c.1), c.2) in
    let w = was_content width h.low (length refs) h.behind h.tail next (holds_list refs, behind) h.counts h.reads in
    let same = same_read _ _ _ _ w.goes_on in
    let part = take (length refs * width) h.tail in
    let long : length part ≡ length refs * width = length-take-le (length refs * width) h.tail w.enough in
    let spelled : references width (numbers width (length refs) part) ≡ take (length refs * width) part = references-numbers width (length refs) part (AreOctets-take (length refs * width) h.tail h.tail_octets) (omega arith) in
    let whole : take (length refs * width) part ≡ part = take_all (length refs * width) part (omega arith) in
    let front : part ≡ references width refs = sym (spelled ∙ whole) ∙ ap (references width) (same_list _ _ same.0) in
    joined (length refs * width) octets (head 10 (length refs)) h.tail (references width refs) behind h.parts front same.1

table_spelled : (width : ℕ) (keys values behind octets : List ℕ) → length keys < 2 ^ 64 → length keys ≡ length values → AreOctets octets → Begins (head 13 (length keys)) octets → object_in width octets ≡ Ok (holds_table keys values, behind) → octets ≡ (head 13 (length keys) ++ (references width keys ++ references width values)) ++ behind
unfolding marked_object table_object
table_spelled width keys values behind octets small pairs are_octets begins read =
    let n = length keys in
    let h = headed width 13 n octets (holds_table keys values, behind) small are_octets begins read in
    let next : ℕ × List ℕ × List ℕ → Result (Content × List ℕ) ObjectFault = λ c. Ok (holds_table (numbers width c.0 c.1) (numbers width c.0 (drop (c.0 * width) c.1)), c.2) in
    let w = was_content (2 * width) h.low n h.behind h.tail next (holds_table keys values, behind) h.counts h.reads in
    let same = same_read _ _ _ _ w.goes_on in
    let refs = same_table _ _ _ _ same.0 in
    let part = take (n * (2 * width)) h.tail in
    let octets_of_part : AreOctets part = AreOctets-take (n * (2 * width)) h.tail h.tail_octets in
    let long : length part ≡ n * (2 * width) = length-take-le (n * (2 * width)) h.tail w.enough in
    let twice : n * (2 * width) ≡ n * width + n * width = omega arith in
    let later : AreOctets (drop (n * width) part) = AreOctets-drop (n * width) part octets_of_part in
    let rest : length (drop (n * width) part) ≡ n * width = omega (arith, length-drop (n * width) part) in
    let first : references width (numbers width n part) ≡ take (n * width) part = references-numbers width n part octets_of_part (omega arith) in
    let second : references width (numbers width n (drop (n * width) part)) ≡ drop (n * width) part = references-numbers width n (drop (n * width) part) later (omega arith) ∙ take_all (n * width) (drop (n * width) part) (omega arith) in
    let front : part ≡ references width keys ++ references width values = sym (take-append-drop (n * width) part) ∙ rw (← first, ← second, refs.0, refs.1) refl in
    joined (n * (2 * width)) octets (head 13 n) h.tail (references width keys ++ references width values) behind h.parts front same.1

whole_spelled : (width : ℕ) (z : ℤ) (behind octets : List ℕ) → IsWhole z → Begins (whole_spelling z) octets → object_in width octets ≡ Ok (holds_scalar (whole z), behind) → octets ≡ whole_spelling z ++ behind
whole_spelled width z behind octets valid begins read =
    let tail = drop (length (whole_spelling z)) octets in
    let parts : octets ≡ whole_spelling z ++ tail = split_head (whole_spelling z) octets begins in
    let again = sym (object_in-scalar width (whole z) tail valid tt) ∙ sym (ap (object_in width) parts) ∙ read in
    parts ∙ ap (λ (xs : List ℕ). whole_spelling z ++ xs) (same_read _ _ _ _ again).1

flag_spelled : (width : ℕ) (b : Bool) (behind octets : List ℕ) → Begins (scalar_spelling (flag b)) octets → object_in width octets ≡ Ok (holds_scalar (flag b), behind) → octets ≡ scalar_spelling (flag b) ++ behind
flag_spelled width b behind octets begins read =
    let tail = drop (length (scalar_spelling (flag b))) octets in
    let parts : octets ≡ scalar_spelling (flag b) ++ tail = split_head (scalar_spelling (flag b)) octets begins in
    let again = sym (object_in-scalar width (flag b) tail tt tt) ∙ sym (ap (object_in width) parts) ∙ read in
    parts ∙ ap (λ (xs : List ℕ). scalar_spelling (flag b) ++ xs) (same_read _ _ _ _ again).1

-- a marker with n bytes after it
fixed_spelled : (marker n : ℕ) (shows : List ℕ → Scalar) (xs behind octets : List ℕ) → ((a c : List ℕ) → holds_scalar (shows a) ≡ holds_scalar (shows c) → a ≡ c) → Begins (marker ∷ []) octets → ((tail : List ℕ) → octets ≡ marker ∷ tail → (cut n tail >>= λ parts. read_of (holds_scalar (shows parts.0)) parts.1) ≡ Ok (holds_scalar (shows xs), behind)) → octets ≡ (marker ∷ xs) ++ behind
fixed_spelled marker n shows xs behind octets apart begins reads =
    let tail = drop 1 octets in
    let parts : octets ≡ marker ∷ tail = split_head (marker ∷ []) octets begins in
    let w = was_cut n tail (λ parts. read_of (holds_scalar (shows parts.0)) parts.1) (holds_scalar (shows xs), behind) (reads tail parts) in
    let same = same_read _ _ _ _ w.goes_on in
    joined n octets (marker ∷ []) tail xs behind parts (apart _ _ same.0) same.1

same_real4 : (a c : List ℕ) → holds_scalar (real4 a) ≡ holds_scalar (real4 c) → a ≡ c
same_real4 a c e = cc

same_real8 : (a c : List ℕ) → holds_scalar (real8 a) ≡ holds_scalar (real8 c) → a ≡ c
same_real8 a c e = cc

same_moment : (a c : List ℕ) → holds_scalar (moment a) ≡ holds_scalar (moment c) → a ≡ c
same_moment a c e = cc

text_by_test : (width : ℕ) (us behind octets : List ℕ) (ascii : Bool) → length us < 2 ^ 64 → AreOctets octets → Begins (cond ascii (head 5 (length us)) (head 6 (length us))) octets → object_in width octets ≡ Ok (holds_scalar (text us), behind) → octets ≡ cond ascii (head 5 (length us) ++ us) (head 6 (length us) ++ references 2 us) ++ behind
text_by_test width us behind octets true small are_octets begins read =
    ascii_spelled width us behind octets small are_octets begins read
text_by_test width us behind octets false small are_octets begins read =
    wide_spelled width us behind octets small are_octets begins read

scalar_spelled : (width : ℕ) (s : Scalar) (behind octets : List ℕ) → IsScalar s → IsCounted (holds_scalar s) → AreOctets octets → BeginsScalar s octets → object_in width octets ≡ Ok (holds_scalar s, behind) → octets ≡ scalar_spelling s ++ behind
unfolding marked_object real_object moment_object
scalar_spelled width (text us) behind octets valid small are_octets begins read =
    text_by_test width us behind octets (list_all (λ u. ltb u 128) us) small are_octets begins read
scalar_spelled width (whole z) behind octets valid small are_octets begins read =
    whole_spelled width z behind octets valid begins read
scalar_spelled width (flag b) behind octets valid small are_octets begins read =
    flag_spelled width b behind octets begins read
scalar_spelled width (real4 xs) behind octets valid small are_octets begins read =
    fixed_spelled 34 4 real4 xs behind octets same_real4 begins (λ tail is. sym (ap (object_in width) is) ∙ read)
scalar_spelled width (real8 xs) behind octets valid small are_octets begins read =
    fixed_spelled 35 8 real8 xs behind octets same_real8 begins (λ tail is. sym (ap (object_in width) is) ∙ read)
scalar_spelled width (moment xs) behind octets valid small are_octets begins read =
    fixed_spelled 51 8 moment xs behind octets same_moment begins (λ tail is. sym (ap (object_in width) is) ∙ read)
scalar_spelled width (bytes xs) behind octets valid small are_octets begins read =
    data_spelled width xs behind octets small are_octets begins read

-- an object that begins canonically has its canonical encoding
pub canonically_spelled : (width : ℕ) (held : Content) (behind octets : List ℕ) → IsContent held → IsCounted held → AreOctets octets → BeginsCanonically held octets → object_in width octets ≡ Ok (held, behind) → octets ≡ spelling_of width held ++ behind
canonically_spelled width (holds_scalar s) behind octets valid small are_octets begins read =
    scalar_spelled width s behind octets valid small are_octets begins read
canonically_spelled width (holds_list refs) behind octets valid small are_octets begins read =
    list_spelled width refs behind octets small are_octets begins read
canonically_spelled width (holds_table keys values) behind octets valid small are_octets begins read =
    table_spelled width keys values behind octets small valid are_octets begins read

begins_more : (first more behind octets : List ℕ) → octets ≡ (first ++ more) ++ behind → Begins first octets
begins_more first more behind octets is =
    ap (take (length first)) (is ∙ append_assoc first more behind) ∙ take_at first (more ++ behind) (length first) refl

begins_text : (us behind octets : List ℕ) (ascii : Bool) → octets ≡ cond ascii (head 5 (length us) ++ us) (head 6 (length us) ++ references 2 us) ++ behind → Begins (cond ascii (head 5 (length us)) (head 6 (length us))) octets
begins_text us behind octets true is = begins_more (head 5 (length us)) us behind octets is
begins_text us behind octets false is = begins_more (head 6 (length us)) (references 2 us) behind octets is

begins_scalar : (s : Scalar) (behind octets : List ℕ) → octets ≡ scalar_spelling s ++ behind → BeginsScalar s octets
begins_scalar (text us) behind octets is = begins_text us behind octets (list_all (λ u. ltb u 128) us) is
begins_scalar (whole z) behind octets is = rw is (take_at (whole_spelling z) behind (length (whole_spelling z)) refl)
begins_scalar (flag b) behind octets is = rw is (take_at (scalar_spelling (flag b)) behind (length (scalar_spelling (flag b))) refl)
begins_scalar (real4 xs) behind octets is = begins_more (34 ∷ []) xs behind octets is
begins_scalar (real8 xs) behind octets is = begins_more (35 ∷ []) xs behind octets is
begins_scalar (moment xs) behind octets is = begins_more (51 ∷ []) xs behind octets is
begins_scalar (bytes xs) behind octets is = begins_more (head 4 (length xs)) xs behind octets is

-- an object in its canonical encoding begins canonically
pub canonically_begun : (width : ℕ) (held : Content) (behind octets : List ℕ) → octets ≡ spelling_of width held ++ behind → BeginsCanonically held octets
canonically_begun width (holds_scalar s) behind octets is = begins_scalar s behind octets is
canonically_begun width (holds_list refs) behind octets is =
    begins_more (head 10 (length refs)) (references width refs) behind octets is
canonically_begun width (holds_table keys values) behind octets is =
    begins_more (head 13 (length keys)) (references width keys ++ references width values) behind octets is

-- an object has its shortest encoding if and only if it begins canonically
pub shortest_iff : (f : List ℕ) (i : ℕ) (octets : List ℕ) (held : Content) (behind : List ℕ) → octets_at f i ≡ Ok octets → object_in (trailer_of f).reference_width octets ≡ Ok (held, behind) → IsContent held → IsCounted held → AreOctets octets → (BeginsCanonically held octets → IsShortest f i) × (IsShortest f i → BeginsCanonically held octets)
shortest_iff f i octets held behind stands reads valid small are_octets =
    let width = (trailer_of f).reference_width in (
      λ begins. record {
        octets = octets;
        held = held;
        behind = behind;
        stands = stands;
        reads = reads;
        spelled = canonically_spelled width held behind octets valid small are_octets begins reads;
      },
      λ shortest.
          let same : shortest.octets ≡ octets = cc (shortest.stands, stands) in
          let again : object_in width octets ≡ Ok (shortest.held, shortest.behind) = sym (ap (object_in width) same) ∙ shortest.reads in
          let both = same_read shortest.held held shortest.behind behind (sym again ∙ reads) in
          let spelled : octets ≡ spelling_of width held ++ behind = sym same ∙ shortest.spelled ∙ rw (both.0, both.1) refl in
          canonically_begun width held behind octets spelled,
    )
