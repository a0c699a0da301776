-- Scalars in their canonical encoding, recognised by their first bytes.
use Rattle.std.proofs.Common.{◌≡◌, ℕ, ◌+◌, ◌*◌, ◌^◌, ◌<◌, ◌≤◌, Bool, true, false, cond, ltb, List, ◌++◌, length, take, drop, Result, Ok, Err, refl, sym, ap, ◌∙◌, arith, length-append, ⊎_elim}
use Rattle.std.specs.Prelude.{IsOk}
use Rattle.std.specs.List.{list_all}
use Rattle.std.proofs.Math.Seq.{take-append-add, drop-append_seam}
use Rattle.std.proofs.lemmas.Bool.{cases_lt, true≢false}
use Rattle.std.proofs.lemmas.List.{length-take-le}
use Rattle.plist_value.specs.Plist.{text, bytes, AreOctets}
use Rattle.plist_value.specs.Texts.{wide_units}
use Rattle.plist_object.specs.declared.object.ObjectFault.{ObjectFault}
use Rattle.plist_object.specs.declared.object.ObjectFault.TheVariants.{NotAscii}
use Rattle.plist_object.specs.Objects.{Content, holds_scalar, object_in, ◌>>=◌, marked_object, data_object, ascii_object, wide_object}
use Rattle.plist_object.specs.Layout.{trailer_of}
use Rattle.plist_object.specs.Places.{octets_at, object_at, what_holds}
use Rattle.plist_object.specs.Heads.{Begins}
use Rattle.plist_object.specs.Sizes.{head_size}
use Rattle.plist_object.specs.Spelling.{head, references, scalar_spelling}
use Rattle.plist_object.specs.Shortest.{BeginsShort, HasWideUnit, LeadsScalar, IsSpelledScalar}
use Rattle.plist_object.specs.Views.{first_of}
use Rattle.plist_object.proofs.CanonicalHeads.{headed, was_content, read_of}
use Rattle.plist_object.proofs.Counts.{length-head}
use Rattle.plist_object.proofs.ReadScalars.{length-pairs}
use Rattle.plist_object.proofs.SameOctets.{AreOctets-take, references-wide_units}

-- marker and count with m bytes of content after them
copied : (kind n m : ℕ) (octets tail : List ℕ) → octets ≡ head kind n ++ tail → take (head_size n + m) octets ≡ head kind n ++ take m tail
copied kind n m octets tail parts =
    rw (parts, ← length-head kind n) (take-append-add (head kind n) tail m)

inside : (kind n m : ℕ) (octets tail : List ℕ) → octets ≡ head kind n ++ tail → m ≤ length tail → head_size n + m ≤ length octets
inside kind n m octets tail parts enough =
    let long = ap length parts ∙ length-append (head kind n) tail in
    omega (arith, long, enough, length-head kind n)

-- the bytes after marker and count
behind_head : (kind n : ℕ) (octets tail : List ℕ) → octets ≡ head kind n ++ tail → drop (head_size n) octets ≡ tail
behind_head kind n octets tail parts =
    rw (parts, ← length-head kind n) (drop-append_seam (head kind n) tail)

data_leads : (width n : ℕ) (octets : List ℕ) (y : Content × List ℕ) → n < 2 ^ 64 → AreOctets octets → Begins (head 4 n) octets → object_in width octets ≡ Ok y → LeadsScalar width (head_size n + n) octets
unfolding marked_object data_object
data_leads width n octets y small are begins read =
    let h = headed width 4 n octets y small are begins read in
    let next : ℕ × List ℕ × List ℕ → Result (Content × List ℕ) ObjectFault = λ c. Ok (holds_scalar (bytes c.1), c.2) in
    let w = was_content 1 h.low n h.behind h.tail next y h.counts h.reads in
    let part = take (n * 1) h.tail in
    let all : n * 1 ≡ n = omega arith in
    let long : length part ≡ n = length-take-le (n * 1) h.tail w.enough ∙ all in
    record {
      scalar = bytes part;
      reads = ap first_of read ∙ ap first_of (sym w.goes_on);
      within = inside 4 n n octets h.tail h.parts (rw all at w.enough);
      spelled = copied 4 n n octets h.tail h.parts ∙ rw (long, all) refl;
    }

-- the ASCII string was decoded
record WasAscii (part rest : List ℕ) (y : Content × List ℕ) : Type 0 where
  ascii : list_all (λ u. ltb u 128) part ≡ true
  goes_on : read_of (holds_scalar (text part)) rest ≡ Ok y

was_ascii : (part rest : List ℕ) (y : Content × List ℕ) (ascii : Bool) → list_all (λ u. ltb u 128) part ≡ ascii → cond {A = Result (Content × List ℕ) ObjectFault} ascii (Ok (holds_scalar (text part), rest)) (Err NotAscii) ≡ Ok y → WasAscii part rest y
was_ascii part rest y true is e = record { ascii = is; goes_on = e }
was_ascii part rest y false is e = absurd cc

ascii_leads : (width n : ℕ) (octets : List ℕ) (y : Content × List ℕ) → n < 2 ^ 64 → AreOctets octets → Begins (head 5 n) octets → object_in width octets ≡ Ok y → LeadsScalar width (head_size n + n) octets
unfolding marked_object ascii_object
ascii_leads width n octets y small are begins read =
    let h = headed width 5 n octets y small are begins read in
    let next : ℕ × List ℕ × List ℕ → Result (Content × List ℕ) ObjectFault = λ c. cond (list_all (λ u. ltb u 128) c.1) (Ok (holds_scalar (text c.1), c.2)) (Err NotAscii) in
    let w = was_content 1 h.low n h.behind h.tail next y h.counts h.reads in
    let part = take (n * 1) h.tail in
    let was = was_ascii part (drop (n * 1) h.tail) y (list_all (λ u. ltb u 128) part) refl w.goes_on in
    let all : n * 1 ≡ n = omega arith in
    let long : length part ≡ n = length-take-le (n * 1) h.tail w.enough ∙ all in
    let spelled : scalar_spelling (text part) ≡ head 5 (length part) ++ part = rw was.ascii refl in
    record {
      scalar = text part;
      reads = ap first_of read ∙ ap first_of (sym was.goes_on);
      within = inside 5 n n octets h.tail h.parts (rw all at w.enough);
      spelled = copied 5 n n octets h.tail h.parts ∙ rw (long, all) refl ∙ sym spelled;
    }

pub read_at : (width : ℕ) (octets : List ℕ) (read : Result (Content × List ℕ) ObjectFault) → object_in width octets ≡ read → IsOk read → (y : Content × List ℕ) × (object_in width octets ≡ Ok y)
read_at width octets (Ok y) is reads = (y, is)
read_at width octets (Err e) is reads = absurd (true≢false (sym reads))

-- data or an ASCII string that begins canonically and can be decoded has its canonical encoding
pub plain-leads : (kind n : ℕ) (octets : List ℕ) → AreOctets octets → BeginsShort kind n octets → 4 ≤ kind → kind ≤ 5 → (width : ℕ) → IsOk (object_in width octets) → LeadsScalar width (head_size n + n) octets
plain-leads kind n octets are short least most width reads =
    let small : n < 2 ^ 64 = (let few = short.few in omega arith) in
    let read = read_at width octets (object_in width octets) refl reads in
    ⊎_elim
    (λ (below : kind < 5).
    let is_data : kind ≡ 4 = omega arith in
    let begins : Begins (head 4 n) octets = rw is_data at short.begins in
    data_leads width n octets read.0 small are begins read.1)
    (λ (over : 5 ≤ kind).
    let is_ascii : kind ≡ 5 = omega arith in
    let begins : Begins (head 5 n) octets = rw is_ascii at short.begins in
    ascii_leads width n octets read.0 small are begins read.1)
    (cases_lt kind 5)

-- a UTF-16 string with a unit that is not ASCII
wide_leads : (width n : ℕ) (octets : List ℕ) (y : Content × List ℕ) → n < 2 ^ 64 → AreOctets octets → Begins (head 6 n) octets → HasWideUnit n octets → object_in width octets ≡ Ok y → LeadsScalar width (head_size n + 2 * n) octets
unfolding marked_object wide_object
wide_leads width n octets y small are begins has_wide read =
    let h = headed width 6 n octets y small are begins read in
    let next : ℕ × List ℕ × List ℕ → Result (Content × List ℕ) ObjectFault = λ c. Ok (holds_scalar (text (wide_units c.1)), c.2) in
    let w = was_content 2 h.low n h.behind h.tail next y h.counts h.reads in
    let part = take (2 * n) h.tail in
    let twice : n * 2 ≡ 2 * n = omega arith in
    let enough : 2 * n ≤ length h.tail = rw twice at w.enough in
    let size : length part ≡ n * 2 = length-take-le (2 * n) h.tail enough ∙ sym twice in
    let same : references 2 (wide_units part) ≡ part = references-wide_units n part (AreOctets-take (2 * n) h.tail h.tail_octets) size in
    let pairs = length-pairs (wide_units part) in
    let long : length (wide_units part) ≡ n = omega (arith, pairs, ap length same, size) in
    let is_wide : list_all (λ u. ltb u 128) (wide_units part) ≡ false = rw (behind_head 6 n octets h.tail h.parts) at has_wide in
    let spelled : scalar_spelling (text (wide_units part)) ≡ head 6 n ++ part = rw (is_wide, long, same) refl in
    record {
      scalar = text (wide_units part);
      reads = ap first_of read ∙ ap first_of (sym (rw twice at w.goes_on));
      within = inside 6 n (2 * n) octets h.tail h.parts enough;
      spelled = copied 6 n (2 * n) octets h.tail h.parts ∙ sym spelled;
    }

pub wide-leads : (n : ℕ) (octets : List ℕ) → AreOctets octets → BeginsShort 6 n octets → HasWideUnit n octets → (width : ℕ) → IsOk (object_in width octets) → LeadsScalar width (head_size n + 2 * n) octets
wide-leads n octets are short has_wide width reads =
    let small : n < 2 ^ 64 = (let few = short.few in omega arith) in
    let read = read_at width octets (object_in width octets) refl reads in
    wide_leads width n octets read.0 small are short.begins has_wide read.1

held_first : (read : Result (Content × List ℕ) ObjectFault) → (read >>= λ p. Ok p.0) ≡ first_of read
held_first (Ok p) = refl
held_first (Err e) = refl

-- like the lemmas above, for an object of a file
pub spelled-at : (f : List ℕ) (i n : ℕ) (octets : List ℕ) → octets_at f i ≡ Ok octets → IsOk (object_at f i) → ((width : ℕ) → IsOk (object_in width octets) → LeadsScalar width n octets) → IsSpelledScalar f i (take n octets)
unfolding object_at what_holds
spelled-at f i n octets stands reads leads =
    let width = (trailer_of f).reference_width in
    let read : IsOk (object_in width octets) = rw stands at reads in
    let first = leads width read in
    record {
      scalar = first.scalar;
      reads = rw stands (held_first (object_in width octets) ∙ first.reads);
      spelled = first.spelled;
    }
