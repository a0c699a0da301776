-- Scalars whose marker determines their size and shows that their encoding is canonical.
use Rattle.std.proofs.Common.{◌≡◌, ℕ, suc, ◌%◌, ◌<◌, ◌≤◌, true, false, pos, List, [], ◌∷◌, ◌++◌, length, take, drop, Ok, refl, sym, ap, ◌∙◌, arith, length-append, lt-ltb}
use Rattle.std.specs.Prelude.{IsOk}
use Rattle.std.proofs.lemmas.List.{take_at, take-append-drop, length-take-le}
use Rattle.std.proofs.lemmas.Int.{ints}
use Rattle.plist_value.specs.Plist.{Scalar, whole, flag, real4, real8, moment, AreOctets, IsOctetsOf, IsScalar}
use Rattle.plist_object.specs.Objects.{Content, holds_scalar, object_in, cut, ◌>>=◌, marked_object, whole_object, real_object, moment_object}
use Rattle.plist_object.specs.Sizes.{IsSmall}
use Rattle.plist_object.specs.Spelling.{scalar_spelling}
use Rattle.plist_object.specs.Shortest.{BeginsFixed, IsFixed, no, yes, octet, short, long, date, LeadsScalar}
use Rattle.plist_object.specs.Views.{first_of}
use Rattle.plist_object.proofs.CanonicalHeads.{split_head, was_cut, read_of}
use Rattle.plist_object.proofs.Copies.{read_at}
use Rattle.plist_object.proofs.ReadScalars.{object_in-scalar}
use Rattle.plist_object.proofs.SameOctets.{AreOctets-take, AreOctets-drop}

-- the encoding of a scalar with other bytes after it
pub leads : (width n : ℕ) (s : Scalar) (octets tail : List ℕ) → IsScalar s → IsSmall s → octets ≡ scalar_spelling s ++ tail → length (scalar_spelling s) ≡ n → LeadsScalar width n octets
leads width n s octets tail valid small parts size = record {
  scalar = s;
  reads = ap first_of (ap (object_in width) parts ∙ object_in-scalar width s tail valid small);
  within = (let all = ap length parts ∙ length-append (scalar_spelling s) tail in omega (arith, all, size));
  spelled = ap (take n) parts ∙ take_at (scalar_spelling s) tail n size;
}

-- the first n bytes are the content of a scalar of n bytes
part_of : (n : ℕ) (tail : List ℕ) → AreOctets tail → n ≤ length tail → IsOctetsOf n (take n tail)
part_of n tail are enough = record { long = length-take-le n tail enough; octets = AreOctets-take n tail are }

parted : (marker n : ℕ) (octets tail : List ℕ) → octets ≡ marker ∷ tail → octets ≡ (marker ∷ take n tail) ++ drop n tail
parted marker n octets tail parts = parts ∙ ap (λ (xs : List ℕ). marker ∷ xs) (sym (take-append-drop n tail))

-- an integer of one byte
one_leads : (width d : ℕ) (octets rest : List ℕ) → d < 256 → octets ≡ 16 ∷ d ∷ rest → LeadsScalar width 2 octets
one_leads width d octets rest small parts =
    let low : d % 256 ≡ d = omega arith in
    let spelled : scalar_spelling (whole (pos d)) ≡ 16 ∷ d ∷ [] = rw (lt-ltb d 9223372036854775808 (omega arith), lt-ltb d 256 small, low) refl in
    let valid : IsScalar (whole (pos d)) = record { least = omega (arith, ints); most = omega (arith, ints) } in
    leads width 2 (whole (pos d)) octets rest valid tt (rw spelled parts) (rw spelled refl)

whole_leads : (width : ℕ) (octets tail : List ℕ) (y : Content × List ℕ) → AreOctets tail → octets ≡ 16 ∷ tail → object_in width (16 ∷ tail) ≡ Ok y → LeadsScalar width 2 octets
unfolding marked_object whole_object
whole_leads width octets [] y are parts read = absurd cc
whole_leads width octets (d ∷ rest) y are parts read = one_leads width d octets rest (are 0) parts

-- a marker with n bytes after it
shown_leads : (width marker n : ℕ) (shows : List ℕ → Scalar) (octets tail : List ℕ) (y : Content × List ℕ) → AreOctets tail → octets ≡ marker ∷ tail → ((xs : List ℕ) → IsOctetsOf n xs → IsScalar (shows xs)) → ((xs : List ℕ) → IsSmall (shows xs)) → ((xs : List ℕ) → scalar_spelling (shows xs) ≡ marker ∷ xs) → (cut n tail >>= λ parts. read_of (holds_scalar (shows parts.0)) parts.1) ≡ Ok y → LeadsScalar width (suc n) octets
shown_leads width marker n shows octets tail y are parts valid small spelled reads =
    let w = was_cut n tail (λ parts. read_of (holds_scalar (shows parts.0)) parts.1) y reads in
    let xs = take n tail in
    let has = part_of n tail are w.enough in
    let all : octets ≡ scalar_spelling (shows xs) ++ drop n tail = parted marker n octets tail parts ∙ ap (λ (zs : List ℕ). zs ++ drop n tail) (sym (spelled xs)) in
    leads width (suc n) (shows xs) octets (drop n tail) (valid xs has) (small xs) all (ap length (spelled xs) ∙ ap suc has.long)

marked_leads : (width marker n : ℕ) (octets tail : List ℕ) (y : Content × List ℕ) → IsFixed marker n → AreOctets tail → octets ≡ marker ∷ tail → object_in width (marker ∷ tail) ≡ Ok y → LeadsScalar width n octets
unfolding marked_object real_object moment_object
marked_leads width marker n octets tail y no are parts read = leads width 1 (flag false) octets tail tt tt parts refl
marked_leads width marker n octets tail y yes are parts read = leads width 1 (flag true) octets tail tt tt parts refl
marked_leads width marker n octets tail y octet are parts read = whole_leads width octets tail y are parts read
marked_leads width marker n octets tail y short are parts read = shown_leads width 34 4 real4 octets tail y are parts (λ xs is. is) (λ xs. tt) (λ xs. refl) read
marked_leads width marker n octets tail y long are parts read = shown_leads width 35 8 real8 octets tail y are parts (λ xs is. is) (λ xs. tt) (λ xs. refl) read
marked_leads width marker n octets tail y date are parts read = shown_leads width 51 8 moment octets tail y are parts (λ xs is. is) (λ xs. tt) (λ xs. refl) read

-- an object with such a marker is a scalar in its canonical encoding, if it can be decoded
pub fixed-leads : (n : ℕ) (octets : List ℕ) → AreOctets octets → BeginsFixed n octets → (width : ℕ) → IsOk (object_in width octets) → LeadsScalar width n octets
fixed-leads n octets are begins width reads =
    let tail = drop 1 octets in
    let parts : octets ≡ begins.marker ∷ tail = split_head (begins.marker ∷ []) octets begins.begins in
    let read = read_at width octets (object_in width octets) refl reads in
    marked_leads width begins.marker n octets tail read.0 begins.fixed (AreOctets-drop 1 octets are) parts (sym (ap (object_in width) parts) ∙ read.1)
