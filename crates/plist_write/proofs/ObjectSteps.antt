-- The objects, one after another.
use Rattle.std.proofs.Common.{◌≡◌, ℕ, ◌+◌, ◌<◌, ◌≤◌, List, [], ◌∷◌, ◌++◌, length, get_or, drop, sym, ap, subst, ◌∙◌, arith, length-append, append_assoc}
use Rattle.std.specs.List.{concat}
use Rattle.std.proofs.lemmas.List.{drop_more, drop_all, append-nil}
use Rattle.plist_object.specs.Shortest.{spelling_of}
use Rattle.plist_object.specs.Files.{starts}
use Rattle.plist_write.specs.Spelling.{IsRead}
use Rattle.plist_write.specs.Pieces.{CanSpell, CanSpellAll}
use Rattle.plist_write.specs.Renumbering.{held_in, reference_count, renumbered, helds_of, AreSound, octets_for}

-- what object i requires of the file and of the numbers
pub record Sound (f : List ℕ) (x : ℕ) (numbers : List ℕ) : Type 0 where
  pub read : IsRead f x
  pub enough : reference_count (held_in f x) ≤ length numbers

pub sound-next : (f start : List ℕ) (i x : ℕ) (numbers : List ℕ) → i < length start → x ≡ get_or start i x → AreSound f (drop i start) numbers → Sound f x numbers
sound-next f start i x numbers h is sound =
    let split : drop i start ≡ x ∷ drop (i + 1) start = drop_more start i x h ∙ ap (λ y. y ∷ drop (i + 1) start) (sym is) in
    let both = subst (λ (os : List ℕ). AreSound f os numbers) split sound in
    record { read = both.0; enough = both.1.0 }

-- object i, which is x, can be encoded, and what remains after it
pub record Step (width : ℕ) (f start : List ℕ) (i x : ℕ) (numbers behind octets : List ℕ) : Type 0 where
  pub below : i < length start
  pub here : CanSpell width (renumbered (held_in f x) numbers)
  pub sound : AreSound f (drop (i + 1) start) behind
  pub spellable : CanSpellAll width (helds_of f (drop (i + 1) start) behind)
  pub split : octets_for width f (drop i start) numbers ≡ octets ∷ octets_for width f (drop (i + 1) start) behind

pub step : (width : ℕ) (f start : List ℕ) (i x : ℕ) (numbers behind octets : List ℕ) → i < length start → x ≡ get_or start i x → octets ≡ spelling_of width (renumbered (held_in f x) numbers) → behind ≡ drop (reference_count (held_in f x)) numbers → AreSound f (drop i start) numbers → CanSpellAll width (helds_of f (drop i start) numbers) → Step width f start i x numbers behind octets
step width f start i x numbers behind octets h is is_part is_behind sound spellable =
    let split : drop i start ≡ x ∷ drop (i + 1) start = drop_more start i x h ∙ ap (λ y. y ∷ drop (i + 1) start) (sym is) in
    let left = drop (i + 1) start in
    let both = subst (λ (os : List ℕ). AreSound f os numbers) split sound in
    let can = subst (λ (os : List ℕ). CanSpellAll width (helds_of f os numbers)) split spellable in
    record {
      below = h;
      here = can.0;
      sound = subst (λ (rs : List ℕ). AreSound f left rs) (sym is_behind) both.1.1;
      spellable = subst (λ (rs : List ℕ). CanSpellAll width (helds_of f left rs)) (sym is_behind) can.1;
      split = ap (λ os. octets_for width f os numbers) split ∙ ap (λ rs. spelling_of width (renumbered (held_in f x) numbers) ∷ octets_for width f left rs) (sym is_behind) ∙ ap (λ os. os ∷ octets_for width f left behind) (sym is_part);
    }

pub measured-next : (offset size all : ℕ) (octets : List ℕ) (left rest : List (List ℕ)) → size ≡ length octets → left ≡ octets ∷ rest → offset + length (concat left) ≡ all → (offset + size + length (concat rest) ≡ all) × (size ≤ length (concat left))
measured-next offset size all octets left rest long split measured =
    let sizes = ap (λ os. length (concat os)) split ∙ length-append octets (concat rest) in (omega arith, omega arith)

pub none-left : (width : ℕ) (f start : List ℕ) (i : ℕ) (numbers : List ℕ) → length start ≤ i → octets_for width f (drop i start) numbers ≡ []
none-left width f start i numbers past = ap (λ os. octets_for width f os numbers) (drop_all i start past)

pub split-next : (done octets all : List ℕ) (left rest : List (List ℕ)) → left ≡ octets ∷ rest → done ++ concat left ≡ all → (done ++ octets) ++ concat rest ≡ all
split-next done octets all left rest split so_far =
    append_assoc done octets (concat rest) ∙ ap (λ os. done ++ concat os) (sym split) ∙ so_far

pub split-end : (done all : List ℕ) (left : List (List ℕ)) → left ≡ [] → done ++ concat left ≡ all → done ≡ all
split-end done all left none so_far = sym (append-nil done) ∙ ap (λ os. done ++ concat os) (sym none) ∙ so_far

pub placed-next : (offsets pushed : List ℕ) (offset size : ℕ) (octets : List ℕ) (left rest all : List (List ℕ)) → pushed ≡ offsets ++ (offset ∷ []) → size ≡ length octets → left ≡ octets ∷ rest → offsets ++ starts offset left ≡ starts 8 all → pushed ++ starts (offset + size) rest ≡ starts 8 all
placed-next offsets pushed offset size octets left rest all added long split so_far =
    ap (λ ps. ps ++ starts (offset + size) rest) added ∙ append_assoc offsets (offset ∷ []) (starts (offset + size) rest) ∙ ap (λ n. offsets ++ (offset ∷ starts (offset + n) rest)) long ∙ ap (λ os. offsets ++ starts offset os) (sym split) ∙ so_far

pub placed-end : (offsets : List ℕ) (offset : ℕ) (left all : List (List ℕ)) → left ≡ [] → offsets ++ starts offset left ≡ starts 8 all → offsets ≡ starts 8 all
placed-end offsets offset left all none so_far =
    sym (append-nil offsets) ∙ ap (λ os. offsets ++ starts offset os) (sym none) ∙ so_far
