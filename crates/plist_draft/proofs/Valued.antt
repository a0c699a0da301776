-- What the items and entries encode that were appended, and those that remain.
use Rattle.std.proofs.Common.{◌≡◌, ℕ, Result, Ok, Err, IfOk, List, [], ◌∷◌, ◌++◌, length, refl, sym, ap, subst, ◌∙◌, arith, append_assoc, length-append}
use Rattle.std.specs.List.{zip}
use Rattle.std.specs.List.Sorted.{IsPermutation}
use Rattle.std.proofs.lemmas.List.{append-nil}
use Rattle.std.proofs.lemmas.List.Sorted.{IsPermutation-refl}
use Rattle.plist_value.specs.Plist.{text, Plist, scalar, Items, no_items, item, Pairs, no_pairs, pair, table}
use Rattle.plist_value.proofs.Items.{push}
use Rattle.plist_object.specs.Objects.{Content}
use Rattle.plist_draft.specs.Encoded.{Keeps, SpellsIn, SpellItemsIn, SpellPairsIn}

pub Keeps-itself : (helds : List Content) → Keeps helds helds
Keeps-itself helds = record { value = λ i v h. h; items = λ refs vs h. h; pairs = λ rows ps h. h }

pub Keeps-both : (first second third : List Content) → Keeps first second → Keeps second third → Keeps first third
Keeps-both first second third a b = record {
  value = λ i v h. b.value i v (a.value i v h);
  items = λ refs vs h. b.items refs vs (a.items refs vs h);
  pairs = λ rows ps h. b.pairs rows ps (a.pairs rows ps h);
}

-- one more item
pub items-push : (helds : List Content) (refs : List ℕ) (vs : Items) (n : ℕ) (v : Plist) → SpellItemsIn helds refs vs → SpellsIn helds n v → SpellItemsIn helds (refs ++ (n ∷ [])) (push vs v)
items-push helds [] no_items n v spells one = (one, refl)
items-push helds (r ∷ refs) no_items n v spells one = absurd (let none : r ∷ refs ≡ [] = spells in cc)
items-push helds [] (item w vs) n v spells one = absurd spells
items-push helds (r ∷ refs) (item w vs) n v spells one = (spells.0, items-push helds refs vs n v spells.1 one)

zip-last : (xs ys : List ℕ) (x y : ℕ) → length xs ≡ length ys → zip (xs ++ (x ∷ [])) (ys ++ (y ∷ [])) ≡ zip xs ys ++ ((x, y) ∷ [])
zip-last [] [] x y same = refl
zip-last (w ∷ ws) (z ∷ zs) x y same = ap (λ (rows : List (ℕ × ℕ)). (w, z) ∷ rows) (zip-last ws zs x y (omega arith))
zip-last _ _ x y same = absurd (omega arith)

-- if the remaining numbers encode the remaining entries, then all numbers encode all entries
pub record PairsLeft (helds : List Content) (keys values : List ℕ) (left all : Pairs) : Type 0 where
  pub same : length keys ≡ length values
  pub ends : (later : List Content) (rest : List (ℕ × ℕ)) → Keeps helds later → SpellPairsIn later rest left → SpellPairsIn later (zip keys values ++ rest) all

pub pairs-next : (helds between after : List Content) (keys values keys_pushed values_pushed : List ℕ) (k n : ℕ) (key : List ℕ) (v : Plist) (left rest all : Pairs) → Keeps helds between → SpellsIn between k (scalar (text key)) → Keeps between after → SpellsIn after n v → left ≡ pair key v rest → keys_pushed ≡ keys ++ (k ∷ []) → values_pushed ≡ values ++ (n ∷ []) → PairsLeft helds keys values left all → PairsLeft after keys_pushed values_pushed rest all
pairs-next helds between after keys values keys_pushed values_pushed k n key v left rest all keeps_first spells_key keeps spells first key_added value_added begun =
    let before = begun.same in
    let zipped : zip keys_pushed values_pushed ≡ zip keys values ++ ((k, n) ∷ []) = rw (key_added, value_added) (zip-last keys values k n before) in
    record {
      same = rw (key_added, value_added) (simp length-append (omega arith));
      ends = λ later rows keeps_later encoded.
          let moved : zip keys_pushed values_pushed ++ rows ≡ zip keys values ++ ((k, n) ∷ rows) = ap (λ (xs : List (ℕ × ℕ)). xs ++ rows) zipped ∙ append_assoc (zip keys values) ((k, n) ∷ []) rows in
          let to_later = Keeps-both between after later keeps keeps_later in
          let pair_encoded : SpellPairsIn later ((k, n) ∷ rows) (pair key v rest) = (to_later.value k (scalar (text key)) spells_key, keeps_later.value n v spells, encoded) in
          let left_encoded = subst (λ (ps : Pairs). SpellPairsIn later ((k, n) ∷ rows) ps) (sym first) pair_encoded in
          subst (λ (xs : List (ℕ × ℕ)). SpellPairsIn later xs all) (sym moved) (begun.ends later ((k, n) ∷ rows) (Keeps-both helds between later keeps_first to_later) left_encoded);
    }

pub pairs-end : (helds : List Content) (keys values : List ℕ) (left all : Pairs) → left ≡ no_pairs → PairsLeft helds keys values left all → SpellPairsIn helds (zip keys values) all
pairs-end helds keys values left all none begun =
    let encoded : SpellPairsIn helds [] left = rw none refl in
    subst (λ (rows : List (ℕ × ℕ)). SpellPairsIn helds rows all) (append-nil (zip keys values)) (begun.ends helds [] (Keeps-itself helds) encoded)

-- a dictionary of entries in order
pub table-put : {E : Type 0} (helds after : List Content) (keys values : List ℕ) (ps : Pairs) (put : Result ℕ E) → SpellPairsIn helds (zip keys values) ps → IfOk put (λ number. (rows : List (ℕ × ℕ)) (qs : Pairs) → IsPermutation (zip keys values) rows → SpellPairsIn helds rows qs → SpellsIn after number (table qs)) → IfOk put (λ number. SpellsIn after number (table ps))
table-put helds after keys values ps (Ok number) encoded spells = spells (zip keys values) ps (IsPermutation-refl (zip keys values)) encoded
table-put helds after keys values ps (Err error) encoded spells = tt
