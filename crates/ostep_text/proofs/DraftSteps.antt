-- A draft after one more item or row.
use Rattle.std.proofs.Common.{◌≡◌, ℕ, Bool, List, [], ◌∷◌, ◌++◌, length, Result, Ok, Err, IfErr, refl, sym, ap, subst, ◌∙◌, arith, length-append}
use Rattle.std.specs.Prelude.{◌||◌, nat_eq}
use Rattle.std.specs.Cmp.Lexicographic.{pointwise}
use Rattle.std.specs.List.{zip}
use Rattle.std.specs.List.Sorted.{IsPermutation}
use Rattle.std.proofs.lemmas.List.Sorted.{IsPermutation-refl, IsPermutation-sym, IsPermutation-cons, IsPermutation-middle, IsPermutation-push_more, IsPermutation-trans}
use Rattle.plist_value.specs.Plist.{Plist, Items, no_items, item, Pairs, no_pairs}
use Rattle.plist_value.proofs.Items.{push}
use Rattle.plist_object.specs.Objects.{Content}
use Rattle.plist_draft.specs.View.{objects}
use Rattle.plist_draft.specs.declared.draft.Draft.{Draft}
use Rattle.plist_draft.specs.Encoded.{Keeps, SpellsIn, SpellItemsIn, SpellPairsIn}
use Rattle.ostep_text.specs.Drafted.{SpellsRow, SpellsRows}
use Rattle.ostep_text.specs.KeySet.{in_set, HasKeysOf}
use Rattle.ostep_text.specs.Sorting.{has_key, StandsAmong, first, later}
use Rattle.ostep_text.specs.Stands.{Stands}
use Rattle.ostep_text.specs.declared.fault.TextFault.{TextFault}
use Rattle.ostep_text.specs.declared.fault.TextFault.TheVariants.{OutOfMemory}
use Rattle.ostep_text.specs.declared.key_set.KeySet.{KeySet}
use Rattle.ostep_text.specs.declared.entries.Entries.{Entries}
use Rattle.ostep_text.proofs.SortingSteps.{among_has}

pub keeps-all : (helds : List Content) → Keeps helds helds
keeps-all helds = record { value = λ i v s. s; items = λ refs vs s. s; pairs = λ rows ps s. s }

pub keeps-then : {a b c : List Content} → Keeps a b → Keeps b c → Keeps a c
keeps-then k l = record {
  value = λ i v s. l.value i v (k.value i v s);
  items = λ refs vs s. l.items refs vs (k.items refs vs s);
  pairs = λ rows ps s. l.pairs rows ps (k.pairs rows ps s);
}

pub spell-push : (helds : List Content) (refs : List ℕ) (i : ℕ) (vs : Items) (v : Plist) → SpellItemsIn helds refs vs → SpellsIn helds i v → SpellItemsIn helds (refs ++ i ∷ []) (push vs v)
spell-push helds [] i no_items v s t = (t, refl)
spell-push helds (r ∷ refs) i no_items v s t = absurd (cc s)
spell-push helds [] i (item w vs) v s t = absurd s
spell-push helds (r ∷ refs) i (item w vs) v s t = (s.0, spell-push helds refs i vs v s.1 t)

zip-push : (keys values : List ℕ) (k v : ℕ) → length keys ≡ length values → zip (keys ++ k ∷ []) (values ++ v ∷ []) ≡ zip keys values ++ (k, v) ∷ []
zip-push [] [] k v e = refl
zip-push (n ∷ keys) (w ∷ values) k v e = ap (λ l. (n, w) ∷ l) (zip-push keys values k v (omega arith))
zip-push _ _ k v e = absurd (omega arith)

zip-more : (keys all_keys values all_values : List ℕ) (row : ℕ × ℕ) → all_keys ≡ keys ++ row.0 ∷ [] → all_values ≡ values ++ row.1 ∷ [] → length keys ≡ length values
    → zip all_keys all_values ≡ zip keys values ++ row ∷ []
zip-more keys all_keys values all_values row e g even =
    ap (λ l. zip l all_values) e ∙ ap (λ l. zip (keys ++ row.0 ∷ []) l) g ∙ zip-push keys values row.0 row.1 even

-- the references of rows with one more at its place
record Located (helds : List Content) (row : ℕ × ℕ) (moved : List (ℕ × ℕ)) (all : Pairs) : Type 0 where
  refs : List (ℕ × ℕ)
  same : IsPermutation (row ∷ moved) refs
  spell : SpellPairsIn helds refs all

place : (helds : List Content) (row : ℕ × ℕ) {key : List ℕ} {v : Plist} (moved : List (ℕ × ℕ)) {ps all : Pairs} → SpellsRow helds key row v → SpellPairsIn helds moved ps
    → StandsAmong key v ps all → Located helds row moved all
place helds row moved r s first = record { refs = row ∷ moved; same = IsPermutation-refl (row ∷ moved); spell = (r.0, r.1, s) }
place helds row [] r s (later a) = absurd s
place helds row (m ∷ moved) r s (later a) =
    let p = place helds row moved r s.2 a in
    record {
      refs = m ∷ p.refs;
      same = IsPermutation-trans (row ∷ m ∷ moved) (m ∷ row ∷ moved) (m ∷ p.refs)
          (IsPermutation-sym (m ∷ row ∷ moved) (row ∷ m ∷ moved) (IsPermutation-middle (m ∷ []) row moved))
          (IsPermutation-cons m (row ∷ moved) p.refs p.same);
      spell = (s.0, s.1, p.spell);
    }

none-zip : (keys values : List ℕ) → keys ≡ [] → values ≡ [] → IsPermutation (zip keys values) []
none-zip [] values e g = IsPermutation-refl []
none-zip (k ∷ keys) values e g = absurd (cc e)

pub rows-none : (helds : List Content) (rows : Entries) → rows.keys.items ≡ [] → rows.values.items ≡ [] → SpellsRows helds rows no_pairs
rows-none helds rows e g = record { moved = []; same = none-zip rows.keys.items rows.values.items e g; spell = refl }

pub rows-more : (old new : List Content) (rows all : Entries) (row : ℕ × ℕ) {key : List ℕ} {v : Plist} {ps pairs : Pairs} → all.keys.items ≡ rows.keys.items ++ row.0 ∷ []
    → all.values.items ≡ rows.values.items ++ row.1 ∷ [] → length rows.keys.items ≡ length rows.values.items → Keeps old new → SpellsRows old rows ps → SpellsRow new key row v
    → StandsAmong key v ps pairs → SpellsRows new all pairs
rows-more old new rows all row {ps = ps} e g even k s r a =
    let p = place new row s.moved r (k.pairs s.moved ps s.spell) a in
    record {
      moved = p.refs;
      same = subst (λ l. IsPermutation l p.refs) (sym (zip-more rows.keys.items all.keys.items rows.values.items all.values.items row e g even))
          (IsPermutation-push_more (zip rows.keys.items rows.values.items) s.moved p.refs row s.same p.same);
      spell = p.spell;
    }

pub keys-more : (old new : KeySet) {key : List ℕ} {v : Plist} {ps all : Pairs} → HasKeysOf old ps → StandsAmong key v ps all
    → ((other : List ℕ) → in_set new other ≡ (pointwise nat_eq other key || in_set old other)) → HasKeysOf new all
keys-more old new {key} h a more = λ other. more other ∙ ap (λ b. pointwise nat_eq other key || b) (h other) ∙ sym (among_has other a)

-- out of memory is true of all bytes
pub no-memory : {T : Type 0} (octets : List ℕ) (r : Result T TextFault) → IfErr r (λ f. f ≡ OutOfMemory) → IfErr r (Stands octets)
no-memory octets (Ok x) e = tt
no-memory octets (Err f) e = subst (λ g. Stands octets g) (sym e) tt

pub memory-stands : (octets : List ℕ) (f : TextFault) → f ≡ OutOfMemory → Stands octets f
memory-stands octets f e = subst (λ g. Stands octets g) (sym e) tt

pub keeps-from : {old same : Draft} {new : List Content} → same ≡ old → Keeps (objects same) new → Keeps (objects old) new
keeps-from {new = new} e k = subst (λ d. Keeps (objects d) new) e k

pub rows-even : (rows all : Entries) (row : ℕ × ℕ) → all.keys.items ≡ rows.keys.items ++ row.0 ∷ [] → all.values.items ≡ rows.values.items ++ row.1 ∷ []
    → length rows.keys.items ≡ length rows.values.items → length all.keys.items ≡ length all.values.items
rows-even rows all row e g even =
    let k : length all.keys.items ≡ length (rows.keys.items ++ row.0 ∷ []) = ap length e in
    let v : length all.values.items ≡ length (rows.values.items ++ row.1 ∷ []) = ap length g in
    omega (arith, length-append rows.keys.items (row.0 ∷ []), length-append rows.values.items (row.1 ∷ []))

pub none-even : (rows : Entries) → rows.keys.items ≡ [] → rows.values.items ≡ [] → length rows.keys.items ≡ length rows.values.items
none-even rows e g = ap length e ∙ sym (ap length g)

pub known-is : (keys : KeySet) (ps : Pairs) {known : Bool} (key : List ℕ) → HasKeysOf keys ps → known ≡ in_set keys key → has_key key ps ≡ known
known-is keys ps key h e = sym (h key) ∙ sym e
