-- A printed value is determined by the start of the text.
use Rattle.std.proofs.Common.{◌≡◌, ℕ, suc, List, [], ◌∷◌, ◌++◌, refl, sym, ap, ◌∙◌, arith, append_assoc}
use Rattle.std.specs.Prelude.{codes}
use Rattle.std.proofs.lemmas.List.{append_cancel_left}
use Rattle.plist_value.specs.Plist.{text, Plist, scalar, list, table, Items, no_items, item, Pairs, no_pairs, pair, IsScalar, IsPlist, AreItems, ArePairs}
use Rattle.plist_print.specs.Units.{printed_text}
use Rattle.plist_print.specs.Printed.{indent, printed_at, printed_items, printed_pairs}
use Rattle.plist_print.proofs.Fronts.{head_of, tail_of, kind_of_head}
use Rattle.plist_print.proofs.Endings.{regrouped, unrolled, ending, endings-front, ending-no_row}
use Rattle.plist_print.proofs.ScalarFronts.{kind_of, small-kind, text-front, line-front, line-kind}

-- an item of an array, and the items after it
item-front : (level : ℕ) (v w : Plist) (vs ws : Items) (r s : List ℕ)
    → ((x y : List ℕ) → printed_at level v ++ x ≡ printed_at level w ++ y → (v ≡ w) × (x ≡ y))
    → (printed_items level vs ++ r ≡ printed_items level ws ++ s → (vs ≡ ws) × (r ≡ s))
    → printed_items level (item v vs) ++ r ≡ printed_items level (item w ws) ++ s → (item v vs ≡ item w ws) × (r ≡ s)
item-front level v w vs ws r s value items same =
    let p = printed_items level vs in
    let q = printed_items level ws in
    let long = sym (regrouped (indent level) (printed_at level v) p r) ∙ same ∙ regrouped (indent level) (printed_at level w) q s in
    let e = append_cancel_left (indent level) (printed_at level v ++ (p ++ r)) (printed_at level w ++ (q ++ s)) long in
    let one = value (p ++ r) (q ++ s) e in
    let rest = items one.1 in
    (ap (λ x. item x vs) one.0 ∙ ap (item w) rest.0, rest.1)

pair-front : (level : ℕ) (key next : List ℕ) (v w : Plist) (ps qs : Pairs) (r s : List ℕ) → IsScalar (text key) → IsScalar (text next)
    → ((x y : List ℕ) → printed_at level v ++ x ≡ printed_at level w ++ y → (v ≡ w) × (x ≡ y))
    → (printed_pairs level ps ++ r ≡ printed_pairs level qs ++ s → (ps ≡ qs) × (r ≡ s))
    → printed_pairs level (pair key v ps) ++ r ≡ printed_pairs level (pair next w qs) ++ s → (pair key v ps ≡ pair next w qs) × (r ≡ s)
pair-front level key next v w ps qs r s h k value pairs same =
    let p = printed_pairs level ps in
    let q = printed_pairs level qs in
    let long = sym (unrolled (indent level) (printed_text key) (codes " => ") (printed_at level v) p r) ∙ same ∙ unrolled (indent level) (printed_text next) (codes " => ") (printed_at level w) q s in
    let e = append_cancel_left (indent level) (printed_text key ++ (codes " => " ++ (printed_at level v ++ (p ++ r)))) (printed_text next ++ (codes " => " ++ (printed_at level w ++ (q ++ s)))) long in
    let f = text-front key next (codes " => " ++ (printed_at level v ++ (p ++ r))) (codes " => " ++ (printed_at level w ++ (q ++ s))) h k e in
    let g = append_cancel_left (codes " => ") (printed_at level v ++ (p ++ r)) (printed_at level w ++ (q ++ s)) f.1 in
    let one = value (p ++ r) (q ++ s) g in
    let rest = pairs one.1 in
    (ap (λ x. pair x v ps) f.0 ∙ ap (λ x. pair next x ps) one.0 ∙ ap (pair next w) rest.0, rest.1)

-- the kind of a value, which the first byte of its text determines
abbrev kind_of_value : Plist → ℕ
kind_of_value (scalar s) = kind_of s
kind_of_value (list vs) = 5
kind_of_value (table ps) = 6

-- the first byte of a value determines its kind, and is no closing bracket
value-kind : (level : ℕ) (v : Plist) (r : List ℕ) → IsPlist v → kind_of_head (head_of (printed_at level v ++ r)) ≡ kind_of_value v
value-kind level (scalar s) r h = line-kind level s r h
value-kind level (list no_items) r h = refl
value-kind level (list (item v vs)) r h = refl
value-kind level (table no_pairs) r h = refl
value-kind level (table (pair key v ps)) r h = refl

values-kind : (level : ℕ) (v w : Plist) (r s : List ℕ) → IsPlist v → IsPlist w → printed_at level v ++ r ≡ printed_at level w ++ s → kind_of_value v ≡ kind_of_value w
values-kind level v w r s h k same =
    sym (value-kind level v r h) ∙ ap (λ l. kind_of_head (head_of l)) same ∙ value-kind level w s k

kind-no_bracket : (v : Plist) → kind_of_value v ≡ 7 → ⊥
kind-no_bracket (scalar s) e = let small = small-kind s in omega arith
kind-no_bracket _ e = omega arith

no-bracket : (level : ℕ) (v : Plist) (b s : List ℕ) → IsPlist v → 93 ≡ head_of ((printed_at level v ++ b) ++ s) → ⊥
no-bracket level v b s h e =
    kind-no_bracket v (sym (value-kind level v (b ++ s) h) ∙ ap (λ l. kind_of_head (head_of l)) (sym (append_assoc (printed_at level v) b s)) ∙ ap kind_of_head (sym e))

mutual
  pub value-front : (level : ℕ) (v w : Plist) (r s : List ℕ) → IsPlist v → IsPlist w → printed_at level v ++ r ≡ printed_at level w ++ s → (v ≡ w) × (r ≡ s)
  value-front level (scalar a) (scalar b) r s h k same =
      let both = line-front level a b r s h k same in (ap scalar both.0, both.1)
  value-front level (scalar a) (list ws) r s h k same =
      absurd (let small = small-kind a in let e = values-kind level (scalar a) (list ws) r s h k same in omega arith)
  value-front level (scalar a) (table qs) r s h k same =
      absurd (let small = small-kind a in let e = values-kind level (scalar a) (table qs) r s h k same in omega arith)
  value-front level (list vs) (scalar b) r s h k same =
      absurd (let small = small-kind b in let e = values-kind level (list vs) (scalar b) r s h k same in omega arith)
  value-front level (table ps) (scalar b) r s h k same =
      absurd (let small = small-kind b in let e = values-kind level (table ps) (scalar b) r s h k same in omega arith)
  value-front level (list vs) (table qs) r s h k same =
      absurd (let e = values-kind level (list vs) (table qs) r s h k same in omega arith)
  value-front level (table ps) (list ws) r s h k same =
      absurd (let e = values-kind level (table ps) (list ws) r s h k same in omega arith)
  value-front level (list vs) (list ws) r s h k same = let both = list-front level vs ws r s h k same in (ap list both.0, both.1)
  value-front level (table ps) (table qs) r s h k same = let both = table-front level ps qs r s h k same in (ap table both.0, both.1)

  list-front : (level : ℕ) (vs ws : Items) (r s : List ℕ) → AreItems vs → AreItems ws → printed_at level (list vs) ++ r ≡ printed_at level (list ws) ++ s → (vs ≡ ws) × (r ≡ s)
  list-front level no_items no_items r s h k same = (refl, append_cancel_left (codes "[]\n") r s same)
  list-front level no_items (item w ws) r s h k same = absurd (let e : 93 ≡ 10 = ap (λ l. head_of (tail_of l)) same in omega arith)
  list-front level (item v vs) no_items r s h k same = absurd (let e : 10 ≡ 93 = ap (λ l. head_of (tail_of l)) same in omega arith)
  list-front level (item v vs) (item w ws) r s h k same =
      let left = printed_items (suc level) (item v vs) in
      let right = printed_items (suc level) (item w ws) in
      let inner : (left ++ (indent level ++ (93 ∷ 10 ∷ []))) ++ r ≡ (right ++ (indent level ++ (93 ∷ 10 ∷ []))) ++ s = ap (λ l. tail_of (tail_of l)) same in
      let rows = item-front (suc level) v w vs ws (ending level 93 r) (ending level 93 s) (λ x y. value-front (suc level) v w x y h.0 k.0) (λ e. items-front level vs ws r s h.1 k.1 e) (sym (append_assoc left (indent level ++ (93 ∷ 10 ∷ [])) r) ∙ inner ∙ append_assoc right (indent level ++ (93 ∷ 10 ∷ [])) s) in
      (rows.0, endings-front level 93 r s rows.1)

  items-front : (level : ℕ) (vs ws : Items) (r s : List ℕ) → AreItems vs → AreItems ws → printed_items (suc level) vs ++ ending level 93 r ≡ printed_items (suc level) ws ++ ending level 93 s → (vs ≡ ws) × (ending level 93 r ≡ ending level 93 s)
  items-front level no_items no_items r s h k same = (refl, same)
  items-front level no_items (item w ws) r s h k same =
      absurd (ending-no_row level 93 r _ (ending level 93 s) (λ e. omega arith) (no-bracket (suc level) w (printed_items (suc level) ws) (ending level 93 s) k.0) same)
  items-front level (item v vs) no_items r s h k same =
      absurd (ending-no_row level 93 s _ (ending level 93 r) (λ e. omega arith) (no-bracket (suc level) v (printed_items (suc level) vs) (ending level 93 r) h.0) (sym same))
  items-front level (item v vs) (item w ws) r s h k same =
      item-front (suc level) v w vs ws (ending level 93 r) (ending level 93 s) (λ x y. value-front (suc level) v w x y h.0 k.0) (λ e. items-front level vs ws r s h.1 k.1 e) same

  table-front : (level : ℕ) (ps qs : Pairs) (r s : List ℕ) → ArePairs ps → ArePairs qs → printed_at level (table ps) ++ r ≡ printed_at level (table qs) ++ s → (ps ≡ qs) × (r ≡ s)
  table-front level no_pairs no_pairs r s h k same = (refl, append_cancel_left (codes "{}\n") r s same)
  table-front level no_pairs (pair next w qs) r s h k same = absurd (let e : 125 ≡ 10 = ap (λ l. head_of (tail_of l)) same in omega arith)
  table-front level (pair key v ps) no_pairs r s h k same = absurd (let e : 10 ≡ 125 = ap (λ l. head_of (tail_of l)) same in omega arith)
  table-front level (pair key v ps) (pair next w qs) r s h k same =
      let left = printed_pairs (suc level) (pair key v ps) in
      let right = printed_pairs (suc level) (pair next w qs) in
      let inner : (left ++ (indent level ++ (125 ∷ 10 ∷ []))) ++ r ≡ (right ++ (indent level ++ (125 ∷ 10 ∷ []))) ++ s = ap (λ l. tail_of (tail_of l)) same in
      let rows = pair-front (suc level) key next v w ps qs (ending level 125 r) (ending level 125 s) h.0 k.0 (λ x y. value-front (suc level) v w x y h.1 k.1) (λ e. pairs-front level ps qs r s h.3 k.3 e) (sym (append_assoc left (indent level ++ (125 ∷ 10 ∷ [])) r) ∙ inner ∙ append_assoc right (indent level ++ (125 ∷ 10 ∷ [])) s) in
      (rows.0, endings-front level 125 r s rows.1)

  pairs-front : (level : ℕ) (ps qs : Pairs) (r s : List ℕ) → ArePairs ps → ArePairs qs → printed_pairs (suc level) ps ++ ending level 125 r ≡ printed_pairs (suc level) qs ++ ending level 125 s → (ps ≡ qs) × (ending level 125 r ≡ ending level 125 s)
  pairs-front level no_pairs no_pairs r s h k same = (refl, same)
  pairs-front level no_pairs (pair next w qs) r s h k same =
      absurd (ending-no_row level 125 r _ (ending level 125 s) (λ e. omega arith) (λ e. omega arith) same)
  pairs-front level (pair key v ps) no_pairs r s h k same =
      absurd (ending-no_row level 125 s _ (ending level 125 r) (λ e. omega arith) (λ e. omega arith) (sym same))
  pairs-front level (pair key v ps) (pair next w qs) r s h k same =
      pair-front (suc level) key next v w ps qs (ending level 125 r) (ending level 125 s) h.0 k.0 (λ x y. value-front (suc level) v w x y h.1 k.1) (λ e. pairs-front level ps qs r s h.3 k.3 e) same
