-- Tokens are a phrase of at most one value.
use Rattle.std.proofs.Common.{◌≡◌, ℕ, Bool, true, false, List, [], ◌∷◌, refl, sym, subst}
use Rattle.plist_value.specs.Plist.{Plist, Items, Pairs}
use Rattle.ostep_lex.specs.Lexeme.{Lexeme, paren_close, text as string}
use Rattle.ostep_text.specs.Phrase.{Phrase, a_string, some_data, a_list, a_table, ItemsPhrase, items_end, last_item, an_item, RowPhrase, with_value, key_alone, RowsPhrase, rows_end, a_row, TopPhrase, a_value, bare_table}
use Rattle.ostep_text.specs.Sorting.{AreSorted}
use Rattle.ostep_text.proofs.SortedLemmas.{AreSorted-same}

-- whether a row begins at the tokens
abbrev pub begins_row : List Lexeme → Bool
begins_row (string units ∷ rest) = true
begins_row _ = false

pub row-begins : {tokens rest : List Lexeme} {key : List ℕ} {v : Plist} → RowPhrase tokens key v rest → begins_row tokens ≡ true
row-begins (with_value p) = refl
row-begins key_alone = refl

pub no-phrase : {tokens rest : List Lexeme} {v : Plist} → Phrase (paren_close ∷ tokens) v rest → ⊥
no-phrase h = elim h [ ]

mutual
  pub Phrase-same : {tokens rest after : List Lexeme} {v w : Plist} → Phrase tokens v rest → Phrase tokens w after → (v ≡ w) × (rest ≡ after)
  Phrase-same a_string a_string = (refl, refl)
  Phrase-same some_data some_data = (refl, refl)
  Phrase-same (a_list p) (a_list q) = let e = Items-same p q in (cc (e.0), e.1)
  Phrase-same (a_table {pairs = pairs} p s) (a_table q t) =
      let e = Rows-same p q refl refl in
      (cc (AreSorted-same (subst (λ x. AreSorted x pairs) e.0 s) t), cc (e.1))

  Items-same : {tokens rest after : List Lexeme} {vs ws : Items} → ItemsPhrase tokens vs (paren_close ∷ rest) → ItemsPhrase tokens ws (paren_close ∷ after)
      → (vs ≡ ws) × (rest ≡ after)
  Items-same items_end items_end = (refl, refl)
  Items-same items_end (last_item q) = absurd (no-phrase q)
  Items-same items_end (an_item q s) = absurd (no-phrase q)
  Items-same (last_item p) items_end = absurd (no-phrase p)
  Items-same (last_item p) (last_item q) = let e = Phrase-same p q in (cc (e.0), cc (e.1))
  Items-same (last_item p) (an_item q s) = let e = Phrase-same p q in cc (e.1)
  Items-same (an_item p r) items_end = absurd (no-phrase p)
  Items-same (an_item p r) (last_item q) = let e = Phrase-same p q in cc (e.1)
  Items-same {after = end} (an_item {others = rest} p r) (an_item {vs = ws} {others = after} q s) =
      let e = Phrase-same p q in
      let after_is : after ≡ rest = cc (e.1) in
      let f = Items-same r (subst (λ x. ItemsPhrase x ws (paren_close ∷ end)) after_is s) in
      (cc (e.0, f.0), f.1)

  pub Row-same : {tokens rest after : List Lexeme} {key next : List ℕ} {v w : Plist} → RowPhrase tokens key v rest → RowPhrase tokens next w after
      → (key ≡ next) × (v ≡ w) × (rest ≡ after)
  Row-same (with_value p) (with_value q) = let e = Phrase-same p q in (refl, e.0, cc (e.1))
  Row-same key_alone key_alone = (refl, refl, refl)

  Rows-same : {tokens rest after : List Lexeme} {rows others : Pairs} → RowsPhrase tokens rows rest → RowsPhrase tokens others after
      → begins_row rest ≡ false → begins_row after ≡ false → (rows ≡ others) × (rest ≡ after)
  Rows-same rows_end rows_end h k = (refl, refl)
  Rows-same rows_end (a_row q s d) h k = cc (h, row-begins q)
  Rows-same (a_row p r c) rows_end h k = cc (k, row-begins p)
  Rows-same {after = after} (a_row p r c) (a_row {rows = rows} q s d) h k =
      let e = Row-same p q in
      let f = Rows-same r (subst (λ x. RowsPhrase x rows after) (sym e.2) s) h k in
      (cc (e.0, e.1, f.0), f.1)

no-value : {key : List ℕ} {l : Lexeme} {tokens : List Lexeme} {v : Plist} → Phrase (string key ∷ l ∷ tokens) v [] → ⊥
no-value h = elim h [ ]

pub value-or-row : {tokens rest : List Lexeme} {key : List ℕ} {v w : Plist} → RowPhrase tokens key w rest → Phrase tokens v [] → ⊥
value-or-row (with_value p) q = no-value q
value-or-row key_alone q = no-value q

pub no-tokens : {v : Plist} {rest : List Lexeme} → Phrase [] v rest → ⊥
no-tokens h = elim h [ ]

pub value-or-rows : {tokens : List Lexeme} {v : Plist} {rows : Pairs} → RowsPhrase tokens rows [] → Phrase tokens v [] → ⊥
value-or-rows rows_end q = no-tokens q
value-or-rows (a_row p r d) q = value-or-row p q

pub TopPhrase-same : {tokens : List Lexeme} {v w : Plist} → TopPhrase tokens v → TopPhrase tokens w → v ≡ w
TopPhrase-same (a_value p) (a_value q) = (Phrase-same p q).0
TopPhrase-same (a_value p) (bare_table q t) = absurd (value-or-rows q p)
TopPhrase-same (bare_table p s) (a_value q) = absurd (value-or-rows p q)
TopPhrase-same (bare_table {pairs = pairs} p s) (bare_table q t) =
    cc (AreSorted-same (subst (λ x. AreSorted x pairs) (Rows-same p q refl refl).0 s) t)
