-- A phrase leads the machine from where a value is due to the state after it, so a whole phrase is
-- accepted. Other tokens lead to no accepting state.
use Rattle.std.proofs.Common.{◌≡◌, ℕ, true, false, List, [], ◌∷◌, refl, ap, ◌∙◌}
use Rattle.std.specs.Prelude.{Vec}
use Rattle.std.specs.declared.alloc.Global.{Global}
use Rattle.plist_value.specs.Plist.{Plist, Items, Pairs}
use Rattle.ostep_lex.specs.Lexeme.{Lexeme, semicolon, paren_close, brace_close, lexeme_of, text as string}
use Rattle.ostep_text.specs.Phrase.{Phrase, a_string, some_data, a_list, a_table, ItemsPhrase, items_end, last_item, an_item, RowPhrase, with_value, key_alone, RowsPhrase, rows_end, a_row, TopPhrase, a_value, bare_table}
use Rattle.ostep_text.specs.Stands.{IsPhrase}
use Rattle.ostep_text.specs.Machine
use Rattle.ostep_text.specs.Machine.{Around, State, IsTable, braces, without, runs, accepts, step, begun, item_or_end, ended, row_or_end, after_key}
use Rattle.ostep_lex.specs.declared.token.TokenKind.{TokenKind}
use Rattle.ostep_lex.specs.declared.token.TokenKind.TheVariants.{BraceOpen, ParenOpen, ParenClose, Comma, Semicolon, Equals, Text, Octets}
use Rattle.ostep_text.specs.Begun.{begins_value}
use Rattle.ostep_text.specs.First.{ends_list, ends_table, is_string}
use Rattle.ostep_text.specs.Reading.{Front}

after-value : {t : Around} → IsTable t → (rest : List Lexeme) → runs (Machine.after t) (semicolon ∷ rest) ≡ runs (Machine.rows t) rest
after-value braces rest = refl
after-value without rest = refl

-- no item begins with the parenthesis that ends an array
pub item-begins : {tokens rest : List Lexeme} {v : Plist} (a : Around) → Phrase tokens v rest → runs (Machine.items a) tokens ≡ runs (Machine.due (Machine.in_list a)) tokens
item-begins a a_string = refl
item-begins a _ = refl

mutual
  pub value-runs : {tokens rest : List Lexeme} {v : Plist} (a : Around) → Phrase tokens v rest → runs (Machine.due a) tokens ≡ runs (Machine.after a) rest
  value-runs a (a_list p) = items-runs a p
  value-runs a (a_table p s) = rows-runs braces p
  value-runs a _ = refl

  pub items-runs : {tokens rest : List Lexeme} {vs : Items} (a : Around) → ItemsPhrase tokens vs rest → runs (Machine.items a) tokens ≡ runs (Machine.items a) rest
  items-runs a items_end = refl
  items-runs a (last_item p) = item-begins a p ∙ value-runs (Machine.in_list a) p
  items-runs a (an_item p r) = item-begins a p ∙ (value-runs (Machine.in_list a) p ∙ items-runs a r)

  pub row-runs : {tokens rest : List Lexeme} {k : List ℕ} {v : Plist} {t : Around} → IsTable t → RowPhrase tokens k v rest → runs (Machine.rows t) tokens ≡ runs (Machine.rows t) rest
  row-runs {t = t} braces (with_value {rest = rest} p) = value-runs t p ∙ after-value braces rest
  row-runs {t = t} without (with_value {rest = rest} p) = value-runs t p ∙ after-value without rest
  row-runs braces key_alone = refl
  row-runs without key_alone = refl

  pub rows-runs : {tokens rest : List Lexeme} {rs : Pairs} {t : Around} → IsTable t → RowsPhrase tokens rs rest → runs (Machine.rows t) tokens ≡ runs (Machine.rows t) rest
  rows-runs i rows_end = refl
  rows-runs i (a_row p r d) = row-runs i p ∙ rows-runs i r

-- a dictionary without braces that has a row
bare-accepted : {tokens rest : List Lexeme} {k : List ℕ} {v : Plist} {rs : Pairs} → RowPhrase tokens k v rest → RowsPhrase rest rs [] → accepts (runs Machine.front tokens) ≡ true
bare-accepted (with_value p) r = ap accepts (value-runs Machine.bare p ∙ rows-runs without r)
bare-accepted key_alone r = ap accepts (rows-runs without r)

accepted-list : {s : State} (rest : List Lexeme) → rest ≡ [] → s ≡ runs (Machine.items Machine.top) (paren_close ∷ rest) → accepts s ≡ true
accepted-list rest e f = rw (f, e) refl

accepted-table : {s : State} (rest : List Lexeme) → rest ≡ [] → s ≡ runs (Machine.rows (Machine.in_braces Machine.top)) (brace_close ∷ rest) → accepts s ≡ true
accepted-table rest e f = rw (f, e) refl

value-accepted : {tokens rest : List Lexeme} {v : Plist} → Phrase tokens v rest → rest ≡ [] → accepts (runs Machine.front tokens) ≡ true
value-accepted a_string e = rw e refl
value-accepted some_data e = rw e refl
value-accepted (a_list {rest = rest} p) e = accepted-list rest e (items-runs Machine.top p)
value-accepted (a_table {rest = rest} p s) e = accepted-table rest e (rows-runs (braces {a = Machine.top}) p)

top-accepted : {tokens : List Lexeme} {v : Plist} → TopPhrase tokens v → accepts (runs Machine.front tokens) ≡ true
top-accepted (a_value p) = value-accepted p refl
top-accepted (bare_table rows_end s) = refl
top-accepted (bare_table (a_row p r d) s) = bare-accepted p r

pub phrase-accepted : {tokens : List Lexeme} → IsPhrase tokens → accepts (runs Machine.front tokens) ≡ true
phrase-accepted p = top-accepted (p.1)

pub not-accepted : {tokens : List Lexeme} → accepts (runs Machine.front tokens) ≡ false → ¬ IsPhrase tokens
not-accepted e p = cc (e, phrase-accepted p)

pub stays-dead : (tokens : List Lexeme) → runs Machine.dead tokens ≡ Machine.dead
stays-dead [] = refl
stays-dead (l ∷ ls) = stays-dead ls

-- after a token that leads to the dead state nothing follows
pub leads-nowhere : (whole : Front) (s : State) (l : Lexeme) → ((rest : List Lexeme) → runs Machine.front (whole rest) ≡ runs s rest) → step s l ≡ Machine.dead
    → (rest : List Lexeme) → runs Machine.front (whole (l ∷ rest)) ≡ Machine.dead
leads-nowhere whole s l d e rest = d (l ∷ rest) ∙ (ap (λ x. runs x rest) e ∙ stays-dead rest)

pub item-begun : (a : Around) (l : Lexeme) → ends_list l ≡ false → item_or_end a l ≡ begun (Machine.in_list a) l
item-begun a paren_close e = cc e
item-begun a _ e = refl

pub list-end : (l : Lexeme) → ends_list l ≡ true → l ≡ paren_close
list-end paren_close e = refl
list-end _ e = cc e

pub item-ended : (a : Around) (kind : TokenKind) → ¬ (kind ≡ ParenClose) → ¬ (kind ≡ Comma) → ended (Machine.in_list a) (lexeme_of kind) ≡ Machine.dead
item-ended a ParenClose n m = absurd (n refl)
item-ended a Comma n m = absurd (m refl)
item-ended a _ n m = refl

pub row-ended : {t : Around} → IsTable t → (kind : TokenKind) → ¬ (kind ≡ Semicolon) → ended t (lexeme_of kind) ≡ Machine.dead
row-ended braces Semicolon n = absurd (n refl)
row-ended without Semicolon n = absurd (n refl)
row-ended _ _ n = refl

pub key-ended : (t : Around) (kind : TokenKind) → ¬ (kind ≡ Equals) → ¬ (kind ≡ Semicolon) → after_key t (lexeme_of kind) ≡ Machine.dead
key-ended t Semicolon n m = absurd (m refl)
key-ended t Equals n m = absurd (n refl)
key-ended t _ n m = refl

pub table-ended : (a : Around) (l : Lexeme) → ends_table l ≡ false → is_string l ≡ false → row_or_end (Machine.in_braces a) l ≡ Machine.dead
table-ended a brace_close e s = cc e
table-ended a (string units) e s = cc s
table-ended a _ e s = refl

pub table-end : (l : Lexeme) → ends_table l ≡ true → l ≡ brace_close
table-end brace_close e = refl
table-end _ e = cc e

pub bare-ended : (l : Lexeme) → is_string l ≡ false → row_or_end Machine.bare l ≡ Machine.dead
bare-ended (string units) s = cc s
bare-ended _ s = refl

pub value-ended : (a : Around) (kind : TokenKind) → ((units : List ℕ) → ¬ (kind ≡ Text units)) → ((xs : Vec ℕ Global) → ¬ (kind ≡ Octets xs)) → ¬ (kind ≡ ParenOpen) → ¬ (kind ≡ BraceOpen)
    → begun a (lexeme_of kind) ≡ Machine.dead
value-ended a BraceOpen t o p b = absurd (b refl)
value-ended a ParenOpen t o p b = absurd (p refl)
value-ended a (Text units) t o p b = absurd (t units refl)
value-ended a (Octets xs) t o p b = absurd (o xs refl)
value-ended a _ t o p b = refl

pub value-none : (kind : TokenKind) → ((units : List ℕ) → ¬ (kind ≡ Text units)) → ((xs : Vec ℕ Global) → ¬ (kind ≡ Octets xs)) → ¬ (kind ≡ ParenOpen) → ¬ (kind ≡ BraceOpen)
    → begins_value (lexeme_of kind ∷ []) ≡ false
value-none BraceOpen t o p b = absurd (b refl)
value-none ParenOpen t o p b = absurd (p refl)
value-none (Text units) t o p b = absurd (t units refl)
value-none (Octets xs) t o p b = absurd (o xs refl)
value-none _ t o p b = refl

-- at the start too, except for a string
pub front-begun : (kind : TokenKind) → ((units : List ℕ) → ¬ (kind ≡ Text units)) → Machine.at_front (lexeme_of kind) ≡ begun Machine.top (lexeme_of kind)
front-begun (Text units) t = absurd (t units refl)
front-begun _ t = refl

pub none-begins : (a : Around) (kind : TokenKind) → begins_value (lexeme_of kind ∷ []) ≡ false → begun a (lexeme_of kind) ≡ Machine.dead
none-begins a BraceOpen e = cc e
none-begins a ParenOpen e = cc e
none-begins a (Text units) e = cc e
none-begins a (Octets xs) e = cc e
none-begins a _ e = refl
