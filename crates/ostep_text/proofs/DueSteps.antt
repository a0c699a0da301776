-- What is known where something is due, from what was known before it and what was read since.
use Rattle.std.proofs.Common.{◌≡◌, ℕ, false, List, [], ◌∷◌, refl, ap, ◌∙◌}
use Rattle.plist_value.specs.Plist.{Plist, scalar, text, list, table, Items, Pairs, no_pairs, pair, ArePairs}
use Rattle.plist_value.proofs.Pairs.{put_pair}
use Rattle.ostep_lex.specs.Lexeme.{Lexeme, brace_open, brace_close, paren_open, paren_close, semicolon, equals, text as string}
use Rattle.ostep_text.specs.Phrase as Phrases
use Rattle.ostep_text.specs.Phrase.{Phrase, a_list, a_table, ItemsPhrase, RowPhrase, with_value, key_alone, RowsPhrase, rows_end, a_row, bare_table}
use Rattle.ostep_text.specs.Sorting.{has_key, AreReordered, AreSorted, none, row, first}
use Rattle.ostep_text.specs.Begun
use Rattle.ostep_text.specs.Begun.{Before, nothing, opened, with_items, with_rows, with_key, NodeAt, begins_value}
use Rattle.ostep_text.specs.Machine
use Rattle.ostep_text.specs.Machine.{Around, IsTable, braces, without, runs, accepts, begun, item_or_end}
use Rattle.ostep_text.specs.Reading.{Front}
use Rattle.ostep_text.specs.Due.{IsOpen, ValueDue, RowValueDue, ListDue, TableDue, RowDue}
use Rattle.ostep_text.proofs.MachineLemmas.{item-begins, value-runs, items-runs, row-runs, rows-runs, stays-dead}
use Rattle.ostep_text.proofs.PhraseSteps.{push_row, items-last, rows-more}
use Rattle.plist_value.proofs.Items.{push}
use Rattle.ostep_text.proofs.SortingSteps.{reordered-more, put-stands, put-ascends, reordered-has, pairs-ascend}

pub list-due : {whole : Front} {b : Before} {a : Around} → ValueDue whole b a paren_open → ListDue (λ rest. whole (paren_open ∷ rest)) b a
list-due d = record {
  at = λ rest. d.at (paren_open ∷ rest);
  closing = d.closing;
  closes = λ tokens vs p. d.closes (paren_open ∷ tokens) (list vs) (a_list p);
  leads = d.leads;
}

pub items-open : {whole : Front} {b : Before} {a : Around} {vs : Items} (inside : Front) → ListDue whole b a → ((rest : List Lexeme) → ItemsPhrase (inside rest) vs rest)
    → IsOpen (λ rest. whole (inside rest))
items-open {a = a} {vs = vs} inside d s = record {
  others = paren_close ∷ d.closing;
  goes_on = d.closes (inside (paren_close ∷ d.closing)) vs (s (paren_close ∷ d.closing));
  unfinished = ap accepts (d.leads (inside []) ∙ items-runs a (s []));
}

pub item-due : {whole : Front} {b : Before} {a : Around} {vs : Items} {l : Lexeme} (inside : Front) → ListDue whole b a → ((rest : List Lexeme) → ItemsPhrase (inside rest) vs rest)
    → item_or_end a l ≡ begun (Machine.in_list a) l → ValueDue (λ rest. whole (inside rest)) (with_items vs (opened b)) (Machine.in_list a) l
item-due {a = a} {vs = vs} {l = l} inside d s e = record {
  at = λ rest. Begun.after_items (d.at (inside rest)) (s rest);
  closing = paren_close ∷ d.closing;
  closes = λ tokens w p. d.closes (inside tokens) (push vs w) (items-last (s tokens) p);
  leads = λ rest. d.leads (inside (l ∷ rest)) ∙ (items-runs a (s (l ∷ rest)) ∙ ap (λ x. runs x rest) e);
  waits = λ n. ap accepts (d.leads (inside []) ∙ items-runs a (s []));
}

pub item-leads : {whole : Front} {b : Before} {a : Around} {vs : Items} {w : Plist} (inside more : Front) → ListDue whole b a → ((rest : List Lexeme) → ItemsPhrase (inside rest) vs rest)
    → ((rest : List Lexeme) → Phrase (more rest) w rest) → (rest : List Lexeme) → runs Machine.front (whole (inside (more rest))) ≡ runs (Machine.after (Machine.in_list a)) rest
item-leads {a = a} inside more d s p rest =
    d.leads (inside (more rest)) ∙ (items-runs a (s (more rest)) ∙ (item-begins a (p rest) ∙ value-runs (Machine.in_list a) (p rest)))

pub item-open : {whole : Front} {b : Before} {a : Around} {vs : Items} {w : Plist} (inside more : Front) → ListDue whole b a → ((rest : List Lexeme) → ItemsPhrase (inside rest) vs rest)
    → ((rest : List Lexeme) → Phrase (more rest) w rest) → IsOpen (λ rest. whole (inside (more rest)))
item-open {a = a} {vs = vs} {w = w} inside more d s p = record {
  others = paren_close ∷ d.closing;
  goes_on = d.closes (inside (more (paren_close ∷ d.closing))) (push vs w) (items-last (s (more (paren_close ∷ d.closing))) (p (paren_close ∷ d.closing)));
  unfinished = ap accepts (item-leads inside more d s p []);
}

pub table-due : {whole : Front} {b : Before} {a : Around} → ValueDue whole b a brace_open → TableDue (λ rest. whole (brace_open ∷ rest)) b a
table-due d = record {
  at = λ rest. d.at (brace_open ∷ rest);
  closing = d.closing;
  closes = λ tokens rows pairs p s. d.closes (brace_open ∷ tokens) (table pairs) (a_table p s);
  leads = d.leads;
}

pub row-due : {whole : Front} {b : Before} {a : Around} {rows pairs : Pairs} (inside : Front) → TableDue whole b a → ((rest : List Lexeme) → RowsPhrase (inside rest) rows rest)
    → AreReordered rows pairs → ArePairs pairs → RowDue (λ rest. whole (inside rest)) (opened b) (Machine.in_braces a) rows pairs
row-due {a = a} {pairs = pairs} inside d s r p = record {
  table = braces;
  inside = inside;
  at = λ rest. Begun.after_brace (d.at (inside rest));
  spells = s;
  sorted = record { same = r; ascending = pairs-ascend pairs p };
  ends = brace_close ∷ d.closing;
  closes = λ tokens all others q t. d.closes (inside tokens) all others q t;
  leads = λ rest. d.leads (inside rest) ∙ rows-runs (braces {a = a}) (s rest);
}

pub rows-open : {whole : Front} {b : Before} {a : Around} {rows pairs : Pairs} → RowDue whole b (Machine.in_braces a) rows pairs → IsOpen whole
rows-open {rows = rows} {pairs = pairs} d = record {
  others = d.ends;
  goes_on = d.closes d.ends rows pairs (d.spells d.ends) d.sorted;
  unfinished = ap accepts (d.leads []);
}

pub key-node : {whole : Front} {b : Before} {t : Around} {rows pairs : Pairs} (key : List ℕ) → RowDue whole b t rows pairs
    → (rest : List Lexeme) → NodeAt (whole (string key ∷ rest)) (with_rows rows b) (string key ∷ rest)
key-node key d rest = Begun.key (d.at (string key ∷ rest)) (d.spells (string key ∷ rest))

pub alone-node : {whole : Front} {b : Before} {t : Around} {rows pairs : Pairs} (key : List ℕ) → RowDue whole b t rows pairs → has_key key pairs ≡ false
    → (rest : List Lexeme) → NodeAt (whole (string key ∷ semicolon ∷ rest)) (with_key key (with_rows rows b)) (string key ∷ semicolon ∷ rest)
alone-node key d n rest =
    Begun.value (Begun.at_key (Begun.new_key (d.at (string key ∷ semicolon ∷ rest)) (d.spells (string key ∷ semicolon ∷ rest)) (reordered-has key d.sorted.same ∙ n))) refl

sorted-more : {rows pairs : Pairs} (key : List ℕ) (v : Plist) → AreSorted rows pairs → has_key key pairs ≡ false → AreSorted (push_row rows key v) (put_pair key v pairs)
sorted-more {pairs = pairs} key v s n = record { same = reordered-more s.same (put-stands key v pairs n); ascending = put-ascends key v pairs s.ascending n }

pub key-open : {whole : Front} {b : Before} {t : Around} {rows pairs : Pairs} (key : List ℕ) → RowDue whole b t rows pairs → has_key key pairs ≡ false
    → IsOpen (λ rest. whole (string key ∷ rest))
key-open {rows = rows} {pairs = pairs} key d n = record {
  others = semicolon ∷ d.ends;
  goes_on = d.closes (string key ∷ semicolon ∷ d.ends) (push_row rows key (scalar (text key))) (put_pair key (scalar (text key)) pairs)
      (rows-more (d.spells (string key ∷ semicolon ∷ d.ends)) key_alone (reordered-has key d.sorted.same ∙ n)) (sorted-more key (scalar (text key)) d.sorted n);
  unfinished = ap accepts (d.leads (string key ∷ []));
}

pub row_value-due : {whole : Front} {b : Before} {t : Around} {rows pairs : Pairs} (key : List ℕ) → RowDue whole b t rows pairs → has_key key pairs ≡ false
    → RowValueDue (λ rest. whole (string key ∷ equals ∷ rest)) (with_key key (with_rows rows b)) t
row_value-due {rows = rows} {pairs = pairs} key d n = record {
  table = d.table;
  at = λ rest. Begun.after_key (Begun.new_key (d.at (string key ∷ equals ∷ rest)) (d.spells (string key ∷ equals ∷ rest)) (reordered-has key d.sorted.same ∙ n));
  closing = d.ends;
  closes = λ tokens v p. d.closes (string key ∷ equals ∷ tokens) (push_row rows key v) (put_pair key v pairs)
      (rows-more (d.spells (string key ∷ equals ∷ tokens)) (with_value p) (reordered-has key d.sorted.same ∙ n)) (sorted-more key v d.sorted n);
  leads = λ rest. d.leads (string key ∷ equals ∷ rest);
}

pub row-more : {whole : Front} {b : Before} {t : Around} {rows pairs : Pairs} {key : List ℕ} {v : Plist} (more : Front) → RowDue whole b t rows pairs → has_key key pairs ≡ false
    → ((rest : List Lexeme) → RowPhrase (more rest) key v rest) → RowDue (λ rest. whole (more rest)) b t (push_row rows key v) (put_pair key v pairs)
row-more {key = key} {v = v} more d n p = record {
  table = d.table;
  inside = λ rest. d.inside (more rest);
  at = λ rest. d.at (more rest);
  spells = λ rest. rows-more (d.spells (more rest)) (p rest) (reordered-has key d.sorted.same ∙ n);
  sorted = sorted-more key v d.sorted n;
  ends = d.ends;
  closes = λ tokens all others q s. d.closes (more tokens) all others q s;
  leads = λ rest. d.leads (more rest) ∙ row-runs d.table (p rest);
}

pub row_value-first : {whole : Front} {b : Before} {t : Around} (l : Lexeme) → RowValueDue whole b t → ValueDue whole b t l
row_value-first l d = record {
  at = d.at;
  closing = semicolon ∷ d.closing;
  closes = d.closes;
  leads = λ rest. d.leads (l ∷ rest);
  waits = λ n. ap accepts (d.leads []);
}

pub row_value-open : {whole : Front} {b : Before} {t : Around} → RowValueDue whole b t → IsOpen whole
row_value-open d = record {
  others = string [] ∷ semicolon ∷ d.closing;
  goes_on = d.closes (string [] ∷ semicolon ∷ d.closing) (scalar (text [])) Phrases.a_string;
  unfinished = ap accepts (d.leads []);
}

after-table : {t : Around} → IsTable t → accepts (Machine.after t) ≡ false
after-table braces = refl
after-table without = refl

pub row_value-leads : {whole : Front} {b : Before} {t : Around} {w : Plist} (more : Front) → RowValueDue whole b t → ((rest : List Lexeme) → Phrase (more rest) w rest)
    → (rest : List Lexeme) → runs Machine.front (whole (more rest)) ≡ runs (Machine.after t) rest
row_value-leads {t = t} more d p rest = d.leads (more rest) ∙ value-runs t (p rest)

pub row_value-after : {whole : Front} {b : Before} {t : Around} {w : Plist} (more : Front) → RowValueDue whole b t → ((rest : List Lexeme) → Phrase (more rest) w rest)
    → IsOpen (λ rest. whole (more rest))
row_value-after {w = w} more d p = record {
  others = semicolon ∷ d.closing;
  goes_on = d.closes (more (semicolon ∷ d.closing)) w (p (semicolon ∷ d.closing));
  unfinished = ap accepts (row_value-leads more d p []) ∙ after-table d.table;
}

-- the first row of a dictionary without braces
bare-leads : {tokens rest : List Lexeme} {key : List ℕ} {v : Plist} → RowPhrase tokens key v rest → runs Machine.front tokens ≡ runs (Machine.rows Machine.bare) rest
bare-leads (with_value p) = value-runs Machine.bare p
bare-leads key_alone = refl

pub bare-due : {key : List ℕ} {v : Plist} (more : Front) → ((rest : List Lexeme) → RowPhrase (more rest) key v rest)
    → RowDue more (opened nothing) Machine.bare (pair key v no_pairs) (pair key v no_pairs)
bare-due more p = record {
  table = without;
  inside = more;
  at = λ rest. Begun.bare;
  spells = λ rest. a_row (p rest) rows_end refl;
  sorted = record { same = row none first; ascending = (tt, tt) };
  ends = [];
  closes = λ tokens all others q s. (table others, bare_table q s);
  leads = λ rest. bare-leads (p rest);
}

pub value-open : {whole : Front} {b : Before} {a : Around} {l : Lexeme} → ValueDue whole b a l → begins_value (l ∷ []) ≡ false → IsOpen whole
value-open d n = record {
  others = string [] ∷ d.closing;
  goes_on = d.closes (string [] ∷ d.closing) (scalar (text [])) Phrases.a_string;
  unfinished = d.waits n;
}

pub value-nowhere : {whole : Front} {b : Before} {a : Around} {l : Lexeme} → ValueDue whole b a l → begun a l ≡ Machine.dead
    → (rest : List Lexeme) → runs Machine.front (whole (l ∷ rest)) ≡ Machine.dead
value-nowhere d e rest = d.leads rest ∙ (ap (λ s. runs s rest) e ∙ stays-dead rest)
