-- A dictionary without braces, row by row.
use Rattle.std.proofs.Common.{◌≡◌, ℕ, ◌+◌, ◌*◌, ◌≤◌, true, false, List, [], ◌∷◌, length, refl, sym, ap, subst, ◌∙◌, arith}
use Rattle.std.specs.Prelude.{Result, IfErr}
use Rattle.std.proofs.lemmas.Result.{IfErr-weaker}
use Rattle.plist_value.specs.declared.budget.Budget.{Budget}
use Rattle.plist_value.specs.declared.TheConstants.{MAX_NODES, MAX_DEPTH, MAX_PAYLOAD}
use Rattle.plist_value.specs.Budget.{Spends}
use Rattle.plist_value.specs.Plist.{Plist, AreUnits, scalar, text, table, Pairs, no_pairs, pair}
use Rattle.plist_value.specs.Limits.{Fits}
use Rattle.plist_value.proofs.Pairs.{put_pair}
use Rattle.ostep_lex.specs.Lexeme.{Lexeme, Located, semicolon, equals, text as string}
use Rattle.ostep_lex.specs.Lexing.{HasTokens}
use Rattle.ostep_text.specs.Phrase.{RowPhrase, with_value, key_alone, RowsPhrase, rows_end, a_row, a_string, TopPhrase, a_value, bare_table}
use Rattle.ostep_text.specs.Sorting
use Rattle.ostep_text.specs.Sorting.{has_key}
use Rattle.ostep_text.specs.Begun
use Rattle.ostep_text.specs.Begun.{nothing, opened, with_rows, with_key, begins_value}
use Rattle.ostep_text.specs.Text.{IsText, IsNoText}
use Rattle.ostep_text.specs.Stands.{Stands}
use Rattle.ostep_text.specs.Laws.{FaultyIsNoText}
use Rattle.ostep_text.specs.declared.fault.TextFault.{TextFault}
use Rattle.ostep_text.specs.declared.fault.TextFault.TheVariants.{OutOfMemory}
use Rattle.ostep_text.specs.declared.reader.Reader.{Reader}
use Rattle.ostep_text.specs.declared.tokens.Tokens.{Tokens}
use Rattle.ostep_text.specs.Machine
use Rattle.ostep_text.specs.Machine.{runs, at_front, begun}
use Rattle.ostep_text.specs.Reading.{Front, AreBefore, HasRead, IsLeft, MayRefuse, ReadsRow, Takes, TakesPairs, TakesRow}
use Rattle.ostep_text.specs.Due.{ValueDue, RowValueDue, RowDue}
use Rattle.ostep_text.proofs.Places.{is-text}
use Rattle.ostep_text.proofs.MachineLemmas.{stays-dead}
use Rattle.ostep_text.proofs.PhraseSteps.{push_row, rows-more}
use Rattle.ostep_text.proofs.SortingSteps.{reordered-has}
use Rattle.ostep_text.proofs.Standing.{before-are, string-refuses}
use Rattle.ostep_text.proofs.DueSteps.{row-more, bare-due}
use Rattle.ostep_text.proofs.TakeSteps.{left-after, no-pairs-taken, pair-taken}

-- the rows so far, at least one
pub record BareRead (octets : List ℕ) (left : Budget) (pairs : Pairs) (reader : Reader) : Type 0 where
  pub tokens : List Located
  pub has : HasRead octets tokens reader.tokens
  pub whole : Front
  pub before : AreBefore tokens whole
  pub rows : Pairs
  pub spells : (rest : List Lexeme) → RowsPhrase (whole rest) rows rest
  pub due : RowDue whole (opened nothing) Machine.bare rows pairs
  pub taken : TakesPairs left 511 pairs reader.left
  pub some : ¬ (whole [] ≡ [])

row-none : {tokens rest : List Lexeme} {key : List ℕ} {v : Plist} → RowPhrase tokens key v rest → tokens ≡ [] → ⊥
row-none (with_value p) e = cc e
row-none key_alone e = cc e

rows-none : {tokens rest : List Lexeme} {rows : Pairs} → RowsPhrase tokens rows rest → ¬ (rest ≡ []) → tokens ≡ [] → ⊥
rows-none rows_end n e = n e
rows-none (a_row p r d) n e = row-none p e

row-some : {octets : List ℕ} {tokens : List Located} {key : List ℕ} {v : Plist} {source : Tokens} (r : ReadsRow octets tokens key v source) → ¬ (r.inside [] ≡ [])
row-some r e = row-none (r.spells []) e

pub bare-first : {octets : List ℕ} {left : Budget} {key : List ℕ} {v : Plist} (reader : Reader) → TakesRow left 511 key v reader.left → ReadsRow octets [] key v reader.tokens
    → BareRead octets left (pair key v no_pairs) reader
bare-first {left = left} {key} {v} reader t r = record {
  tokens = r.reads.all;
  has = r.reads.has;
  whole = r.inside;
  before = r.reads.follow (λ rest. rest) (λ rest. refl);
  rows = pair key v no_pairs;
  spells = λ rest. a_row (r.spells rest) rows_end refl;
  due = bare-due r.inside r.spells;
  taken = pair-taken key v no_pairs (no-pairs-taken left 511) t refl;
  some = row-some r;
}

pub bare-more : {octets : List ℕ} {left : Budget} {pairs : Pairs} {key : List ℕ} {v : Plist} {old : Reader} (after : Reader) (b : BareRead octets left pairs old)
    → TakesRow old.left 511 key v after.left → has_key key pairs ≡ false → ReadsRow octets b.tokens key v after.tokens → BareRead octets left (put_pair key v pairs) after
bare-more {pairs = pairs} {key = key} {v = v} after b t n r = record {
  tokens = r.reads.all;
  has = r.reads.has;
  whole = λ rest. b.whole (r.inside rest);
  before = r.reads.follow b.whole b.before;
  rows = push_row b.rows key v;
  spells = λ rest. rows-more (b.spells (r.inside rest)) (r.spells rest) (reordered-has key b.due.sorted.same ∙ n);
  due = row-more r.inside b.due n r.spells;
  taken = pair-taken key v pairs b.taken t n;
  some = λ e. rows-none (b.spells (r.inside [])) (row-some r) e;
}

pub bare-phrase : {octets : List ℕ} {left : Budget} {pairs : Pairs} {reader : Reader} (b : BareRead octets left pairs reader) → TopPhrase (b.whole []) (table pairs)
bare-phrase b = bare_table (b.spells []) b.due.sorted

pub bare-text : {octets : List ℕ} {left : Budget} {pairs : Pairs} {reader : Reader} (b : BareRead octets left pairs reader) → IsLeft left 511 (opened nothing) → HasTokens octets b.tokens
    → IsText octets (table pairs)
bare-text {pairs = pairs} b i t =
    is-text (table pairs) b.tokens t (subst (λ ls. TopPhrase ls (table pairs)) (sym (before-are b.tokens b.whole b.before)) (bare-phrase b)) b.taken.valid
    (record {
      nodes_fit = omega (arith, i.nodes_left, b.taken.spent.nodes_left);
      depth_fits = omega (arith, b.taken.deep);
      payload_fits = omega (arith, i.payload_left, b.taken.spent.payload_left);
    })

pub bare-ends : {octets : List ℕ} {left : Budget} {pairs : Pairs} {reader : Reader} (b : BareRead octets left pairs reader) (l : Lexeme)
    → Machine.row_or_end Machine.bare l ≡ Machine.dead → (rest : List Lexeme) → runs Machine.front (b.whole (l ∷ rest)) ≡ Machine.dead
bare-ends b l e rest = b.due.leads (l ∷ rest) ∙ (ap (λ s. runs s rest) e ∙ stays-dead rest)

-- the first string and the token after it
pub before-two : (at after : Located) (l m : Lexeme) → at.lexeme ≡ l → after.lexeme ≡ m → AreBefore (at ∷ after ∷ []) (λ rest. l ∷ m ∷ rest)
before-two at after l m e f rest = ap (λ x. x ∷ after.lexeme ∷ rest) e ∙ ap (λ x. l ∷ x ∷ rest) f

pub first_value-due : (key : List ℕ) → RowValueDue (λ rest. string key ∷ equals ∷ rest) (with_key key (with_rows no_pairs (opened nothing))) Machine.bare
first_value-due key = record {
  table = Machine.without;
  at = λ rest. Begun.after_key (Begun.new_key Begun.bare rows_end refl);
  closing = [];
  closes = λ tokens v p. (table (pair key v no_pairs), bare_table (a_row (with_value p) rows_end refl) (record { same = Sorting.row Sorting.none Sorting.first; ascending = (tt, tt) }));
  leads = λ rest. refl;
}

pub first_key-left : {left mid : Budget} (key : List ℕ) → IsLeft left MAX_DEPTH nothing → Spends left 2 (2 * length key) mid
    → IsLeft mid 511 (with_key key (with_rows no_pairs (opened nothing)))
first_key-left key i s = left-after i s (omega arith) (omega arith) (omega arith)

pub first_alone-refuses : {octets : List ℕ} {source : Tokens} (at after : Located) (octet : ℕ) (key : List ℕ) (levels : ℕ) (left : Budget) → at.lexeme ≡ string key → at.start ≡ octet
    → after.lexeme ≡ semicolon → HasRead octets (at ∷ after ∷ []) source → IsLeft left levels (with_key key (with_rows no_pairs (opened nothing)))
    → MayRefuse octets octet levels (2 * length key) left
first_alone-refuses at after octet key levels left l s e h i =
    string-refuses [] (after ∷ []) at octet key (λ rest. rest) levels (2 * length key) left l s (λ rest. refl) h
    (λ others. rw e (Begun.value (Begun.at_key (Begun.new_key Begun.bare rows_end refl)) refl)) (omega arith) i

-- the first row, and what it took, without the node of its dictionary
pub record FirstRow (octets key : List ℕ) (v : Plist) (reader : Reader) : Type 0 where
  pub left : Budget
  pub is_left : IsLeft left 511 (opened nothing)
  pub taken : TakesRow left 511 key v reader.left
  pub row : ReadsRow octets [] key v reader.tokens

pub first-row : {octets : List ℕ} {left mid : Budget} (key : List ℕ) (v : Plist) (reader : Reader) → IsLeft left MAX_DEPTH nothing → Spends left 2 (2 * length key) mid
    → Takes mid 511 v reader.left → AreUnits key → ReadsRow octets [] key v reader.tokens → FirstRow octets key v reader
first-row {mid = mid} key v reader i s t u r = record {
  left = record { nodes = mid.nodes + 1; payload = mid.payload + 2 * length key };
  is_left = record {
    nodes_left = omega (arith, i.nodes_left, s.nodes_left);
    payload_left = omega (arith, i.payload_left, s.payload_left);
    levels_left = omega (arith, i.levels_left);
  };
  taken = record {
    spent = record {
      nodes_left = omega (arith, t.spent.nodes_left);
      payload_left = omega (arith, t.spent.payload_left);
    };
    some = omega arith;
    deep = t.deep;
    valid_key = u;
    valid = t.valid;
  };
  row = r;
}

-- a string alone
pub lone-text : {octets : List ℕ} (at : Located) (units : List ℕ) → at.lexeme ≡ string units → HasTokens octets (at ∷ []) → AreUnits units → 2 * length units ≤ MAX_PAYLOAD
    → IsText octets (scalar (text units))
lone-text at units l t u m =
    is-text (scalar (text units)) (at ∷ []) t (subst (λ x. TopPhrase (x ∷ []) (scalar (text units))) (sym l) (a_value a_string)) u
    (record { nodes_fit = omega arith; depth_fits = omega arith; payload_fits = m })

-- a text without tokens
pub empty-text : {octets : List ℕ} → HasTokens octets [] → IsText octets (table no_pairs)
empty-text t =
    is-text (table no_pairs) [] t (bare_table rows_end (record { same = Sorting.none; ascending = tt })) tt
    (record { nodes_fit = omega arith; depth_fits = omega arith; payload_fits = omega arith })

-- a value at the start, with all of the limits left
pub whole-left : (left : Budget) → left.nodes ≡ MAX_NODES → left.payload ≡ MAX_PAYLOAD → IsLeft left MAX_DEPTH nothing
whole-left left n p = record { nodes_left = omega (arith, n); payload_left = omega (arith, p); levels_left = omega arith }

pub whole-fits : {left after : Budget} {v : Plist} → IsLeft left MAX_DEPTH nothing → Takes left MAX_DEPTH v after → Fits v
whole-fits i t = record {
  nodes_fit = omega (arith, i.nodes_left, t.spent.nodes_left);
  depth_fits = t.deep;
  payload_fits = omega (arith, i.payload_left, t.spent.payload_left);
}

pub front-due : (first : Lexeme) → at_front first ≡ begun Machine.top first → begins_value (first ∷ []) ≡ true → ValueDue (λ rest. rest) nothing Machine.top first
front-due first e y = record {
  at = λ rest. Begun.front;
  closing = [];
  closes = λ tokens v p. (v, a_value p);
  leads = λ rest. ap (λ s. runs s rest) e;
  waits = λ n. cc (n, y);
}

-- if a fault is true, the bytes are not a text
pub refused-by : {T : Type 0} (octets : List ℕ) → FaultyIsNoText → (r : Result T TextFault) → IfErr r (Stands octets) → IfErr r (λ fault. ¬ (fault ≡ OutOfMemory) → IsNoText octets)
refused-by octets law r s = IfErr-weaker r (Stands octets) (λ fault. ¬ (fault ≡ OutOfMemory) → IsNoText octets) (λ fault stands n. law octets fault stands n) s
