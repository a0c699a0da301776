-- What a whole phrase has where a value, rows or a key are expected. Together with what comes
-- before, it is within the value.
use Rattle.std.proofs.Common.{◌≡◌, ℕ, ◌+◌, ◌*◌, ◌≤◌, Bool, true, false, ◌||◌, List, [], ◌∷◌, length, refl, ap, sym, subst, arith}
use Rattle.std.specs.Prelude.{max, nat_eq}
use Rattle.std.specs.Cmp.Lexicographic.{pointwise, bytes_decides}
use Rattle.plist_value.specs.Plist.{text, Plist, scalar, table, Items, no_items, item, Pairs, no_pairs, pair}
use Rattle.plist_value.specs.Limits.{nodes, nodes_of_items, nodes_of_pairs, depth, depth_of_items, depth_of_pairs, payload, payload_of_items, payload_of_pairs}
use Rattle.plist_value.proofs.Items.{some_depth}
use Rattle.ostep_lex.specs.Lexeme.{Lexeme, brace_open, paren_open, paren_close, semicolon, equals, text as string}
use Rattle.ostep_text.specs.Phrase.{Phrase, a_string, a_list, a_table, ItemsPhrase, items_end, last_item, an_item, RowPhrase, with_value, key_alone, RowsPhrase, rows_end, a_row, TopPhrase, a_value, bare_table}
use Rattle.ostep_text.specs.Sorting.{has_key, AreReordered}
use Rattle.ostep_text.specs.Begun
use Rattle.ostep_text.specs.Begun.{Before, nothing, opened, with_items, with_rows, with_key, ValueAt, RowsAt, NewKeyAt, NodeAt, begins_value}
use Rattle.ostep_text.specs.Stands.{payload_at}
use Rattle.std.proofs.lemmas.Bool.{false_from_ne_true, or_from}
use Rattle.ostep_text.proofs.SizeLemmas.{reordered-nodes, reordered-depth, reordered-payload}
use Rattle.ostep_text.proofs.PhraseLemmas.{begins_row, row-begins, no-phrase, Phrase-same, Row-same, value-or-row}

-- what comes before, together with this much more, is within the value
pub record Within (b : Before) (deep more load : ℕ) (v : Plist) : Type 0 where
  pub nodes_within : b.nodes + more ≤ nodes v
  pub depth_within : b.open_containers + deep ≤ depth v
  pub payload_within : b.payload + load ≤ payload v

-- a part of what is within the value
within-part : {b c : Before} {deep more load d n l : ℕ} {v : Plist} → Within b deep more load v → c.nodes + n ≤ b.nodes + more → c.open_containers + d ≤ b.open_containers + deep
    → c.payload + l ≤ b.payload + load → Within c d n l v
within-part w n d l = record {
  nodes_within = omega (arith, n, w.nodes_within);
  depth_within = omega (arith, d, w.depth_within);
  payload_within = omega (arith, l, w.payload_within);
}

within-all : {v : Plist} → Within nothing (depth v) (nodes v) (payload v) v
within-all = record { nodes_within = omega arith; depth_within = omega arith; payload_within = omega arith }

-- the rows of a dictionary
within-table : {b : Before} {v : Plist} {all ps : Pairs} → AreReordered all ps → Within b (depth (table ps)) (nodes (table ps)) (payload (table ps)) v
    → Within (opened b) (depth_of_pairs all) (nodes_of_pairs all) (payload_of_pairs all) v
within-table r w = within-part w (omega (arith, reordered-nodes r)) (omega (arith, reordered-depth r)) (omega (arith, reordered-payload r))

-- an item among all items
record ItemThere (at : List Lexeme) (vs all : Items) : Type 0 where
  value : Plist
  after : List Lexeme
  phrase : Phrase at value after
  nodes_are : nodes_of_items vs + nodes value ≤ nodes_of_items all
  depth_is : depth value ≤ depth_of_items all
  payload_is : payload_of_items vs + payload value ≤ payload_of_items all

after-item : {at : List Lexeme} {v : Plist} {vs all : Items} → ItemThere at vs all → ItemThere at (item v vs) (item v all)
after-item i = record {
  value = i.value;
  after = i.after;
  phrase = i.phrase;
  nodes_are = omega (arith, i.nodes_are);
  depth_is = omega (arith, i.depth_is);
  payload_is = omega (arith, i.payload_is);
}

first-item : {at after : List Lexeme} {v : Plist} {vs : Items} → Phrase at v after → ItemThere at no_items (item v vs)
first-item {after = after} {v = v} p = record {
  value = v;
  after = after;
  phrase = p;
  nodes_are = omega arith;
  depth_is = omega arith;
  payload_is = omega arith;
}

item-there : {inside rest at : List Lexeme} {vs all : Items} → ItemsPhrase inside all (paren_close ∷ rest) → ItemsPhrase inside vs at
    → begins_value at ≡ true → ItemThere at vs all
item-there items_end items_end b = cc b
item-there items_end (last_item q) b = absurd (no-phrase q)
item-there items_end (an_item q s) b = absurd (no-phrase q)
item-there (last_item p) items_end b = first-item p
item-there (last_item p) (last_item q) b = cc b
item-there (last_item p) (an_item q s) b = let e = Phrase-same p q in cc (e.1)
item-there (an_item p r) items_end b = first-item p
item-there (an_item p r) (last_item q) b = cc b
item-there {at = at} (an_item {v = v} {vs = all} {others = others} p r) (an_item {vs = vs} {others = after} q s) b =
    let e = Phrase-same p q in
    let after_is : after ≡ others = cc (e.1) in
    let i = item-there r (subst (λ x. ItemsPhrase x vs at) after_is s) b in
    subst (λ w. ItemThere at (item w vs) (item v all)) (e.0) (after-item i)

-- a row among all rows
record RowThere (key : List ℕ) (rest : List Lexeme) (rows all : Pairs) : Type 0 where
  value : Plist
  after : List Lexeme
  row : RowPhrase (string key ∷ rest) key value after
  once : has_key key rows ≡ false
  among : has_key key all ≡ true
  nodes_are : nodes_of_pairs rows + (1 + nodes value) ≤ nodes_of_pairs all
  depth_is : max 1 (depth value) ≤ depth_of_pairs all
  payload_is : payload_of_pairs rows + (2 * length key + payload value) ≤ payload_of_pairs all

same_key : (key : List ℕ) → pointwise nat_eq key key ≡ true
same_key key = (bytes_decides key key).1 refl

or-same : (b c : Bool) → c ≡ true → (b || c) ≡ true
or-same true c e = refl
or-same false c e = e

other_key : (key next : List ℕ) (all : Pairs) → has_key next all ≡ false → has_key key all ≡ true → pointwise nat_eq key next ≡ false
other_key key next all e f =
    false_from_ne_true (pointwise nat_eq key next) (λ same. let is : key ≡ next = (bytes_decides key next).0 same in
    let g : has_key key all ≡ false = subst (λ k. has_key k all ≡ false) (sym is) e in cc (f, g))

after-row : {key next : List ℕ} {rest : List Lexeme} {v : Plist} {rows all : Pairs} → has_key next all ≡ false → RowThere key rest rows all
    → RowThere key rest (pair next v rows) (pair next v all)
after-row {key} {next = next} {rows = rows} {all = all} d r = record {
  value = r.value;
  after = r.after;
  row = r.row;
  once = or_from (pointwise nat_eq key next) (has_key key rows) (other_key key next all d r.among) r.once;
  among = or-same (pointwise nat_eq key next) (has_key key all) r.among;
  nodes_are = omega (arith, r.nodes_are);
  depth_is = omega (arith, r.depth_is);
  payload_is = omega (arith, r.payload_is);
}

first-row : {key : List ℕ} {rest after : List Lexeme} {v : Plist} {rows : Pairs} → RowPhrase (string key ∷ rest) key v after → RowThere key rest no_pairs (pair key v rows)
first-row {key} {after = after} {v = v} {rows = rows} r = record {
  value = v;
  after = after;
  row = r;
  once = refl;
  among = rw (same_key key) refl;
  nodes_are = omega arith;
  depth_is = omega arith;
  payload_is = omega arith;
}

at-row : {key next : List ℕ} {rest after : List Lexeme} {v : Plist} {rows : Pairs} → RowPhrase (string key ∷ rest) next v after → RowThere key rest no_pairs (pair next v rows)
at-row (with_value p) = first-row (with_value p)
at-row key_alone = first-row key_alone

row-there : {inside end rest : List Lexeme} {key : List ℕ} {rows all : Pairs} → RowsPhrase inside all end → begins_row end ≡ false
    → RowsPhrase inside rows (string key ∷ rest) → RowThere key rest rows all
row-there rows_end h rows_end = cc h
row-there rows_end h (a_row q s d) = cc (h, row-begins q)
row-there (a_row p r c) h rows_end = at-row p
row-there {rest = rest} {key = key} (a_row {key = next} {v = v} {rows = all} p r c) h (a_row {key = other} {v = w} {rows = rows} q s d) =
    let e = Row-same p q in
    let t = row-there r h (subst (λ x. RowsPhrase x rows (string key ∷ rest)) (sym e.2) s) in
    subst (λ k. RowThere key rest (pair k w rows) (pair next v all)) (e.0)
    (subst (λ x. RowThere key rest (pair next x rows) (pair next v all)) (e.1) (after-row c t))

-- a place for a value has a value, or the rows of a whole text without braces
pub data ValueThere (b : Before) (v : Plist) (at : List Lexeme) : Type 0 where
  stands : {w : Plist} {rest : List Lexeme} → Phrase at w rest → Within b (depth w) (nodes w) (payload w) v → ValueThere b v at
  rows : {all : Pairs} → RowsPhrase at all [] → Within b (depth_of_pairs all) (nodes_of_pairs all) (payload_of_pairs all) v → ValueThere b v at

-- a place for rows has all rows of a dictionary, or at the start the whole text is a value
pub data RowsThere (b : Before) (v : Plist) (inside : List Lexeme) : Type 0 where
  rows : {all : Pairs} {end : List Lexeme} → RowsPhrase inside all end → begins_row end ≡ false
      → Within b (depth_of_pairs all) (nodes_of_pairs all) (payload_of_pairs all) v → RowsThere b v inside
  value : Phrase inside v [] → b ≡ opened nothing → RowsThere b v inside

-- after a key comes the rest of its row, or nothing
pub data KeyThere (b : Before) (v : Plist) (key : List ℕ) (rest : List Lexeme) : Type 0 where
  row : {w : Plist} {after : List Lexeme} → RowPhrase (string key ∷ rest) key w after
      → Within b (max 1 (depth w)) (1 + nodes w) (2 * length key + payload w) v → KeyThere b v key rest
  nothing_after : rest ≡ [] → KeyThere b v key rest

front-there : {whole : List Lexeme} {v : Plist} → TopPhrase whole v → ValueThere nothing v whole
front-there (a_value p) = stands p within-all
front-there (bare_table r s) = rows r (within-part (within-table s.same within-all) (omega arith) (omega arith) (omega arith))

bare-there : {whole : List Lexeme} {v : Plist} → TopPhrase whole v → RowsThere (opened nothing) v whole
bare-there (a_value p) = value p refl
bare-there (bare_table r s) = rows r refl (within-table s.same within-all)

no-row : {l : Lexeme} {tokens : List Lexeme} {all : Pairs} → RowsPhrase (l ∷ tokens) all [] → begins_row (l ∷ tokens) ≡ false → ⊥
no-row (a_row p r d) h = cc (h, row-begins p)

items-there : {b : Before} {v : Plist} {vs : Items} {inside at : List Lexeme} → ValueThere b v (paren_open ∷ inside) → ItemsPhrase inside vs at
    → begins_value at ≡ true → ValueThere (with_items vs (opened b)) v at
items-there (stands (a_list p) w) q h =
    let i = item-there p q h in
    stands i.phrase (within-part w (omega (arith, i.nodes_are)) (omega (arith, i.depth_is)) (omega (arith, i.payload_is)))
items-there (rows p w) q h = absurd (no-row p refl)

inside-there : {b : Before} {v : Plist} {inside : List Lexeme} → ValueThere b v (brace_open ∷ inside) → RowsThere (opened b) v inside
inside-there (stands (a_table r s) w) = rows r refl (within-table s.same w)
inside-there (rows p w) = absurd (no-row p refl)

alone : {inside rest : List Lexeme} {key : List ℕ} {v : Plist} {before : Pairs} → Phrase inside v [] → RowsPhrase inside before (string key ∷ rest)
    → (rest ≡ []) × (before ≡ no_pairs) × (v ≡ scalar (text key))
alone a_string rows_end = (refl, refl, refl)
alone p (a_row r s d) = absurd (value-or-row r p)

-- a row among all of them
within-row : {b : Before} {v : Plist} {key : List ℕ} {rest : List Lexeme} {rows all : Pairs} (r : RowThere key rest rows all)
    → Within b (depth_of_pairs all) (nodes_of_pairs all) (payload_of_pairs all) v
    → Within (with_rows rows b) (max 1 (depth r.value)) (1 + nodes r.value) (2 * length key + payload r.value) v
within-row r w = within-part w (omega (arith, r.nodes_are)) (omega (arith, r.depth_is)) (omega (arith, r.payload_is))

key-there : {b : Before} {v : Plist} {inside rest : List Lexeme} {key : List ℕ} {before : Pairs} → RowsThere b v inside
    → RowsPhrase inside before (string key ∷ rest) → KeyThere (with_rows before b) v key rest
key-there (rows p h w) q = let r = row-there p h q in row r.row (within-row r w)
key-there (value p e) q = nothing_after ((alone p q).0)

value_of : {key next : List ℕ} {at after : List Lexeme} {w : Plist} → RowPhrase (string key ∷ equals ∷ at) next w after → Phrase at w (semicolon ∷ after)
value_of (with_value p) = p

same_text : {key next : List ℕ} {rest after : List Lexeme} {w : Plist} → RowPhrase (string key ∷ semicolon ∷ rest) next w after → w ≡ scalar (text key)
same_text key_alone = refl

key_value-there : {b : Before} {v : Plist} {key : List ℕ} {at : List Lexeme} → KeyThere b v key (equals ∷ at) → ValueThere (with_key key b) v at
key_value-there (row r w) = stands (value_of r) (within-part w (omega arith) (omega arith) (omega arith))
key_value-there (nothing_after e) = cc e

key_alone-there : {b : Before} {v : Plist} {key : List ℕ} {rest : List Lexeme} → KeyThere b v key (semicolon ∷ rest)
    → ValueThere (with_key key b) v (string key ∷ semicolon ∷ rest)
key_alone-there {b} {v} {key} (row r w) =
    let u : Within b (max 1 1) (1 + 1) (2 * length key + 2 * length key) v =
    subst (λ x. Within b (max 1 (depth x)) (1 + nodes x) (2 * length key + payload x) v) (same_text r) w
    in
    stands a_string (within-part u (omega arith) (omega arith) (omega arith))
key_alone-there (nothing_after e) = cc e

mutual
  pub value-there : {whole at : List Lexeme} {b : Before} {v : Plist} → TopPhrase whole v → ValueAt whole b at → begins_value at ≡ true → ValueThere b v at
  value-there t Begun.front h = front-there t
  value-there t (Begun.after_items p q) h = items-there (value-there t p refl) q h
  value-there t (Begun.after_key k) h = key_value-there (new_key-there t k)
  value-there t (Begun.at_key k) h = key_alone-there (new_key-there t k)

  pub rows-there : {whole inside : List Lexeme} {b : Before} {v : Plist} → TopPhrase whole v → RowsAt whole b inside → RowsThere b v inside
  rows-there t (Begun.after_brace p) = inside-there (value-there t p refl)
  rows-there t Begun.bare = bare-there t

  pub new_key-there : {whole rest : List Lexeme} {b : Before} {v : Plist} {key : List ℕ} → TopPhrase whole v → NewKeyAt whole b key rest → KeyThere b v key rest
  new_key-there t (Begun.new_key p q d) = key-there (rows-there t p) q

-- the key of a row occurs only once among the rows of its dictionary
pub row-once : {b : Before} {v : Plist} {inside rest : List Lexeme} {key : List ℕ} {before : Pairs} → RowsThere b v inside
    → RowsPhrase inside before (string key ∷ rest) → has_key key before ≡ false
row-once (rows p h w) q = (row-there p h q).once
row-once {key = key} (value p e) q = subst (λ x. has_key key x ≡ false) (sym ((alone p q).1)) refl

-- what comes before a value or a key is, together with its token, within the value; a string alone
-- may also be the first key of a dictionary without braces
pub record NodeWithin (b : Before) (at : List Lexeme) (v : Plist) : Type 0 where
  pub nodes_within : b.nodes + 1 ≤ max 2 (nodes v)
  pub depth_within : b.open_containers + 1 ≤ max 2 (depth v)
  pub payload_within : b.payload + payload_at at ≤ payload v

pub some-nodes : (v : Plist) → 1 ≤ nodes v
some-nodes (scalar s) = omega arith
some-nodes _ = omega arith

first-payload : {at rest : List Lexeme} {w : Plist} → Phrase at w rest → payload_at at ≤ payload w
first-payload a_string = omega arith
first-payload _ = omega arith

row-payload : {at rest : List Lexeme} {key : List ℕ} {w : Plist} → RowPhrase at key w rest → payload_at at ≡ 2 * length key
row-payload (with_value p) = refl
row-payload key_alone = refl

node-part : {b : Before} {deep more load : ℕ} {at : List Lexeme} {v : Plist} → Within b deep more load v → 1 ≤ more → 1 ≤ deep → payload_at at ≤ load → NodeWithin b at v
node-part w n d l = record {
  nodes_within = omega (arith, w.nodes_within, n);
  depth_within = omega (arith, w.depth_within, d);
  payload_within = omega (arith, w.payload_within, l);
}

rows-node : {b : Before} {at : List Lexeme} {all : Pairs} {v : Plist} → RowsPhrase at all [] → begins_value at ≡ true
    → Within b (depth_of_pairs all) (nodes_of_pairs all) (payload_of_pairs all) v → NodeWithin b at v
rows-node rows_end h w = cc h
rows-node (a_row r s d) h w = node-part w (omega arith) (omega arith) (omega (arith, row-payload r))

value-node : {b : Before} {at : List Lexeme} {v : Plist} → ValueThere b v at → begins_value at ≡ true → NodeWithin b at v
value-node (stands {w = x} p w) h = node-part w (some-nodes x) (some_depth x) (first-payload p)
value-node (rows p w) h = rows-node p h w

key-node : {b : Before} {inside rest : List Lexeme} {key : List ℕ} {before : Pairs} {v : Plist} → RowsThere b v inside
    → RowsPhrase inside before (string key ∷ rest) → NodeWithin (with_rows before b) (string key ∷ rest) v
key-node (rows p h w) q = node-part (within-row (row-there p h q) w) (omega arith) (omega arith) (omega arith)
key-node {b} {key = key} {before = before} {v = v} (value p e) q =
    let a = alone p q in
    record {
      nodes_within = omega (arith, ap (λ (x : Before). x.nodes) e, ap nodes_of_pairs (a.1));
      depth_within = omega (arith, ap (λ (x : Before). x.open_containers) e);
      payload_within = omega (arith, ap (λ (x : Before). x.payload) e, ap payload_of_pairs (a.1), ap payload (a.2));
    }

pub node-within : {whole at : List Lexeme} {b : Before} {v : Plist} → TopPhrase whole v → NodeAt whole b at → NodeWithin b at v
node-within t (Begun.value p h) = value-node (value-there t p h) h
node-within t (Begun.key p q) = key-node (rows-there t p) q
