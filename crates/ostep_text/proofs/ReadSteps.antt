-- Composing what was read from its parts.
use Rattle.std.proofs.Common.{◌≡◌, ℕ, false, List, [], ◌∷◌, ◌++◌, refl, sym, subst, ◌∙◌}
use Rattle.plist_value.specs.Plist.{Plist, scalar, text, bytes, list, table, Items, no_items, Pairs, no_pairs, ArePairs}
use Rattle.plist_value.proofs.Pairs.{put_pair}
use Rattle.ostep_lex.specs.Lexeme.{Lexeme, Located, brace_open, brace_close, paren_open, paren_close, comma, semicolon, equals, text as string, octets as data_token}
use Rattle.ostep_text.specs.Phrase.{Phrase, ItemsPhrase, a_string, some_data, a_list, a_table, items_end, rows_end, with_value, key_alone, a_value, bare_table, TopPhrase}
use Rattle.ostep_text.specs.Sorting.{has_key, none, AreSorted}
use Rattle.ostep_text.specs.Text.{lexemes}
use Rattle.ostep_text.specs.declared.tokens.Tokens.{Tokens}
use Rattle.ostep_text.specs.Reading.{Front, AreBefore, HasRead, ReadsOn, ReadsValue, ReadsEnded, ReadsItems, ReadsRow, ReadsRows, ReadsPairs}
use Rattle.ostep_text.proofs.PhraseSteps.{push_row, items-more, items-last, rows-more}
use Rattle.plist_value.proofs.Items.{push}
use Rattle.ostep_text.proofs.SortingSteps.{reordered-more, put-stands, reordered-has, pairs-ascend}
use Rattle.ostep_text.proofs.Standing.{before-more, before-are}

reads-none : {octets : List ℕ} {source : Tokens} {tokens : List Located} → HasRead octets tokens source → ReadsOn octets tokens (λ rest. rest) source
reads-none {tokens = tokens} h = record { all = tokens; has = h; follow = λ whole b. b }

reads-token : {octets : List ℕ} {source : Tokens} (tokens : List Located) (token : Located) (l : Lexeme) → token.lexeme ≡ l → HasRead octets (tokens ++ token ∷ []) source → ReadsOn octets tokens (λ rest. l ∷ rest) source
reads-token tokens token l e h = record {
  all = tokens ++ token ∷ [];
  has = h;
  follow = λ whole b. subst (λ x. AreBefore (tokens ++ token ∷ []) (λ rest. whole (x ∷ rest))) e (before-more tokens token whole b);
}

-- two parts read one after the other
reads-then : {octets : List ℕ} {old source : Tokens} {tokens : List Located} {inside more : Front} (r : ReadsOn octets tokens inside old) → ReadsOn octets r.all more source
    → ReadsOn octets tokens (λ rest. inside (more rest)) source
reads-then {inside = inside} r s = record {
  all = s.all;
  has = s.has;
  follow = λ whole b. s.follow (λ rest. whole (inside rest)) (r.follow whole b);
}

pub string-read : {octets : List ℕ} {source : Tokens} (tokens : List Located) (first : Located) (units : List ℕ) → first.lexeme ≡ string units → HasRead octets (tokens ++ first ∷ []) source
    → ReadsValue octets tokens first.lexeme (scalar (text units)) source
string-read tokens first units e h = record {
  inside = λ rest. rest;
  spells = λ rest. subst (λ x. Phrase (x ∷ rest) (scalar (text units)) rest) (sym e) a_string;
  reads = reads-token tokens first first.lexeme refl h;
}

pub data-read : {octets : List ℕ} {source : Tokens} (tokens : List Located) (first : Located) (xs : List ℕ) → first.lexeme ≡ data_token xs → HasRead octets (tokens ++ first ∷ []) source
    → ReadsValue octets tokens first.lexeme (scalar (bytes xs)) source
data-read tokens first xs e h = record {
  inside = λ rest. rest;
  spells = λ rest. subst (λ x. Phrase (x ∷ rest) (scalar (bytes xs)) rest) (sym e) some_data;
  reads = reads-token tokens first first.lexeme refl h;
}

-- after a first token
after-first : {octets : List ℕ} {source : Tokens} {inside : Front} (tokens : List Located) (first : Located) → ReadsOn octets (tokens ++ first ∷ []) inside source
    → ReadsOn octets tokens (λ rest. first.lexeme ∷ inside rest) source
after-first tokens first r = record {
  all = r.all;
  has = r.has;
  follow = λ whole b. r.follow (λ rest. whole (first.lexeme ∷ rest)) (before-more tokens first whole b);
}

pub list-read : {octets : List ℕ} {source : Tokens} {vs : Items} (tokens : List Located) (first : Located) → first.lexeme ≡ paren_open
    → ReadsItems octets (tokens ++ first ∷ []) (paren_close ∷ []) vs source → ReadsValue octets tokens first.lexeme (list vs) source
list-read {vs = vs} tokens first e i = record {
  inside = i.inside;
  spells = λ rest. subst (λ x. Phrase (x ∷ i.inside rest) (list vs) rest) (sym e) (a_list (i.spells rest));
  reads = after-first tokens first i.reads;
}

pub table-read : {octets : List ℕ} {source : Tokens} {rows ps : Pairs} (tokens : List Located) (first : Located) → first.lexeme ≡ brace_open
    → ReadsRows octets (tokens ++ first ∷ []) (brace_close ∷ []) rows source → AreSorted rows ps → ReadsValue octets tokens first.lexeme (table ps) source
table-read {ps = ps} tokens first e r s = record {
  inside = r.inside;
  spells = λ rest. subst (λ x. Phrase (x ∷ r.inside rest) (table ps) rest) (sym e) (a_table (r.spells rest) s);
  reads = after-first tokens first r.reads;
}

pub no-items-read : {octets : List ℕ} {source : Tokens} {tokens : List Located} → HasRead octets tokens source → ReadsItems octets tokens [] no_items source
no-items-read h = record { inside = λ rest. rest; spells = λ rest. items_end; reads = reads-none h }

-- the token after an item, and what is left of the end
pub data EndsItem : Lexeme → List Lexeme → Type 0 where
  continued : EndsItem comma []
  closed : EndsItem paren_close (paren_close ∷ [])

ended-items : {l : Lexeme} {tokens more rest end : List Lexeme} {vs : Items} {w : Plist} → EndsItem l end → ItemsPhrase tokens vs more → Phrase more w (l ∷ rest)
    → ItemsPhrase tokens (push vs w) (end ++ rest)
ended-items continued p q = items-more p q
ended-items closed p q = items-last p q

pub item-read : {octets : List ℕ} {old mid source : Tokens} {tokens : List Located} {first l : Lexeme} {end : List Lexeme} {vs : Items} {w : Plist} (i : ReadsItems octets tokens [] vs old)
    (v : ReadsValue octets i.reads.all first w mid) (token : Located) → EndsItem l end → token.lexeme ≡ l → HasRead octets (v.reads.all ++ token ∷ []) source → ReadsItems octets tokens end (push vs w) source
item-read {first = first} {l = l} i v token ends e h = record {
  inside = λ rest. i.inside (first ∷ v.inside (l ∷ rest));
  spells = λ rest. ended-items ends (i.spells (first ∷ v.inside (l ∷ rest))) (v.spells (l ∷ rest));
  reads = reads-then i.reads (reads-then v.reads (reads-token v.reads.all token l e h));
}

pub items-read : {octets : List ℕ} {old source : Tokens} {tokens : List Located} {vs : Items} (i : ReadsItems octets tokens [] vs old) (token : Located) → token.lexeme ≡ paren_close
    → HasRead octets (i.reads.all ++ token ∷ []) source → ReadsItems octets tokens (paren_close ∷ []) vs source
items-read i token e h = record {
  inside = λ rest. i.inside (paren_close ∷ rest);
  spells = λ rest. i.spells (paren_close ∷ rest);
  reads = reads-then i.reads (reads-token i.reads.all token paren_close e h);
}

pub ended-read : {octets : List ℕ} {mid source : Tokens} {v : Plist} (tokens : List Located) (first : Located) (r : ReadsValue octets tokens first.lexeme v mid) (token : Located)
    → token.lexeme ≡ semicolon → HasRead octets (r.reads.all ++ token ∷ []) source → ReadsEnded octets tokens v source
ended-read tokens first r token e h = record {
  inside = λ rest. first.lexeme ∷ r.inside (semicolon ∷ rest);
  spells = λ rest. r.spells (semicolon ∷ rest);
  reads = reads-then r.reads (reads-token r.reads.all token semicolon e h);
}

pub row-read : {octets : List ℕ} {source : Tokens} {v : Plist} (tokens : List Located) (at token : Located) (key : List ℕ) → at.lexeme ≡ string key → token.lexeme ≡ equals
    → ReadsEnded octets ((tokens ++ at ∷ []) ++ token ∷ []) v source → ReadsRow octets tokens key v source
row-read {octets} {source} tokens at token key l e r = record {
  inside = λ rest. string key ∷ equals ∷ r.inside rest;
  spells = λ rest. with_value (r.spells rest);
  reads = subst (λ x. ReadsOn octets tokens (λ rest. x ∷ equals ∷ r.inside rest) source) l
      (subst (λ x. ReadsOn octets tokens (λ rest. at.lexeme ∷ x ∷ r.inside rest) source) e
      (after-first tokens at (after-first (tokens ++ at ∷ []) token r.reads)));
}

pub alone-read : {octets : List ℕ} {source : Tokens} (tokens : List Located) (at token : Located) (key : List ℕ) → at.lexeme ≡ string key → token.lexeme ≡ semicolon
    → HasRead octets ((tokens ++ at ∷ []) ++ token ∷ []) source → ReadsRow octets tokens key (scalar (text key)) source
alone-read {octets} {source} tokens at token key l e h = record {
  inside = λ rest. string key ∷ semicolon ∷ rest;
  spells = λ rest. key_alone;
  reads = subst (λ x. ReadsOn octets tokens (λ rest. x ∷ semicolon ∷ rest) source) l
      (after-first tokens at (reads-token (tokens ++ at ∷ []) token semicolon e h));
}

pub no-rows-read : {octets : List ℕ} {source : Tokens} {tokens : List Located} → HasRead octets tokens source → ReadsRows octets tokens [] no_pairs source
no-rows-read h = record { inside = λ rest. rest; spells = λ rest. rows_end; reads = reads-none h }

pub row-more-read : {octets : List ℕ} {old source : Tokens} {tokens : List Located} {rows : Pairs} {key : List ℕ} {v : Plist} (r : ReadsRows octets tokens [] rows old)
    → ReadsRow octets r.reads.all key v source → has_key key rows ≡ false → ReadsRows octets tokens [] (push_row rows key v) source
row-more-read r s n = record {
  inside = λ rest. r.inside (s.inside rest);
  spells = λ rest. rows-more (r.spells (s.inside rest)) (s.spells rest) n;
  reads = reads-then r.reads s.reads;
}

pub rows-read : {octets : List ℕ} {old source : Tokens} {tokens : List Located} {rows : Pairs} (r : ReadsRows octets tokens [] rows old) (token : Located) → token.lexeme ≡ brace_close
    → HasRead octets (r.reads.all ++ token ∷ []) source → ReadsRows octets tokens (brace_close ∷ []) rows source
rows-read r token e h = record {
  inside = λ rest. r.inside (brace_close ∷ rest);
  spells = λ rest. r.spells (brace_close ∷ rest);
  reads = reads-then r.reads (reads-token r.reads.all token brace_close e h);
}

-- rows that are the pairs, once sorted by their keys
pub no-pairs-read : {octets : List ℕ} {tokens : List Located} {source : Tokens} → HasRead octets tokens source → ReadsPairs octets tokens [] no_pairs source
no-pairs-read h = record { rows = no_pairs; read = no-rows-read h; same = none }

pub pair-read : {octets : List ℕ} {tokens : List Located} {ps : Pairs} {key : List ℕ} {v : Plist} {old after : Tokens} (r : ReadsPairs octets tokens [] ps old)
    → ReadsRow octets r.read.reads.all key v after → has_key key ps ≡ false → ReadsPairs octets tokens [] (put_pair key v ps) after
pair-read {ps = ps} {key = key} {v = v} r s n = record {
  rows = push_row r.rows key v;
  read = row-more-read r.read s (reordered-has key r.same ∙ n);
  same = reordered-more r.same (put-stands key v ps n);
}

pub pairs-read : {octets : List ℕ} {tokens : List Located} {ps : Pairs} {old after : Tokens} (r : ReadsPairs octets tokens [] ps old) (token : Located) → token.lexeme ≡ brace_close
    → HasRead octets (r.read.reads.all ++ token ∷ []) after → ReadsPairs octets tokens (brace_close ∷ []) ps after
pairs-read r token e h = record { rows = r.rows; read = rows-read r.read token e h; same = r.same }

pub pairs-table : {octets : List ℕ} {ps : Pairs} {after : Tokens} (tokens : List Located) (first : Located) → first.lexeme ≡ brace_open
    → ReadsPairs octets (tokens ++ first ∷ []) (brace_close ∷ []) ps after → ArePairs ps → ReadsValue octets tokens first.lexeme (table ps) after
pairs-table {ps = ps} tokens first e r a = table-read tokens first e r.read (record { same = r.same; ascending = pairs-ascend ps a })

pub whole-phrase : {octets : List ℕ} {source : Tokens} {first : Lexeme} {v : Plist} (r : ReadsValue octets [] first v source) → TopPhrase (lexemes r.reads.all) v
whole-phrase {first = first} {v = v} r =
    subst (λ ls. TopPhrase ls v) (sym (before-are r.reads.all (λ rest. first ∷ r.inside rest) (r.reads.follow (λ rest. rest) (λ rest. refl)))) (a_value (r.spells []))

pub rows-phrase : {octets : List ℕ} {source : Tokens} {rows ps : Pairs} (r : ReadsRows octets [] [] rows source) → AreSorted rows ps → TopPhrase (lexemes r.reads.all) (table ps)
rows-phrase {ps = ps} r s =
    subst (λ ls. TopPhrase ls (table ps)) (sym (before-are r.reads.all r.inside (r.reads.follow (λ rest. rest) (λ rest. refl)))) (bare_table (r.spells []) s)
