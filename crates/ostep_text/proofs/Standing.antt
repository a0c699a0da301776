-- Faults that are true if the bytes have tokens, from what was read; and the start of a text.
use Rattle.std.proofs.Common.{◌≡◌, ℕ, ◌≤◌, true, false, List, [], ◌∷◌, ◌++◌, length, refl, sym, ap, subst, ◌∙◌, append_assoc, append-nil, arith, ◌*◌}
use Rattle.std.proofs.lemmas.List.{map-append}
use Rattle.plist_value.specs.declared.budget.Budget.{Budget}
use Rattle.ostep_lex.specs.Lexeme.{Lexeme, Located, text as string, semicolon}
use Rattle.ostep_lex.specs.Lexing.{HasTokens}
use Rattle.ostep_lex.specs.declared.fault.LexFault.{LexFault}
use Rattle.ostep_lex.specs.declared.fault.LexFault.TheVariants as lexer
use Rattle.ostep_lex.specs.Stands.{StandsInTokens as StandsInTokens}
use Rattle.ostep_lex.proofs.LawProofs.{tokens_continue}
use Rattle.ostep_text.specs.declared.fault.TextFault.TheVariants.{Expected, Junk, DuplicateKey}
use Rattle.ostep_text.specs.Fault.{of_tokens}
use Rattle.ostep_text.specs.Begun.{Before, NodeAt, ValueAt, nothing, opened, with_rows, begins_value, RowsAt, with_key}
use Rattle.ostep_text.specs.Text.{lexemes}
use Rattle.ostep_text.specs.Stands as Faults
use Rattle.ostep_text.specs.Stands.{Stands, Splits, BeginsAt, BeginsPhrase, IsPhrase, payload_at}
use Rattle.ostep_text.specs.declared.tokens.Tokens.{Tokens}
use Rattle.ostep_text.specs.Machine
use Rattle.ostep_text.specs.Machine.{runs, accepts, at_front, begun, Around}
use Rattle.ostep_text.specs.Reading.{Front, AreBefore, HasRead, StandsIfLexed, MayRefuse, IsLeft, ReadsValue}
use Rattle.ostep_text.specs.Due.{IsOpen, RowDue}
use Rattle.plist_value.specs.Plist.{Plist, no_pairs, Pairs}
use Rattle.ostep_text.specs.Phrase.{rows_end}
use Rattle.ostep_text.specs.Begun
use Rattle.ostep_text.specs.Sorting.{has_key}
use Rattle.ostep_text.proofs.MachineLemmas.{not-accepted, phrase-accepted, value-runs, stays-dead}
use Rattle.ostep_text.proofs.DueSteps.{key-node, alone-node}
use Rattle.ostep_text.proofs.SortingSteps.{reordered-has}

pub tokens-stand : (octets : List ℕ) (fault : LexFault) → StandsInTokens octets fault → Stands octets (of_tokens fault)
tokens-stand octets lexer.OutOfMemory s = tt
tokens-stand octets _ s = s

pub before-more : (tokens : List Located) (token : Located) (whole : Front) → AreBefore tokens whole → AreBefore (tokens ++ token ∷ []) (λ rest. whole (token.lexeme ∷ rest))
before-more tokens token whole b rest =
    ap (λ ls. ls ++ rest) (map-append (λ (t : Located). t.lexeme) tokens (token ∷ [])) ∙ (append_assoc (lexemes tokens) (token.lexeme ∷ []) rest ∙ b (token.lexeme ∷ rest))

pub before-are : (tokens : List Located) (whole : Front) → AreBefore tokens whole → lexemes tokens ≡ whole []
before-are tokens whole b = sym (append-nil (lexemes tokens)) ∙ b []

pub whole-append : (tokens : List Located) (whole : Front) → AreBefore tokens whole → (rest : List Lexeme) → whole [] ++ rest ≡ whole rest
whole-append tokens whole b rest = ap (λ ls. ls ++ rest) (sym (before-are tokens whole b)) ∙ b rest

-- all tokens of the bytes, split at a token that was read
pub record SplitsAt (octets : List ℕ) (before : List Lexeme) (token : Located) (more : List Located) : Type 0 where
  pub others : List Located
  pub splits : Splits octets token.start before (token.lexeme ∷ lexemes (more ++ others))

pub splits-at : {octets : List ℕ} {source : Tokens} (tokens more : List Located) (token : Located) (whole : Front) → AreBefore tokens whole
    → HasRead octets (tokens ++ token ∷ more) source → (all : List Located) → HasTokens octets all → SplitsAt octets (whole []) token more
splits-at {octets} tokens more token whole b h all t =
    let c = tokens_continue octets (tokens ++ token ∷ more) all _ h.after.before t in
    let is : all ≡ tokens ++ token ∷ (more ++ c.others) = c.first ∙ append_assoc tokens (token ∷ more) c.others in
    record {
      others = c.others;
      splits = record {
        tokens = tokens;
        others = token ∷ (more ++ c.others);
        has = subst (λ ts. HasTokens octets ts) is t;
        before_are = before-are tokens whole b;
        from_are = refl;
        stands = refl;
      };
    }

pub begins-phrase : (tokens : List Located) (whole : Front) → AreBefore tokens whole → (o : IsOpen whole) → BeginsPhrase (whole [])
begins-phrase tokens whole b o = (o.others, subst (λ ls. IsPhrase ls) (sym (whole-append tokens whole b o.others)) o.goes_on)

-- no phrase continues with a token that leads to the dead state
pub goes-nowhere : (tokens : List Located) (whole : Front) (l : Lexeme) → AreBefore tokens whole → ((rest : List Lexeme) → runs Machine.front (whole (l ∷ rest)) ≡ Machine.dead)
    → ¬ BeginsPhrase (whole [] ++ l ∷ [])
goes-nowhere tokens whole l b d p =
    let is : (whole [] ++ l ∷ []) ++ p.0 ≡ whole (l ∷ p.0) = append_assoc (whole []) (l ∷ []) p.0 ∙ whole-append tokens whole b (l ∷ p.0) in
    let yes : accepts (runs Machine.front (whole (l ∷ p.0))) ≡ true = phrase-accepted (subst (λ ls. IsPhrase ls) is (p.1)) in
    let nowhere : accepts (runs Machine.front (whole (l ∷ p.0))) ≡ false = ap accepts (d p.0) in
    cc (yes, nowhere)

pub expected-at : {octets : List ℕ} {source : Tokens} (tokens : List Located) (token : Located) (whole : Front) → AreBefore tokens whole
    → HasRead octets (tokens ++ token ∷ []) source → IsOpen whole → ((rest : List Lexeme) → runs Machine.front (whole (token.lexeme ∷ rest)) ≡ Machine.dead)
    → StandsIfLexed octets (Expected token.start)
expected-at tokens token whole b h o d all t =
    Faults.at_token (splits-at tokens [] token whole b h all t).splits (begins-phrase tokens whole b o) (not-accepted o.unfinished) (goes-nowhere tokens whole token.lexeme b d)

pub expected-end : {octets : List ℕ} (tokens : List Located) (end : ℕ) (whole : Front) → AreBefore tokens whole → HasTokens octets tokens → end ≡ length octets → IsOpen whole
    → Stands octets (Expected end)
expected-end {octets} tokens end whole b t e o =
    Faults.at_end (record {
      tokens = tokens;
      others = [];
      has = subst (λ ts. HasTokens octets ts) (sym (append-nil tokens)) t;
      before_are = before-are tokens whole b;
      from_are = refl;
      stands = e;
    }) (begins-phrase tokens whole b o) (not-accepted o.unfinished)

pub expected-front : {octets : List ℕ} {source : Tokens} (token : Located) → HasRead octets (token ∷ []) source
    → ((rest : List Lexeme) → runs Machine.front (token.lexeme ∷ rest) ≡ Machine.dead) → StandsIfLexed octets (Expected token.start)
expected-front token h d all t =
    Faults.at_front (splits-at [] [] token (λ rest. rest) (λ rest. refl) h all t).splits (goes-nowhere [] (λ rest. rest) token.lexeme (λ rest. refl) d)

-- at least one token precedes
data IsSome (ls : List Lexeme) : Type 0 where
  some : (first : Lexeme) (more : List Lexeme) → ls ≡ first ∷ more → IsSome ls

is-some : (ls : List Lexeme) → ¬ (ls ≡ []) → IsSome ls
is-some [] n = absurd (n refl)
is-some (l ∷ ls) n = some l ls refl

pub junk-at : {octets : List ℕ} {source : Tokens} (tokens : List Located) (token : Located) (whole : Front) → AreBefore tokens whole
    → HasRead octets (tokens ++ token ∷ []) source → ¬ (whole [] ≡ []) → IsPhrase (whole [])
    → ((rest : List Lexeme) → runs Machine.front (whole (token.lexeme ∷ rest)) ≡ Machine.dead) → StandsIfLexed octets (Junk token.start)
junk-at {octets} tokens token whole b h n p d all t =
    let s = splits-at tokens [] token whole b h all t in
    elim (is-some (whole []) n) [
      | some first more e ↦ Faults.after_phrase
          (subst (λ ls. Splits octets token.start ls (token.lexeme ∷ lexemes s.others)) e s.splits)
          (subst (λ ls. IsPhrase ls) e p)
          (λ q. goes-nowhere tokens whole token.lexeme b d (subst (λ ls. BeginsPhrase (ls ++ token.lexeme ∷ [])) (sym e) q))
    ]

begins-at : {octets : List ℕ} {source : Tokens} {b : Before} (tokens more : List Located) (token : Located) (whole : Front) → AreBefore tokens whole
    → HasRead octets (tokens ++ token ∷ more) source
    → ((others : List Located) → NodeAt (whole (token.lexeme ∷ lexemes (more ++ others))) b (token.lexeme ∷ lexemes (more ++ others)))
    → (all : List Located) → HasTokens octets all → (others : List Located) × BeginsAt octets token.start b (token.lexeme ∷ lexemes (more ++ others))
begins-at {b = b} tokens more token whole f h n all t =
    let s = splits-at tokens more token whole f h all t in
    let from : List Lexeme = token.lexeme ∷ lexemes (more ++ s.others) in (
      s.others,
      record {
        before = whole [];
        splits = s.splits;
        begins = subst (λ ls. NodeAt ls b from) (sym (whole-append tokens whole f from)) (n s.others);
      },
    )

-- if a value or a key begins at a token, a limit that it exceeds is refused there
pub node-refuses : {octets : List ℕ} {source : Tokens} {b : Before} (tokens more : List Located) (token : Located) (whole : Front) (levels load : ℕ) (left : Budget)
    → AreBefore tokens whole → HasRead octets (tokens ++ token ∷ more) source
    → ((others : List Located) → NodeAt (whole (token.lexeme ∷ lexemes (more ++ others))) b (token.lexeme ∷ lexemes (more ++ others)))
    → ((rest : List Lexeme) → load ≤ payload_at (token.lexeme ∷ rest)) → IsLeft left levels b → MayRefuse octets token.start levels load left
node-refuses {octets} {b = b} tokens more token whole levels load left f h n m i = record {
  many = λ e all t. let g = begins-at tokens more token whole f h n all t in
      record { before = b; from = token.lexeme ∷ lexemes (more ++ g.0); begins = g.1; full = omega (arith, i.nodes_left) };
  deep = λ e all t. let g = begins-at tokens more token whole f h n all t in
      record { before = b; from = token.lexeme ∷ lexemes (more ++ g.0); begins = g.1; full = omega (arith, i.levels_left) };
  much = λ e all t. let g = begins-at tokens more token whole f h n all t in
      let load_is : load ≤ payload_at (token.lexeme ∷ lexemes (more ++ g.0)) = m (lexemes (more ++ g.0)) in
      record { before = b; from = token.lexeme ∷ lexemes (more ++ g.0); begins = g.1; within = omega (arith, i.payload_left); past = omega (arith, i.payload_left, load_is) };
}

pub same-read : {octets : List ℕ} {tokens : List Located} {old new : Tokens} → HasRead octets tokens old → new ≡ old → HasRead octets tokens new
same-read {octets} {tokens} h e = subst (λ x. HasRead octets tokens x) (sym e) h

pub value-ends : {octets : List ℕ} {first : Lexeme} {v : Plist} {source : Tokens} (r : ReadsValue octets [] first v source) → at_front first ≡ begun Machine.top first
    → (l : Lexeme) (rest : List Lexeme) → runs Machine.front (first ∷ r.inside (l ∷ rest)) ≡ Machine.dead
value-ends {first = first} r e l rest =
    ap (λ s. runs s (r.inside (l ∷ rest))) e ∙ (value-runs Machine.top (r.spells (l ∷ rest)) ∙ stays-dead rest)

payload-string : (l : Lexeme) (key : List ℕ) (rest : List Lexeme) → l ≡ string key → payload_at (l ∷ rest) ≡ 2 * length key
payload-string l key rest e = rw e refl

-- a node at a string, with at most the payload of the string
pub string-refuses : {octets : List ℕ} {source : Tokens} {b : Before} (tokens more : List Located) (at : Located) (octet : ℕ) (key : List ℕ) (whole : Front) (levels load : ℕ) (left : Budget)
    → at.lexeme ≡ string key → at.start ≡ octet → ((rest : List Lexeme) → lexemes tokens ++ rest ≡ whole rest) → HasRead octets (tokens ++ at ∷ more) source
    → ((others : List Located) → NodeAt (whole (string key ∷ lexemes (more ++ others))) b (string key ∷ lexemes (more ++ others)))
    → load ≤ 2 * length key → IsLeft left levels b → MayRefuse octets octet levels load left
string-refuses {octets} {b = b} tokens more at octet key whole levels load left l s f h n m i =
    subst (λ x. MayRefuse octets x levels load left) s
    (node-refuses tokens more at whole levels load left f h
    (λ others. subst (λ x. NodeAt (whole (x ∷ lexemes (more ++ others))) b (x ∷ lexemes (more ++ others))) (sym l) (n others))
    (λ rest. let load_is : payload_at (at.lexeme ∷ rest) ≡ 2 * length key = payload-string at.lexeme key rest l in omega (arith, load_is, m)) i)

-- the string at the start, as a value or as a dictionary that begins there, and as the first key
pub front-refuses : {octets : List ℕ} {source : Tokens} (more : List Located) (at : Located) (octet : ℕ) (key : List ℕ) (levels load : ℕ) (left : Budget)
    → at.lexeme ≡ string key → at.start ≡ octet → HasRead octets (at ∷ more) source → load ≤ 2 * length key → IsLeft left levels nothing → MayRefuse octets octet levels load left
front-refuses more at octet key levels load left l s h m i =
    string-refuses [] more at octet key (λ rest. rest) levels load left l s (λ rest. refl) h (λ others. Begun.value Begun.front refl) m i

pub first_key-refuses : {octets : List ℕ} {source : Tokens} (more : List Located) (at : Located) (octet : ℕ) (key : List ℕ) (levels load : ℕ) (left : Budget)
    → at.lexeme ≡ string key → at.start ≡ octet → HasRead octets (at ∷ more) source → load ≤ 2 * length key → IsLeft left levels (with_rows no_pairs (opened nothing))
    → MayRefuse octets octet levels load left
first_key-refuses more at octet key levels load left l s h m i =
    string-refuses [] more at octet key (λ rest. rest) levels load left l s (λ rest. refl) h (λ others. Begun.key Begun.bare rows_end) m i

-- a value that begins with the token
pub value-refuses : {octets : List ℕ} {source : Tokens} {b : Before} (tokens : List Located) (first : Located) (l : Lexeme) (whole : Front) (levels load : ℕ) (left : Budget)
    → first.lexeme ≡ l → AreBefore tokens whole → HasRead octets (tokens ++ first ∷ []) source → ((rest : List Lexeme) → ValueAt (whole rest) b rest)
    → ((rest : List Lexeme) → begins_value (l ∷ rest) ≡ true) → ((rest : List Lexeme) → load ≤ payload_at (l ∷ rest)) → IsLeft left levels b
    → MayRefuse octets first.start levels load left
value-refuses {b = b} tokens first l whole levels load left e f h at begins m i =
    node-refuses tokens [] first whole levels load left f h
    (λ others. Begun.value (at (first.lexeme ∷ lexemes others)) (subst (λ x. begins_value (x ∷ lexemes others) ≡ true) (sym e) (begins (lexemes others))))
    (λ rest. subst (λ x. load ≤ payload_at (x ∷ rest)) (sym e) (m rest)) i

pub before-at : (tokens : List Located) (token : Located) (l : Lexeme) (whole : Front) → token.lexeme ≡ l → AreBefore tokens whole
    → AreBefore (tokens ++ token ∷ []) (λ rest. whole (l ∷ rest))
before-at tokens token l whole e f = subst (λ x. AreBefore (tokens ++ token ∷ []) (λ rest. whole (x ∷ rest))) e (before-more tokens token whole f)

pub before-key : (tokens : List Located) (at : Located) (key : List ℕ) (whole : Front) → at.lexeme ≡ string key → AreBefore tokens whole
    → AreBefore (tokens ++ at ∷ []) (λ rest. whole (string key ∷ rest))
before-key tokens at key whole l f = subst (λ x. AreBefore (tokens ++ at ∷ []) (λ rest. whole (x ∷ rest))) l (before-more tokens at whole f)

pub key-refuses : {octets : List ℕ} {source : Tokens} {b : Before} {t : Around} {rows pairs : Pairs} (tokens : List Located) (at : Located) (octet : ℕ) (key : List ℕ) (whole : Front)
    (levels load : ℕ) (left : Budget) → at.lexeme ≡ string key → at.start ≡ octet → AreBefore tokens whole → HasRead octets (tokens ++ at ∷ []) source → RowDue whole b t rows pairs
    → load ≤ 2 * length key → IsLeft left levels (with_rows rows b) → MayRefuse octets octet levels load left
key-refuses tokens at octet key whole levels load left l s f h d m i =
    string-refuses tokens [] at octet key whole levels load left l s f h (λ others. key-node key d (lexemes others)) m i

pub alone-refuses : {octets : List ℕ} {source : Tokens} {b : Before} {t : Around} {rows pairs : Pairs} (tokens : List Located) (at after : Located) (octet : ℕ) (key : List ℕ) (whole : Front)
    (levels : ℕ) (left : Budget) → at.lexeme ≡ string key → at.start ≡ octet → after.lexeme ≡ semicolon → AreBefore tokens whole → HasRead octets (tokens ++ at ∷ after ∷ []) source
    → RowDue whole b t rows pairs → has_key key pairs ≡ false → IsLeft left levels (with_key key (with_rows rows b)) → MayRefuse octets octet levels (2 * length key) left
alone-refuses tokens at after octet key whole levels left l s e f h d n i =
    string-refuses tokens (after ∷ []) at octet key whole levels (2 * length key) left l s f h
    (λ others. rw e (alone-node key d n (lexemes others))) (omega arith) i

pub twice-stands : {octets : List ℕ} {source : Tokens} {b : Before} {t : Around} {rows pairs : Pairs} (tokens : List Located) (at : Located) (octet : ℕ) (key : List ℕ) (whole : Front)
    → at.lexeme ≡ string key → at.start ≡ octet → AreBefore tokens whole → HasRead octets (tokens ++ at ∷ []) source → RowDue whole b t rows pairs → has_key key pairs ≡ true
    → StandsIfLexed octets (DuplicateKey octet)
twice-stands {octets} {b = b} {rows = rows} tokens at octet key whole l s f h d y all t =
    let p = splits-at tokens [] at whole f h all t in
    let after : List Lexeme = lexemes p.others in
    record {
      key = key;
      before = whole [];
      after = after;
      splits = subst (λ x. Splits octets x (whole []) (string key ∷ after)) s (subst (λ x. Splits octets at.start (whole []) (x ∷ after)) l p.splits);
      counted = b;
      inside = d.inside (string key ∷ after);
      rows = rows;
      table = subst (λ ls. RowsAt ls b (d.inside (string key ∷ after))) (sym (whole-append tokens whole f (string key ∷ after))) (d.at (string key ∷ after));
      rows_before = d.spells (string key ∷ after);
      twice = reordered-has key d.sorted.same ∙ y;
    }
