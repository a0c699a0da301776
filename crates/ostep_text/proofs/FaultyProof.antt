-- Bytes of which a fault is true are not a text of any value.
use Rattle.std.proofs.Common.{◌≡◌, ℕ, List, ◌++◌, refl, ap, subst, append_assoc, append-nil, arith}
use Rattle.std.proofs.lemmas.List.{map-append}
use Rattle.plist_value.specs.Plist.{Plist}
use Rattle.ostep_lex.specs.Lexeme.{Lexeme}
use Rattle.ostep_lex.specs.Laws.{OneLexing, FaultyHasNone}
use Rattle.ostep_lex.specs.declared.fault.LexFault.{LexFault}
use Rattle.ostep_lex.specs.declared.fault.LexFault.TheVariants as tokens
use Rattle.ostep_lex.specs.Stands.{StandsInTokens as StandsInTokens}
use Rattle.ostep_text.specs.declared.fault.TextFault.TheVariants.{BadUtf8, XmlForm, UnexpectedCharacter, UnclosedString, UnclosedComment, BadEscape, OctalRange, OddData, BadData, BadUtf16, DuplicateKey, TooDeep, TooManyNodes, TooMuchPayload, Expected, Junk, OutOfMemory}
use Rattle.ostep_text.specs.Phrase.{TopPhrase}
use Rattle.ostep_text.specs.Begun.{Before}
use Rattle.ostep_text.specs.Text.{IsText, IsNoText, lexemes}
use Rattle.ostep_text.specs.Stands
use Rattle.ostep_text.specs.Stands.{Splits, BeginsAt, HasKeyTwice, IsTooDeep, HasTooManyNodes, HasTooMuchPayload, IsUnfinished, HasJunk}
use Rattle.ostep_text.specs.Laws.{FaultyIsNoText}
use Rattle.ostep_text.proofs.Places.{placed}
use Rattle.ostep_text.proofs.WholeLemmas.{NodeWithin, rows-there, row-once, node-within}

-- the tokens before and after an offset of a text together are a phrase of its value
split-phrase : {octets : List ℕ} {at : ℕ} {before from : List Lexeme} {v : Plist} → OneLexing → Splits octets at before from → IsText octets v → TopPhrase (before ++ from) v
split-phrase {octets} {before = before} {from = from} {v = v} one s t =
    let p = placed t in
    let same : lexemes p.tokens ≡ lexemes (s.tokens ++ s.others) = ap lexemes (one octets p.tokens (s.tokens ++ s.others) p.has s.has) in
    let apart : lexemes (s.tokens ++ s.others) ≡ lexemes s.tokens ++ lexemes s.others = map-append _ s.tokens s.others in
    let is : t.tokens ≡ before ++ from = cc (p.are, same, apart, s.before_are, s.from_are) in
    subst (λ x. TopPhrase x v) is t.phrase

begins-within : {octets : List ℕ} {at : ℕ} {b : Before} {from : List Lexeme} {v : Plist} → OneLexing → BeginsAt octets at b from → IsText octets v → NodeWithin b from v
begins-within one g t = node-within (split-phrase one g.splits t) g.begins

twice-none : {octets : List ℕ} {at : ℕ} → OneLexing → HasKeyTwice octets at → IsNoText octets
twice-none one k v t =
    let once = row-once (rows-there (split-phrase one k.splits t) k.table) k.rows_before in cc (once, k.twice)

deep-none : {octets : List ℕ} {at : ℕ} → OneLexing → IsTooDeep octets at → IsNoText octets
deep-none one k v t = let w = begins-within one k.begins t in omega (arith, w.depth_within, k.full, t.fits.depth_fits)

many-none : {octets : List ℕ} {at : ℕ} → OneLexing → HasTooManyNodes octets at → IsNoText octets
many-none one k v t = let w = begins-within one k.begins t in omega (arith, w.nodes_within, k.full, t.fits.nodes_fit)

much-none : {octets : List ℕ} {at : ℕ} → OneLexing → HasTooMuchPayload octets at → IsNoText octets
much-none one k v t = let w = begins-within one k.begins t in omega (arith, w.payload_within, k.past, t.fits.payload_fits)

unfinished-none : {octets : List ℕ} {at : ℕ} → OneLexing → IsUnfinished octets at → IsNoText octets
unfinished-none one (Stands.at_token {before = before} {others = others} {token = token} s p n m) v t =
    m (others, (v, rw append_assoc (split-phrase one s t)))
unfinished-none one (Stands.at_end s p n) v t = n (v, rw append-nil at (split-phrase one s t))
unfinished-none one (Stands.at_front {others = others} s m) v t = m (others, (v, split-phrase one s t))

junk-none : {octets : List ℕ} {at : ℕ} → OneLexing → HasJunk octets at → IsNoText octets
junk-none one (Stands.after_phrase {others = others} s p m) v t = m (others, (v, rw append_assoc (split-phrase one s t)))

tokens-none : {octets : List ℕ} → FaultyHasNone → (fault : LexFault) → StandsInTokens octets fault → ¬ (fault ≡ tokens.OutOfMemory) → IsNoText octets
tokens-none {octets} none fault s n v t = let p = placed t in none octets fault s n p.tokens p.has

pub faulty_is_no_text : OneLexing → FaultyHasNone → FaultyIsNoText
faulty_is_no_text one none octets (BadUtf8 at) s n = tokens-none none (tokens.BadUtf8 at) s (λ e. cc e)
faulty_is_no_text one none octets (XmlForm at) s n = tokens-none none (tokens.XmlForm at) s (λ e. cc e)
faulty_is_no_text one none octets (UnexpectedCharacter at) s n = tokens-none none (tokens.UnexpectedCharacter at) s (λ e. cc e)
faulty_is_no_text one none octets (UnclosedString at) s n = tokens-none none (tokens.UnclosedString at) s (λ e. cc e)
faulty_is_no_text one none octets (UnclosedComment at) s n = tokens-none none (tokens.UnclosedComment at) s (λ e. cc e)
faulty_is_no_text one none octets (BadEscape at) s n = tokens-none none (tokens.BadEscape at) s (λ e. cc e)
faulty_is_no_text one none octets (OctalRange at) s n = tokens-none none (tokens.OctalRange at) s (λ e. cc e)
faulty_is_no_text one none octets (OddData at) s n = tokens-none none (tokens.OddData at) s (λ e. cc e)
faulty_is_no_text one none octets (BadData at) s n = tokens-none none (tokens.BadData at) s (λ e. cc e)
faulty_is_no_text one none octets (BadUtf16 at) s n = tokens-none none (tokens.BadUtf16 at) s (λ e. cc e)
faulty_is_no_text one none octets (DuplicateKey at) s n = twice-none one s
faulty_is_no_text one none octets (TooDeep at) s n = deep-none one s
faulty_is_no_text one none octets (TooManyNodes at) s n = many-none one s
faulty_is_no_text one none octets (TooMuchPayload at) s n = much-none one s
faulty_is_no_text one none octets (Expected at) s n = unfinished-none one s
faulty_is_no_text one none octets (Junk at) s n = junk-none one s
faulty_is_no_text one none octets OutOfMemory s n = absurd (n refl)
