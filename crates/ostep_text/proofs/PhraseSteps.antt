-- One more item, or row, after those read.
use Rattle.std.proofs.Common.{◌≡◌, ℕ, false, List, ◌∷◌, refl, sym}
use Rattle.std.specs.Prelude.{nat_eq}
use Rattle.std.specs.Cmp.Lexicographic.{pointwise, bytes_decides}
use Rattle.plist_value.specs.Plist.{Plist, Items, Pairs, no_pairs, pair}
use Rattle.ostep_lex.specs.Lexeme.{Lexeme, paren_close, comma}
use Rattle.ostep_text.specs.Phrase.{Phrase, ItemsPhrase, items_end, last_item, an_item, RowPhrase, RowsPhrase, rows_end, a_row}
use Rattle.ostep_text.specs.Sorting.{has_key}
use Rattle.ostep_text.proofs.PhraseLemmas.{no-phrase}
use Rattle.std.proofs.lemmas.Bool.{false_from_ne_true, or_from, or_parts}
use Rattle.plist_value.proofs.Items.{push}

pub items-more : {inside at rest : List Lexeme} {vs : Items} {w : Plist} → ItemsPhrase inside vs at → Phrase at w (comma ∷ rest) → ItemsPhrase inside (push vs w) rest
items-more items_end p = an_item p items_end
items-more (last_item q) p = absurd (no-phrase p)
items-more (an_item q s) p = an_item q (items-more s p)

pub items-last : {inside at rest : List Lexeme} {vs : Items} {w : Plist} → ItemsPhrase inside vs at → Phrase at w (paren_close ∷ rest) → ItemsPhrase inside (push vs w) (paren_close ∷ rest)
items-last items_end p = last_item p
items-last (last_item q) p = absurd (no-phrase p)
items-last (an_item q s) p = an_item q (items-last s p)

abbrev pub push_row : Pairs → List ℕ → Plist → Pairs
push_row no_pairs key v = pair key v no_pairs
push_row (pair next w rows) key v = pair next w (push_row rows key v)

pub has_key-head : (key next : List ℕ) (w : Plist) (rows : Pairs) → has_key key (pair next w rows) ≡ false → pointwise nat_eq key next ≡ false
has_key-head key next w rows e = (or_parts (pointwise nat_eq key next) (has_key key rows) e).0

pub has_key-tail : (key next : List ℕ) (w : Plist) (rows : Pairs) → has_key key (pair next w rows) ≡ false → has_key key rows ≡ false
has_key-tail key next w rows e = (or_parts (pointwise nat_eq key next) (has_key key rows) e).1

pub apart-sym : (key next : List ℕ) → pointwise nat_eq key next ≡ false → pointwise nat_eq next key ≡ false
apart-sym key next e =
    false_from_ne_true (pointwise nat_eq next key) (λ same. let is : key ≡ next = sym ((bytes_decides next key).0 same) in cc (e, (bytes_decides key next).1 is))

has_key-push : (next key : List ℕ) (v : Plist) (rows : Pairs) → pointwise nat_eq next key ≡ false → has_key next rows ≡ false → has_key next (push_row rows key v) ≡ false
has_key-push next key v no_pairs e f = or_from (pointwise nat_eq next key) false e refl
has_key-push next key v (pair first w rows) e f =
    or_from (pointwise nat_eq next first) (has_key next (push_row rows key v)) (has_key-head next first w rows f) (has_key-push next key v rows e (has_key-tail next first w rows f))

pub rows-more : {inside at rest : List Lexeme} {rows : Pairs} {key : List ℕ} {v : Plist} → RowsPhrase inside rows at → RowPhrase at key v rest → has_key key rows ≡ false → RowsPhrase inside (push_row rows key v) rest
rows-more rows_end p d = a_row p rows_end refl
rows-more {key = key} {v = v} (a_row {key = next} {v = w} {rows = rows} q s e) p d =
    a_row q (rows-more s p (has_key-tail key next w rows d)) (has_key-push next key v rows (apart-sym key next (has_key-head key next w rows d)) e)
