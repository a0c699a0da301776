-- Worked examples, shown on the definitions by computing.
use Rattle.std.proofs.Common.{◌≡◌, ℕ, zero, suc, ◌<◌, List, true, Some, None, [], ◌∷◌, ◌++◌, refl, ap, lit<, lit≤}
use Rattle.std.specs.Prelude.{codes}
use Rattle.std.specs.Char.{encode_utf8}
use Rattle.plist_value.specs.Plist.{text, flag, bytes, Plist, scalar, list, table, no_items, item, Pairs, no_pairs, pair, AreUnits}
use Rattle.ostep_lex.specs.Encoding.{Spells, offsets_of}
use Rattle.ostep_lex.specs.Gap
use Rattle.ostep_lex.specs.Quoted
use Rattle.ostep_lex.specs.Lexeme
use Rattle.ostep_lex.specs.Lexeme.{Lexeme, Located, brace_open, brace_close, paren_open, paren_close, comma, semicolon, equals, text as string, octets as data_token}
use Rattle.ostep_lex.specs.Lexing.{Lexes, none, next}
use Rattle.ostep_lex.proofs.Rows.{at}
use Rattle.ostep_text.specs.Sorting
use Rattle.ostep_text.specs.Phrase
use Rattle.ostep_text.specs.Phrase.{TopPhrase}
use Rattle.ostep_text.specs.Text
use Rattle.ostep_text.specs.Text.{IsText, lexemes}
use Rattle.ostep_text.specs.Begun
use Rattle.ostep_text.specs.Begun.{NodeAt}
use Rattle.ostep_text.specs.Stands
use Rattle.ostep_text.specs.Stands.{Splits, start_of, HasKeyTwice, IsUnfinished, HasJunk, BeginsPhrase}
use Rattle.ostep_text.specs.Written.{text_of}
use Rattle.ostep_text.specs.Machine
use Rattle.ostep_text.specs.Machine.{runs, accepts}
use Rattle.ostep_text.proofs.MachineLemmas.{phrase-accepted, not-accepted, stays-dead}

abbrev a : Lexeme
a = string (codes "a")

abbrev b : Lexeme
b = string (codes "b")

abbrev a_text : Plist
a_text = scalar (text (codes "a"))

abbrev b_text : Plist
b_text = scalar (text (codes "b"))

abbrev two_rows : Pairs
two_rows = pair (codes "a") b_text (pair (codes "b") a_text no_pairs)

-- `{b=a;a=b;}`: the pairs of a dictionary are in the order of their keys, whatever the order of the
-- rows
pub sorted_table : TopPhrase (brace_open ∷ b ∷ equals ∷ a ∷ semicolon ∷ a ∷ equals ∷ b ∷ semicolon ∷ brace_close ∷ []) (table two_rows)
sorted_table =
    Phrase.a_value (Phrase.a_table
    (Phrase.a_row (Phrase.with_value Phrase.a_string) (Phrase.a_row (Phrase.with_value Phrase.a_string) Phrase.rows_end refl) refl)
    (record {
      same = Sorting.row (Sorting.row Sorting.none Sorting.first) (Sorting.later Sorting.first);
      ascending = (refl, (tt, tt));
    }))

-- `(a, <61>,)`: a comma may follow the last item
pub comma_after_last : TopPhrase (paren_open ∷ a ∷ comma ∷ data_token (codes "a") ∷ comma ∷ paren_close ∷ []) (list (item a_text (item (scalar (bytes (codes "a"))) no_items)))
comma_after_last = Phrase.a_value (Phrase.a_list (Phrase.an_item Phrase.a_string (Phrase.an_item Phrase.some_data Phrase.items_end)))

-- `a = b; c;`: a dictionary without its braces, and a key that is its own value
pub bare_table : TopPhrase (a ∷ equals ∷ b ∷ semicolon ∷ string (codes "c") ∷ semicolon ∷ [])
    (table (pair (codes "a") b_text (pair (codes "c") (scalar (text (codes "c"))) no_pairs)))
bare_table =
    Phrase.bare_table
    (Phrase.a_row (Phrase.with_value Phrase.a_string) (Phrase.a_row Phrase.key_alone Phrase.rows_end refl) refl)
    (record {
      same = Sorting.row (Sorting.row Sorting.none Sorting.first) Sorting.first;
      ascending = (refl, (tt, tt));
    })

-- `{b=a;a=b;}`, and no bytes
one_unit : (unit : ℕ) → unit < 65536 → AreUnits (unit ∷ [])
one_unit unit h zero = h
one_unit unit h (suc i) = lit< tt

pub table_text : IsText (codes "{b=a;a=b;}") (table two_rows)
unfolding encode_utf8
table_text = record {
  text = codes "{b=a;a=b;}";
  spells = record { scalars = refl; spelled = refl };
  tokens = brace_open ∷ b ∷ equals ∷ a ∷ semicolon ∷ a ∷ equals ∷ b ∷ semicolon ∷ brace_close ∷ [];
  are = Text.next Gap.none (Lexeme.mark refl)
      (Text.next Gap.none (Lexeme.run refl refl (Quoted.stop refl))
      (Text.next Gap.none (Lexeme.mark refl)
      (Text.next Gap.none (Lexeme.run refl refl (Quoted.stop refl))
      (Text.next Gap.none (Lexeme.mark refl)
      (Text.next Gap.none (Lexeme.run refl refl (Quoted.stop refl))
      (Text.next Gap.none (Lexeme.mark refl)
      (Text.next Gap.none (Lexeme.run refl refl (Quoted.stop refl))
      (Text.next Gap.none (Lexeme.mark refl)
      (Text.next Gap.none (Lexeme.mark refl) (Text.none Gap.none))))))))));
  phrase = sorted_table;
  is_plist = (one_unit 97 (lit< tt), one_unit 98 (lit< tt), refl, (one_unit 98 (lit< tt), one_unit 97 (lit< tt), tt, tt));
  fits = record { nodes_fit = lit≤ tt; depth_fits = lit≤ tt; payload_fits = lit≤ tt };
}

pub empty_text : IsText [] (table no_pairs)
empty_text = record {
  text = [];
  spells = record { scalars = refl; spelled = refl };
  tokens = [];
  are = Text.none Gap.none;
  phrase = Phrase.bare_table Phrase.rows_end (record { same = Sorting.none; ascending = tt });
  is_plist = tt;
  fits = record { nodes_fit = lit≤ tt; depth_fits = lit≤ tt; payload_fits = lit≤ tt };
}

-- the string `bplist`, the unit d800, escapes, data, two pairs, no item, and an array of true
pub written_as_binary_begins : text_of (scalar (text (codes "bplist"))) ≡ Some (codes "\"bplist\"\n")
written_as_binary_begins = refl

pub written_surrogate : text_of (scalar (text (0xd800 ∷ []))) ≡ Some (codes "\"\\Ud800\"\n")
written_surrogate = refl

pub written_escapes : text_of (scalar (text (codes "\"\\\n\t\r~"))) ≡ Some (codes "\"\\\"\\\\\\n\\t\\r~\"\n")
written_escapes = refl

pub written_bytes : text_of (scalar (bytes (15 ∷ 0xa0 ∷ []))) ≡ Some (codes "<0fa0>\n")
written_bytes = refl

pub written_table : text_of (table two_rows) ≡ Some (codes "{\na = b;\nb = a;\n}\n")
written_table = refl

pub written_empty_list : text_of (list no_items) ≡ Some (codes "(\n)\n")
written_empty_list = refl

pub not_written : text_of (list (item (scalar (flag true)) no_items)) ≡ None
not_written = refl

-- `a = ((b, <00>), c);`: the last item, after the dictionary and both arrays
pub last_item : NodeAt
    (a ∷ equals ∷ paren_open ∷ paren_open ∷ b ∷ comma ∷ data_token (0 ∷ []) ∷ paren_close ∷ comma ∷ string (codes "c") ∷ paren_close ∷ semicolon ∷ [])
    (record { open_containers = 2; nodes = 6; payload = 5 })
    (string (codes "c") ∷ paren_close ∷ semicolon ∷ [])
last_item =
    Begun.value
    (Begun.after_items (Begun.after_key (Begun.new_key Begun.bare Phrase.rows_end refl))
    (Phrase.an_item (Phrase.a_list (Phrase.an_item Phrase.a_string (Phrase.last_item Phrase.some_data))) Phrase.items_end))
    refl

-- `{a;`: the value of a key alone is at its key, and counted after it
pub value_at_key : NodeAt (brace_open ∷ a ∷ semicolon ∷ []) (record { open_containers = 1; nodes = 2; payload = 2 }) (a ∷ semicolon ∷ [])
value_at_key = Begun.value (Begun.at_key (Begun.new_key (Begun.after_brace Begun.front) Phrase.rows_end refl)) refl

-- the tokens before an offset, and those from it on
splits : {octets : List ℕ} (tokens others : List Located) (whole : List ℕ) → Spells octets whole → Lexes (offsets_of octets) whole (tokens ++ others)
    → Splits octets (start_of octets others) (lexemes tokens) (lexemes others)
splits tokens others whole spells lexes = record {
  tokens = tokens;
  others = others;
  has = record { text = whole; spells = spells; lexes = lexes };
  before_are = refl;
  from_are = refl;
  stands = refl;
}

-- `{a;a=b;}`: the second key
pub key_twice : HasKeyTwice (codes "{a;a=b;}") 3
unfolding encode_utf8
key_twice = record {
  key = codes "a";
  before = brace_open ∷ a ∷ semicolon ∷ [];
  after = equals ∷ b ∷ semicolon ∷ brace_close ∷ [];
  splits = splits (at brace_open 0 1 ∷ at a 1 2 ∷ at semicolon 2 3 ∷ []) (at a 3 4 ∷ at equals 4 5 ∷ at b 5 6 ∷ at semicolon 6 7 ∷ at brace_close 7 8 ∷ []) (codes "{a;a=b;}") (record { scalars = refl; spelled = refl })
      (next Gap.none (Lexeme.mark refl)
      (next Gap.none (Lexeme.run refl refl (Quoted.stop refl))
      (next Gap.none (Lexeme.mark refl)
      (next Gap.none (Lexeme.run refl refl (Quoted.stop refl))
      (next Gap.none (Lexeme.mark refl)
      (next Gap.none (Lexeme.run refl refl (Quoted.stop refl))
      (next Gap.none (Lexeme.mark refl)
      (next Gap.none (Lexeme.mark refl) (none Gap.none)))))))));
  counted = Begun.opened Begun.nothing;
  inside = a ∷ semicolon ∷ a ∷ equals ∷ b ∷ semicolon ∷ brace_close ∷ [];
  rows = pair (codes "a") (scalar (text (codes "a"))) no_pairs;
  table = Begun.after_brace Begun.front;
  rows_before = Phrase.a_row Phrase.key_alone Phrase.rows_end refl;
  twice = refl;
}

-- no phrase continues where the machine does not
no-phrase : (tokens : List Lexeme) → ((others : List Lexeme) → runs Machine.front (tokens ++ others) ≡ runs Machine.dead others) → ¬ BeginsPhrase tokens
no-phrase tokens leads h = cc (phrase-accepted (h.1), ap accepts (leads (h.0)), ap accepts (stays-dead (h.0)))

-- `{a=b}`: the brace
pub brace_for_semicolon : IsUnfinished (codes "{a=b}") 4
unfolding encode_utf8
brace_for_semicolon =
    Stands.at_token
    (splits (at brace_open 0 1 ∷ at a 1 2 ∷ at equals 2 3 ∷ at b 3 4 ∷ []) (at brace_close 4 5 ∷ []) (codes "{a=b}") (record { scalars = refl; spelled = refl })
    (next Gap.none (Lexeme.mark refl)
    (next Gap.none (Lexeme.run refl refl (Quoted.stop refl))
    (next Gap.none (Lexeme.mark refl)
    (next Gap.none (Lexeme.run refl refl (Quoted.stop refl))
    (next Gap.none (Lexeme.mark refl) (none Gap.none))))))) (
      semicolon ∷ brace_close ∷ [],
      (
        _,
        Phrase.a_value (Phrase.a_table (Phrase.a_row (Phrase.with_value Phrase.a_string) Phrase.rows_end refl)
            (record { same = Sorting.row Sorting.none Sorting.first; ascending = (tt, tt) })),
      ),
    )
    (not-accepted refl)
    (no-phrase (brace_open ∷ a ∷ equals ∷ b ∷ brace_close ∷ []) (λ others. refl))

-- `=`: no phrase begins with it
pub equals_first : IsUnfinished (codes "=") 0
unfolding encode_utf8
equals_first =
    Stands.at_front
    (splits [] (at equals 0 1 ∷ []) (codes "=") (record { scalars = refl; spelled = refl })
    (next Gap.none (Lexeme.mark refl) (none Gap.none)))
    (no-phrase (equals ∷ []) (λ others. refl))

-- `(`: the end
pub list_cut : IsUnfinished (codes "(") 1
unfolding encode_utf8
list_cut =
    Stands.at_end
    (splits (at paren_open 0 1 ∷ []) [] (codes "(") (record { scalars = refl; spelled = refl })
    (next Gap.none (Lexeme.mark refl) (none Gap.none)))
    (paren_close ∷ [], (_, Phrase.a_value (Phrase.a_list Phrase.items_end)))
    (not-accepted refl)

-- `a b`: the second string
pub second_value : HasJunk (codes "a b") 2
unfolding encode_utf8
second_value =
    Stands.after_phrase
    (splits (at a 0 1 ∷ []) (at b 2 3 ∷ []) (codes "a b") (record { scalars = refl; spelled = refl })
    (next Gap.none (Lexeme.run refl refl (Quoted.stop refl))
    (next (Gap.piece (Gap.white refl) Gap.none) (Lexeme.run refl refl (Quoted.stop refl)) (none Gap.none))))
    (_, Phrase.a_value Phrase.a_string)
    (no-phrase (a ∷ b ∷ []) (λ others. refl))
