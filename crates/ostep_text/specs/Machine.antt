-- A state machine that follows the kinds of the tokens of a text. It does not look whether keys are
-- distinct, so it accepts every phrase, and more.
use Rattle.std.specs.Prelude.{Bool, true, false, List, [], ◌∷◌}
use Rattle.ostep_lex.specs.Lexeme.{Lexeme, brace_open, brace_close, paren_open, paren_close, comma}
use Rattle.ostep_lex.specs.Lexeme.{semicolon, equals, text as string, octets as data_token}

-- what encloses a value: nothing, an array, a dictionary, or a dictionary without braces
pub data Around : Type 0 where
  top : Around
  in_list : Around → Around
  in_braces : Around → Around
  bare : Around

-- The states:
-- - `front`: at the start of a text;
-- - `lone`: after a string there;
-- - `due`: a value has to follow;
-- - `items`: in an array, before an item or its end;
-- - `after`: after a value;
-- - `rows`: in a dictionary, before a row or its end;
-- - `key`: after a key;
-- - `dead`: no phrase continues like this.
pub data State : Type 0 where
  front : State
  lone : State
  due : Around → State
  items : Around → State
  after : Around → State
  rows : Around → State
  key : Around → State
  dead : State

-- the state after a token where a value may begin
abbrev pub begun : Around → Lexeme → State
begun a (string units) = after a
begun a (data_token xs) = after a
begun a paren_open = items a
begun a brace_open = rows (in_braces a)
begun a l = dead

-- the state after a token in an array enclosed by `a`, before an item or its end
abbrev pub item_or_end : Around → Lexeme → State
item_or_end a paren_close = after a
item_or_end a l = begun (in_list a) l

abbrev pub ended : Around → Lexeme → State
ended top l = dead
ended (in_list a) comma = items a
ended (in_list a) paren_close = after a
ended (in_braces a) semicolon = rows (in_braces a)
ended bare semicolon = rows bare
ended a l = dead

abbrev pub row_or_end : Around → Lexeme → State
row_or_end a (string units) = key a
row_or_end (in_braces a) brace_close = after a
row_or_end a l = dead

abbrev pub after_key : Around → Lexeme → State
after_key a equals = due a
after_key a semicolon = rows a
after_key a l = dead

abbrev pub at_front : Lexeme → State
at_front (string units) = lone
at_front l = begun top l

abbrev pub step : State → Lexeme → State
step front l = at_front l
step lone l = after_key bare l
step (due a) l = begun a l
step (items a) l = item_or_end a l
step (after a) l = ended a l
step (rows a) l = row_or_end a l
step (key a) l = after_key a l
step dead l = dead

abbrev pub runs : State → List Lexeme → State
runs s [] = s
runs s (l ∷ ls) = runs (step s l) ls

-- whether a text may end in the state
abbrev pub accepts : State → Bool
accepts front = true
accepts lone = true
accepts (after top) = true
accepts (rows bare) = true
accepts _ = false

-- a dictionary, in braces or without
pub data IsTable : Around → Type 0 where
  braces : {a : Around} → IsTable (in_braces a)
  without : IsTable bare
