-- The first token of a value or of a row.
use Rattle.std.specs.Prelude.{Bool, true, false, ⊤}
use Rattle.plist_value.specs.Plist.{AreUnits}
use Rattle.plist_value.specs.Texts.{units_of}
use Rattle.ostep_lex.specs.Lexeme.{Lexeme, Located, located, placed_plain, text}
use Rattle.ostep_lex.specs.Lexeme.{paren_close, brace_close}
use Rattle.ostep_text.specs.declared.first.First.{First}
use Rattle.ostep_text.specs.declared.first.First.TheVariants.{Plain, Other}

abbrev pub first_placed : First → Located
first_placed (Plain token) = placed_plain token
first_placed (Other token) = located token

-- its units have 16 bits
abbrev pub IsValid : First → Type 0
IsValid (Plain token) = AreUnits (units_of token.text)
IsValid (Other token) = ⊤

-- whether the token ends an array, ends a dictionary, or is a string
abbrev pub ends_list : Lexeme → Bool
ends_list paren_close = true
ends_list _ = false

abbrev pub ends_table : Lexeme → Bool
ends_table brace_close = true
ends_table _ = false

abbrev pub is_string : Lexeme → Bool
is_string (text units) = true
is_string _ = false
