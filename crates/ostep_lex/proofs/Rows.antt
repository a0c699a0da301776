-- Examples of the definitions, by computation.
use Rattle.std.proofs.Common.{ℕ, List, [], ◌∷◌, refl, lit<}
use Rattle.std.specs.Prelude.{codes}
use Rattle.std.specs.Char.{encode_utf8}
use Rattle.ostep_lex.specs.declared.fault.LexFault.{LexFault}
use Rattle.ostep_lex.specs.declared.fault.LexFault.TheVariants.{UnexpectedCharacter, OctalRange, OddData, BadData, BadEscape, UnclosedString, UnclosedComment}
use Rattle.ostep_lex.specs.Encoding.{Spells, offsets_of}
use Rattle.ostep_lex.specs.Gap
use Rattle.ostep_lex.specs.Quoted
use Rattle.ostep_lex.specs.Octets
use Rattle.ostep_lex.specs.Lexeme
use Rattle.ostep_lex.specs.Lexeme.{Lexeme, Located, brace_open, brace_close, paren_open, paren_close, comma, semicolon, equals, text, octets}
use Rattle.ostep_lex.specs.Lexing.{HasTokens, none, next, here, token}
use Rattle.ostep_lex.specs.Stands
use Rattle.ostep_lex.specs.Stands.{FaultAt, HasFault, HasXml}

abbrev pub at : Lexeme → ℕ → ℕ → Located
at lexeme start end = record { lexeme = lexeme; start = start; end = end }

-- a fault in the first token
first_at : {bytes : List ℕ} {fault : LexFault} (rest : List ℕ) → Spells bytes rest → FaultAt (offsets_of bytes) rest fault → HasFault bytes fault
first_at rest spells stands = record {
  tokens = [];
  rest = rest;
  before = record { text = rest; spells = spells; lexes = here };
  stands = Stands.gap Gap.none stands;
}

-- `{a = <0F>;}`
pub six_tokens : HasTokens (codes "{a = <0F>;}") (at brace_open 0 1 ∷ at (text (97 ∷ [])) 1 2 ∷ at equals 3 4 ∷ at (octets (15 ∷ [])) 5 9 ∷ at semicolon 9 10 ∷ at brace_close 10 11 ∷ [])
unfolding encode_utf8
six_tokens = record {
  text = codes "{a = <0F>;}";
  spells = record { scalars = refl; spelled = refl };
  lexes = next Gap.none (Lexeme.mark refl)
      (next Gap.none (Lexeme.run refl refl (Quoted.stop refl))
      (next (Gap.piece (Gap.white refl) Gap.none) (Lexeme.mark refl)
      (next (Gap.piece (Gap.white refl) Gap.none) (Lexeme.data_token (Octets.piece (Octets.pair refl refl) Octets.close))
      (next Gap.none (Lexeme.mark refl)
      (next Gap.none (Lexeme.mark refl) (none Gap.none))))));
}

-- one space
pub white_alone : HasTokens (codes " ") []
unfolding encode_utf8
white_alone = record { text = codes " "; spells = record { scalars = refl; spelled = refl }; lexes = none (Gap.piece (Gap.white refl) Gap.none) }

-- `"\177\1234\U41"`: an octal escape has at most three digits
pub escapes : HasTokens (codes "\"\\177\\1234\\U41\"") (at (text (0x7f ∷ 0x53 ∷ 0x34 ∷ 0x41 ∷ [])) 0 15 ∷ [])
unfolding encode_utf8
escapes = record {
  text = codes "\"\\177\\1234\\U41\"";
  spells = record { scalars = refl; spelled = refl };
  lexes = next Gap.none (Lexeme.quoted refl
      (Quoted.piece (Quoted.escape (Quoted.octal refl (lit< tt)))
      (Quoted.piece (Quoted.escape (Quoted.octal refl (lit< tt)))
      (Quoted.piece (Quoted.raw refl)
      (Quoted.piece (Quoted.escape (Quoted.unit refl)) (Quoted.close refl)))))) (none Gap.none);
}

-- `"\200"`
pub octal_too_high : HasFault (codes "\"\\200\"") (OctalRange 1)
unfolding encode_utf8
octal_too_high = first_at (codes "\"\\200\"") (record { scalars = refl; spelled = refl }) (Stands.quoted refl (Stands.escape (Stands.too_high refl (lit< tt))))

-- `(/usr/bin, a//b, /* c */ d)`: no comment begins inside an unquoted string
pub slashes : HasTokens (codes "(/usr/bin, a//b, /* c */ d)")
    (at paren_open 0 1 ∷ at (text (codes "/usr/bin")) 1 9 ∷ at comma 9 10 ∷ at (text (codes "a//b")) 11 15 ∷ at comma 15 16 ∷ at (text (codes "d")) 25 26 ∷ at paren_close 26 27 ∷ [])
unfolding encode_utf8
slashes = record {
  text = codes "(/usr/bin, a//b, /* c */ d)";
  spells = record { scalars = refl; spelled = refl };
  lexes = next Gap.none (Lexeme.mark refl)
      (next Gap.none (Lexeme.run refl refl (Quoted.more refl (Quoted.more refl (Quoted.more refl (Quoted.more refl (Quoted.more refl (Quoted.more refl (Quoted.more refl (Quoted.stop refl)))))))))
      (next Gap.none (Lexeme.mark refl)
      (next (Gap.piece (Gap.white refl) Gap.none) (Lexeme.run refl refl (Quoted.more refl (Quoted.more refl (Quoted.more refl (Quoted.stop refl)))))
      (next Gap.none (Lexeme.mark refl)
      (next (Gap.piece (Gap.white refl) (Gap.piece (Gap.block (Gap.more refl (Gap.more refl (Gap.more refl Gap.close)))) (Gap.piece (Gap.white refl) Gap.none)))
      (Lexeme.run refl refl (Quoted.stop refl))
      (next Gap.none (Lexeme.mark refl) (none Gap.none)))))));
}

-- `a/*c*/`: the unquoted string is `a/`
pub star_after_run : HasFault (codes "a/*c*/") (UnexpectedCharacter 2)
unfolding encode_utf8
star_after_run = record {
  tokens = at (text (codes "a/")) 0 2 ∷ [];
  rest = codes "*c*/";
  before = record {
    text = codes "a/*c*/";
    spells = record { scalars = refl; spelled = refl };
    lexes = token Gap.none (Lexeme.run refl refl (Quoted.more refl (Quoted.stop refl))) here;
  };
  stands = Stands.gap Gap.none (Stands.unexpected refl refl);
}

-- `fe ff 00 61 00 3b`: offsets include the byte order mark
pub big_endian_tokens : HasTokens (0xfe ∷ 0xff ∷ 0 ∷ 97 ∷ 0 ∷ 59 ∷ []) (at (text (97 ∷ [])) 2 4 ∷ at semicolon 4 6 ∷ [])
big_endian_tokens = record {
  text = 97 ∷ 59 ∷ [];
  spells = record { scalars = refl; spelled = refl };
  lexes = next Gap.none (Lexeme.run refl refl (Quoted.stop refl)) (next Gap.none (Lexeme.mark refl) (none Gap.none));
}

-- `ff fe 22 00 3d d8 00 de 22 00`: a character above U+FFFF is two units
pub little_endian_pair : HasTokens (0xff ∷ 0xfe ∷ 0x22 ∷ 0 ∷ 0x3d ∷ 0xd8 ∷ 0 ∷ 0xde ∷ 0x22 ∷ 0 ∷ []) (at (text (0xd83d ∷ 0xde00 ∷ [])) 2 10 ∷ [])
little_endian_pair = record {
  text = 0x22 ∷ 0x1f600 ∷ 0x22 ∷ [];
  spells = record { scalars = refl; spelled = refl };
  lexes = next Gap.none (Lexeme.quoted refl (Quoted.piece (Quoted.raw refl) (Quoted.close refl))) (none Gap.none);
}

-- `<0f b>`, `<0f,>`, `"\Ug"`, `"a`, `/* a`, `<?xml version="1.0"?>`
pub odd_digit : HasFault (codes "<0f b>") (OddData 4)
unfolding encode_utf8
odd_digit = first_at (codes "<0f b>") (record { scalars = refl; spelled = refl }) (Stands.data_token (Stands.piece (Octets.pair refl refl) (Stands.piece (Octets.white refl) (Stands.odd refl refl))))

pub comma_in_data : HasFault (codes "<0f,>") (BadData 3)
unfolding encode_utf8
comma_in_data = first_at (codes "<0f,>") (record { scalars = refl; spelled = refl }) (Stands.data_token (Stands.piece (Octets.pair refl refl) (Stands.other refl)))

pub no_digit_after_letter : HasFault (codes "\"\\Ug\"") (BadEscape 1)
unfolding encode_utf8
no_digit_after_letter = first_at (codes "\"\\Ug\"") (record { scalars = refl; spelled = refl }) (Stands.quoted refl (Stands.escape (Stands.no_digit refl)))

pub string_cut : HasFault (codes "\"a") (UnclosedString 0)
unfolding encode_utf8
string_cut = first_at (codes "\"a") (record { scalars = refl; spelled = refl }) (Stands.quoted refl (Stands.piece (Quoted.raw refl) Stands.cut_string))

pub comment_cut : HasFault (codes "/* a") (UnclosedComment 0)
unfolding encode_utf8
comment_cut = first_at (codes "/* a") (record { scalars = refl; spelled = refl }) (Stands.comment (Gap.more refl (Gap.more refl Gap.text_end)))

pub xml_form : HasXml (codes "<?xml version=\"1.0\"?>") 0
unfolding encode_utf8
xml_form = record {
  text = codes "<?xml version=\"1.0\"?>";
  spells = record { scalars = refl; spelled = refl };
  from = codes "<?xml version=\"1.0\"?>";
  white = Stands.none;
  begins = refl;
  stands = refl;
}

-- `fe ff fe ff`: a second byte order mark is a character
pub second_mark : HasFault (0xfe ∷ 0xff ∷ 0xfe ∷ 0xff ∷ []) (UnexpectedCharacter 2)
second_mark = first_at (0xfeff ∷ []) (record { scalars = refl; spelled = refl }) (Stands.unexpected refl refl)
