-- Stretches: characters of one class, in ASCII or below the surrogates.
use Rattle.std.specs.Prelude.{◌≡◌, ℕ, ◌≤◌, length, Bool, true, not, ◌&&◌, ◌==◌, nat_lt, List, []}
use Rattle.std.specs.Prelude.{◌∷◌, ◌++◌}
use Rattle.ostep_lex.specs.declared.stretch.Class.{Class}
use Rattle.ostep_lex.specs.declared.stretch.Class.TheVariants.{Run, White, Raw, Line, Starless}
use Rattle.ostep_lex.specs.Character.{is_run, is_white, is_line_end}
use Rattle.ostep_lex.specs.Quoted.{is_raw}
use Rattle.ostep_lex.specs.declared.remaining.Remaining.{Remaining}
use Rattle.ostep_lex.specs.declared.remaining.ByteOrder.{ByteOrder}
use Rattle.ostep_lex.specs.Encoding.{octets_of}
use Rattle.ostep_lex.specs.Remaining.{characters_in, encoding_in, encoding_by, octets_in, IsWhole}

-- whether a character is of the class
abbrev pub belongs : Class → ℕ → Bool
belongs Run c = is_run c
belongs White c = is_white c
belongs (Raw mark) c = is_raw mark c
belongs Line c = not (is_line_end c)
belongs Starless c = not (c == 42)

-- whether all are characters of the class below the limit
abbrev pub is_stretch : ℕ → Class → List ℕ → Bool
is_stretch limit kind [] = true
is_stretch limit kind (c ∷ cs) = (nat_lt c limit && belongs kind c) && is_stretch limit kind cs

-- a stretch of ASCII characters precedes the rest
pub record BeginsWithStretch (kind : Class) (octets rest : List ℕ) : Type 0 where
  pub front : List ℕ
  pub stretch : is_stretch 128 kind front ≡ true
  pub split : octets ≡ front ++ rest

-- the UTF-16 bytes of a stretch precede the rest
pub record BeginsWithUnits (kind : Class) (order : ByteOrder) (octets rest : List ℕ) : Type 0 where
  pub front : List ℕ
  pub stretch : is_stretch 0xD800 kind front ≡ true
  pub split : octets ≡ octets_of (encoding_by order) front ++ rest

-- a stretch is first, followed by complete characters of the same encoding
pub record LeadsStretch (kind : Class) (remaining : Remaining) (front : List ℕ)
    (after : Remaining) : Type 0 where
  pub stretch : is_stretch 0xD800 kind front ≡ true
  pub text : characters_in remaining ≡ front ++ characters_in after
  pub whole : IsWhole after
  pub encoding : encoding_in after ≡ encoding_in remaining
  pub shorter : length (octets_in after) ≤ length (octets_in remaining)

-- some stretch is first
pub record PassesLead (kind : Class) (remaining after : Remaining) : Type 0 where
  pub front : List ℕ
  pub leads : LeadsStretch kind remaining front after

-- some stretch is first, and its characters are appended
pub record AppendsStretch (kind : Class) (units more : List ℕ)
    (remaining after : Remaining) : Type 0 where
  pub front : List ℕ
  pub leads : LeadsStretch kind remaining front after
  pub appended : more ≡ units ++ front
