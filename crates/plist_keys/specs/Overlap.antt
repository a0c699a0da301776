-- Keys that are more, or longer, than the bytes before the offset table: their dictionaries or
-- strings overlap.
use Rattle.std.specs.Prelude.{◌≡◌, ◌⊎◌, ℕ, zero, suc, ◌+◌, ◌<◌, ◌≤◌, Bool, true, false, List, []}
use Rattle.std.specs.Prelude.{◌∷◌, length, max, slice_index_or, MatchOption}
use Rattle.std.specs.Prelude.{Result, Ok, Err}
use Rattle.std.specs.List.{Contains}
use Rattle.plist_object.specs.Layout.{trailer_of}
use Rattle.plist_object.specs.Objects.{Content, holds_scalar, holds_list, holds_table}
use Rattle.plist_object.specs.Places.{ascii_length_at, units_in, what_holds}
use Rattle.plist_object.specs.declared.object.ObjectFault.{ObjectFault}
use Rattle.plist_keys.specs.declared.keys.Keys.{Keys}

-- the references to keys, if this is the content of a dictionary
abbrev pub keys_in : Result Content ObjectFault → List ℕ
keys_in (Ok (holds_scalar s)) = []
keys_in (Ok (holds_list refs)) = []
keys_in (Ok (holds_table keys values)) = keys
keys_in (Err fault) = []

-- how many keys the dictionaries before object i have
abbrev pub keys_before : List ℕ → ℕ → ℕ
keys_before f zero = 0
keys_before f (suc i) = keys_before f i + length (keys_in (what_holds f i))

-- dictionaries have more keys in all than there are bytes before the offset table
pub record HasManyKeys (f : List ℕ) : Type 0 where
  pub end : ℕ
  pub many : (trailer_of f).table < keys_before f end

-- the object is a key of a dictionary
pub record IsKey (f : List ℕ) (k : ℕ) : Type 0 where
  pub dictionary : ℕ
  pub named : Contains (keys_in (what_holds f dictionary)) k

-- the length of the string of object k in units, or of what is marked as an ASCII string and is not
-- one
abbrev pub length_at : List ℕ → ℕ → ℕ
length_at f k = max (length (units_in (what_holds f k))) (ascii_length_at f k)

-- the lengths of the marked objects, if the first mark is that of object k
abbrev pub marked_length : List ℕ → ℕ → List Bool → ℕ
marked_length f k [] = 0
marked_length f k (true ∷ marks) = length_at f k + marked_length f (suc k) marks
marked_length f k (false ∷ marks) = marked_length f (suc k) marks

-- the marked objects are keys
abbrev pub AreKeysMarked : List ℕ → List Bool → Type 0
AreKeysMarked f marks = (k : ℕ) → slice_index_or marks k false ≡ true → IsKey f k

-- some keys, each counted once, are longer in all than there are bytes before the offset table
pub record HasLongKeys (f : List ℕ) : Type 0 where
  pub marks : List Bool
  pub keys : AreKeysMarked f marks
  pub long : (trailer_of f).table < marked_length f 0 marks

abbrev pub KeysOverlap : List ℕ → Type 0
KeysOverlap f = HasManyKeys f ⊎ HasLongKeys f

-- The keys of the dictionaries before object i were counted, and some of these keys were read: what
-- was left of the bytes before the offset table was enough.
pub record FitSoFar (f : List ℕ) (i room named : ℕ) (seen : List Bool) : Type 0 where
  pub counted : (trailer_of f).table ≤ named + keys_before f i
  pub keys : AreKeysMarked f seen
  pub read : (trailer_of f).table ≤ room + marked_length f 0 seen

-- they were enough, or the keys overlap
abbrev pub AreCounted : List ℕ → ℕ → Keys → Type 0
AreCounted f i keys = MatchOption keys.room (KeysOverlap f)
    (λ room. FitSoFar f i room keys.named keys.seen.items)
