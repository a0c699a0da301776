-- The key under which scalars are hashed.
use Rattle.std.specs.Prelude.{ℕ, List, replicate}
use Rattle.std.specs.Hash.DefaultHasher.{initial, write}
use Rattle.std.specs.declared.hash.DefaultHasher.{DefaultHasher}
use Rattle.plistconv_c.specs.declared.keyed_hasher.KeyedHasher.{KeyedHasher}

-- sixteen zeros mean no key
abbrev pub no_key : List ℕ
no_key = replicate 16 0

-- SipHash after the bytes of the key
abbrev pub keyed_by : List ℕ → DefaultHasher
keyed_by key = write initial key

-- the hasher that a builder copies
abbrev pub initial_of : KeyedHasher → DefaultHasher
initial_of builder = builder.initial
