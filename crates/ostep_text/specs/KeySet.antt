-- Sets of keys, in which short keys are kept as numbers.
use Rattle.std.specs.Prelude.{◌≡◌, ℕ, Bool, ◌||◌, List, nat_eq, if◌then◌else◌}
use Rattle.std.specs.List.{list_any}
use Rattle.std.specs.BTreeSet.{contains}
use Rattle.std.specs.Ordering.{nat_cmp}
use Rattle.plist_value.specs.Plist.{Pairs}
use Rattle.ostep_text.specs.declared.key_set.KeySet.{KeySet}
use Rattle.ostep_text.specs.Key.{is_short_key, number_of, key_cmp}
use Rattle.ostep_text.specs.Sorting.{has_key}

-- whether the key is in the set
abbrev pub in_set : KeySet → List ℕ → Bool
in_set set key =
    if is_short_key key
    then list_any (λ n. nat_eq n (number_of key)) set.few.items
    || contains nat_cmp set.short (number_of key)
    else contains key_cmp set.long key

-- the keys of the set are those of the pairs
abbrev pub HasKeysOf : KeySet → Pairs → Type 0
HasKeysOf set ps = (key : List ℕ) → in_set set key ≡ has_key key ps
