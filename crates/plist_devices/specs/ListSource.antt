-- What contracts know of a `ListSource`.
use Rattle.std.specs.Prelude.{◌≡◌, ℕ, ◌+◌, ◌≤◌, ◌⊎◌, List, Option, Some}
use Rattle.plist_devices.specs.Count.{count_limit}
use Rattle.plist_devices.specs.declared.list_source.ListSource.{ListSource}

-- the bytes still to come
abbrev pub octets_left : ListSource → List ℕ
octets_left source = source.rest.now

-- the number of bytes that a take gives at most
abbrev pub source_step : ListSource → ℕ
source_step source = source.step

-- the number of the take that is to fail, if there is one
abbrev pub failing_take : ListSource → Option ℕ
failing_take source = source.fail_at

-- the number of takes so far, up to the maximum
abbrev pub takes_made : ListSource → ℕ
takes_made source = source.takes

-- the number of takes that failed
abbrev pub list_source_failures : ListSource → ℕ
list_source_failures source = source.failures

-- the next take is the one that is to fail, or its number is above the maximum
abbrev pub FailsNext : ListSource → Type 0
FailsNext source = (failing_take source ≡ Some (takes_made source + 1))
    ⊎ (count_limit ≤ takes_made source)
