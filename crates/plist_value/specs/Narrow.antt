-- Units that fit into one byte each.
use Rattle.std.specs.Prelude.{ℕ, Bool, nat_lt, List}
use Rattle.std.specs.List.{list_all}

-- whether all units are below 256
abbrev pub are_narrow : List ℕ → Bool
are_narrow units = list_all (λ unit. nat_lt unit 256) units
