-- The count of failures that a device keeps.
use Rattle.std.specs.Prelude.{◌≡◌, ℕ, ◌+◌, ◌-◌, ◌^◌, ◌<◌, ◌⊎◌, min, Result, MatchResult}

-- the maximum of the count
abbrev pub count_limit : ℕ
count_limit = 2 ^ 64 - 1

-- adds one, up to the maximum
abbrev pub one_more : ℕ → ℕ
one_more count = min (count + 1) count_limit

-- A call that succeeds leaves the count as it is, below the maximum. A call that fails adds one.
abbrev pub Counts : {E : Type 0} → ℕ → ℕ → Result ℕ E → Type 0
Counts before after result =
    MatchResult result (λ _. (before < count_limit) × (after ≡ before))
    (λ _. after ≡ one_more before)

-- A device failed during a call: its count rose, or is at the maximum.
abbrev pub HasFailed : ℕ → ℕ → Type 0
HasFailed before after = (before < after) ⊎ (after ≡ count_limit)
