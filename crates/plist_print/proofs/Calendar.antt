-- The calendar: the year and the month of a day.
use Rattle.std.proofs.Common.{◌≡◌, ◌⊎◌, ℕ, zero, suc, ◌+◌, ◌-◌, ◌<◌, ◌≤◌, Bool, true, false, refl, sym, ap, subst, arith, inl, inr}
use Rattle.std.specs.Prelude.{nat_le}
use Rattle.plist_print.specs.Dates.{days_in_month, days_of_months, days_before, last_such, year_of, month_of}
use Rattle.plist_print.proofs.Compared.{le-denied, le-tells, ascends}

same-or-less : (k m : ℕ) → m ≤ k → (k ≡ m) ⊎ (m < k)
same-or-less k m h = grind arith

-- the greatest number that passes
last_such-is : (passes : ℕ → Bool) (n m : ℕ) → 0 < m → m ≤ n → passes m ≡ true → ((z : ℕ) → m < z → passes z ≡ false) → last_such passes n ≡ m
last_such-is passes zero m some most h above = absurd (omega arith)
last_such-is passes (suc n) m some most h above = elim (same-or-less (suc n) m most) [
  | inl same ↦ (let here : passes (suc n) ≡ true = subst (λ (k : ℕ). passes k ≡ true) (sym same) h in rw here same)
  | inr less ↦ (let not = above (suc n) less in rw not (last_such-is passes n m some (omega arith) h above))
]

before-next : (a : ℕ) → days_before a ≤ days_before (suc a)
before-next a = omega arith

pub year-is : (day year : ℕ) → 1 ≤ year → year ≤ 9999 → days_before year ≤ day → day < days_before (year + 1) → year_of day ≡ year
unfolding year_of
year-is day year some most begun lasts =
    last_such-is (λ y. nat_le (days_before y) day) 9999 year some most (le-tells (days_before year) day begun) (λ z h. let far = ascends days_before before-next (year + 1) z (omega arith) in le-denied (days_before z) day (omega arith))

months-next : (year m : ℕ) → days_of_months year m ≤ days_of_months year (suc m)
unfolding days_of_months
months-next year m = omega arith

-- the days up to the next month
pub months-more : (year m : ℕ) → 1 ≤ m → days_of_months year m ≡ days_of_months year (m - 1) + days_in_month year m
unfolding days_of_months
months-more year zero h = absurd (omega arith)
months-more year (suc m) h = let e : suc m - 1 ≡ m = omega arith in rw e refl

pub month-is : (year day month : ℕ) → 1 ≤ month → month ≤ 12 → days_of_months year (month - 1) ≤ day → day < days_of_months year month → month_of year day ≡ month
unfolding month_of
month-is year day month some most begun lasts =
    last_such-is (λ m. nat_le (days_of_months year (m - 1)) day) 12 month some most (le-tells (days_of_months year (month - 1)) day begun) (λ z h. let far = ascends (days_of_months year) (months-next year) month (z - 1) (omega arith) in le-denied (days_of_months year (z - 1)) day (omega arith))

pub no-months : (year : ℕ) → days_of_months year 0 ≡ 0
unfolding days_of_months
no-months year = refl

-- the days of the twelve months are those of the year
pub year-long : (year : ℕ) → 1 ≤ year → days_before (year + 1) ≡ days_before year + days_of_months year 12
unfolding days_of_months
year-long year some = omega arith

-- if the day is after this month, there is a later month
pub month-most : (year day month : ℕ) → day < days_of_months year 12 → month ≤ 12 → days_of_months year month ≤ day → month + 1 ≤ 12
month-most year day month within most begun = elim (same-or-less 12 month most) [
  | inl same ↦ absurd (let last = ap (days_of_months year) same in omega arith)
  | inr less ↦ omega arith
]
