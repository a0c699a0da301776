use Rattle.std.proofs.Common.{◌≡◌, ◌+◌, ◌-◌, sym, ap, arith, append_assoc}
use Rattle.plist_print.specs.Dates.{days_before, days_of_months, month_of, printed_day}
use Rattle.plist_print.proofs.Calendar.{no-months, months-more, month-is, month-most, year-long}
use Rattle.plist_print.proofs.dates.put_day.Goals as goal

pub loop-left-init : goal.loop-left-init
loop-left-init c =
    let none = no-months c.year_of-year.result in
    record { some = omega arith; most = omega arith; behind = omega (arith, none, c.days_before.ensures, c.year_of-year.ensures.begun) }

pub loop-left-smaller : goal.loop-left-smaller
loop-left-smaller c =
    let l = c.loop-left in
    let year = c.year_of-year.result in
    let more = months-more year l.month l.invariant.some in
    let long = year-long year c.year_of-year.ensures.some in
    let most = month-most year (c.args.day - days_before year) l.month (omega (arith, long, c.year_of-year.ensures)) l.invariant.most (omega arith) in
    omega (arith, most)

pub loop-left-preserved : goal.loop-left-preserved
loop-left-preserved c =
    let l = c.loop-left in
    let year = c.year_of-year.result in
    let more = months-more year l.month l.invariant.some in
    let long = year-long year c.year_of-year.ensures.some in
    let most = month-most year (c.args.day - days_before year) l.month (omega (arith, long, c.year_of-year.ensures)) l.invariant.most (omega arith) in
    let same : l.month + 1 - 1 ≡ l.month = omega arith in
    let first = ap (days_of_months year) same in
    record { some = omega arith; most = omega arith; behind = omega arith }

pub returns : goal.returns
unfolding printed_day
returns c =
    let l = c.loop-left in
    let year = c.year_of-year.result in
    let is = sym c.year_of-year.ensures.value in
    let more = months-more year l.month l.invariant.some in
    let month : month_of year (c.args.day - days_before year) ≡ l.month = month-is year (c.args.day - days_before year) l.month l.invariant.some l.invariant.most (omega arith) (omega arith) in
    let day : c.args.day - days_before year - days_of_months year (l.month - 1) + 1 ≡ l.left + 1 = omega arith in
    let all = rw (c.in_ok-push-2.ensures.items, c.in_ok-put_last_digits-2.ensures, c.in_ok-push.ensures.items, c.in_ok-put_last_digits.ensures) at c.put_last_digits-3.ensures in
    rw (is, month, day) (simp append_assoc at all)
