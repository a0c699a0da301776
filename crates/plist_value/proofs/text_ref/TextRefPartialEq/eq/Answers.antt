use Rattle.std.proofs.Common.{◌≡◌, length, nat_eq, arith}
use Rattle.std.specs.Cmp.Lexicographic.{pointwise}
use Rattle.plist_value.specs.Texts.{units_of}
use Rattle.plist_value.proofs.Behind.{pointwise-alike}
use Rattle.plist_value.proofs.text_ref.TextRefPartialEq.eq.Goals as goal

pub returns-then-len : goal.returns-then-len
returns-then-len c =
    let xs = units_of c.args.self.now in
    let ys = units_of c.args.other.now in
    let long : length xs ≡ length ys = omega arith in
    let same : nat_eq c.alike.result (length xs) ≡ pointwise nat_eq xs ys =
    pointwise-alike c.alike.result xs ys (omega arith) long c.alike.ensures.same (λ within. c.alike.ensures.differ (omega arith)) in
    rw c.len-then-len-2.ensures same
