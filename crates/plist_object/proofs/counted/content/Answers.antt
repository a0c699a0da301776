use Rattle.std.proofs.Common.{◌≡◌, ◌<◌, ◌+◌, ◌*◌, suc, length, nat_lt, true, false, refl, arith, rules, lt-ltb, inl, inr}
use Rattle.std.proofs.lemmas.Bool.{cases_lt, le-ltb}
use Rattle.std.proofs.lemmas.Nat.{le-div}
use Rattle.plist_object.specs.Objects.{content, count_of_content, count_spelled}
use Rattle.plist_object.proofs.counted.content.Goals as goal

-- the count exceeds the remaining bytes
pub returns-then-count-octets-clause-read : goal.returns-then-count-octets-clause-read
unfolding content count_of_content
returns-then-count-octets-clause-read c =
    let octets = c.in_ok-count.octets.now in
    let count = c.in_ok-count.count in
    let unit = c.args.unit in
    let over : length octets < count * unit = elim (cases_lt (length octets) (count * unit)) [
      | inl over ↦ over
      | inr fits ↦ absurd (let within = le-div count (length octets) unit c.requires.some fits in omega arith)
    ] in
    let long : nat_lt c.args.low 15 ≡ false = le-ltb c.args.low 15 (omega arith) in
    let cut : nat_lt (length octets) (count * unit) ≡ true = lt-ltb (length octets) (count * unit) over in
    rw (long, c.in_ok-count.ensures.read, cut) refl

-- a count of one byte
pub returns-in-Some-clause-read : goal.returns-in-Some-clause-read
unfolding content count_of_content count_spelled
returns-in-Some-clause-read c =
    let long : nat_lt c.args.low 15 ≡ false = le-ltb c.args.low 15 (omega arith) in
    let some : nat_lt (suc (length c.in-Some.behind.now)) 1 ≡ false = le-ltb (suc (length c.in-Some.behind.now)) 1 (omega arith) in
    let one : c.in-Some.count * 1 + 0 ≡ c.in-Some.count = omega arith in
    rw (c.in-Some.ensures, long, some, one) (search rules)
