use Rattle.std.proofs.Common.{◌≡◌, length, arith}
use Rattle.std.specs.Prelude.{IsTrue, ◌↔◌, slice_index}
use Rattle.plist_object.specs.Places.{HoldsText}
use Rattle.plist_object.specs.Views.{numbers_of, octets_of}
use Rattle.plist_keys.proofs.KeysInTurn.{all-ascending, one-ascending}
use Rattle.plist_keys.proofs.in_order.keys_ascend.Goals as goal

pub returns-then-len-eq1 : goal.returns-then-len-eq1
returns-then-len-eq1 c =
    let f = octets_of c.args.file.now in
    let keys = numbers_of c.args.keys.now in
    let one : length keys ≡ 1 = omega (arith, c.len.ensures, c.if-len-eq1.true) in
    let both = one-ascending f keys one in
    let named : IsTrue c.names_text.result ↔ HoldsText f (slice_index keys 0) = rw c.get.ensures at c.names_text.ensures in
    (λ yes. both.0 (named.0 yes), λ ascend. named.1 (both.1 ascend))

pub returns : goal.returns
returns c =
    let f = octets_of c.args.file.now in
    let keys = numbers_of c.args.keys.now in
    let other : ¬ (length keys ≡ 1) = λ one. omega (arith, c.len.ensures, c.if-len-eq1.false, one) in
    (λ yes. all-ascending f keys other (c.neighbours_ascend.ensures.0 yes), λ ascending. c.neighbours_ascend.ensures.1 ascending.ascend)
