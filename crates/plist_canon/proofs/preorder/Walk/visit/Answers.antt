use Rattle.std.proofs.Common.{◌≡◌, suc, ◌<◌, length, true, false, refl, arith}
use Rattle.std.specs.Option.{is_some}
use Rattle.plist_object.specs.Layout.{trailer_of}
use Rattle.plist_object.specs.Views.{held_of}
use Rattle.plist_canon.specs.declared.preorder.Walk.{Walk}
use Rattle.plist_canon.proofs.Paths.{SeenInTurn-more, Walked-broken, Walked-seen}
use Rattle.plist_canon.proofs.preorder.Walk.visit.Goals as goal

pub returns-then-is_some : goal.returns-then-is_some
returns-then-is_some c =
    let broken : is_some c.args.self.now.broken_at ≡ true = cc in
    λ f i holds. Walked-broken f i c.args.self.now _ refl broken

pub returns-in-Err : goal.returns-in-Err
returns-in-Err c = λ f i holds walked.
    let whole : is_some c.args.self.now.broken_at ≡ false = cc in
    let seen = (Walked-seen f i c.args.self.now whole).0 walked in
    let below : length c.args.self.now.weights.items < (trailer_of f).count = omega (arith, holds.listed, seen.counted) in
    (rw c.deref.ensures.value at c.in-Err.ensures) f seen.weighed seen.stands below

pub returns : goal.returns
returns c = λ f i holds walked.
    let old = c.args.self.now in
    let new : Walk = record { weights = c.push.new.self; path = c.push_parts.new.path; left = c.spend-self.result; broken_at = old.broken_at } in
    let whole : is_some old.broken_at ≡ false = cc in
    let number_is : c.len-number.result ≡ length old.weights.items = omega (arith, old.weights.ok.0) in
    let seen = (Walked-seen f i old whole).0 walked in
    let awaits = (rw c.deref.ensures.value at c.in-Ok.ensures) f seen.weighed seen.stands in
    let held = held_of c.args.object.now in
    (Walked-seen f (suc i) new whole).1 (SeenInTurn-more f i c.len-number.result c.in-Ok.levels held old new c.of-weight.result c.next_levels.new.left _ holds seen c.of-weight.ensures awaits c.spend-self.ensures c.in_ok-push.ensures.items number_is c.in_ok-push_parts.ensures)
