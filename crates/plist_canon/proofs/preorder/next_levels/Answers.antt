use Rattle.std.proofs.Common.{◌≡◌, ◌<◌, length, arith, [], ◌∷◌}
use Rattle.std.proofs.lemmas.Bool.Decides.{nat_tests}
use Rattle.plist_canon.specs.Preorders.{grouped, path_groups}
use Rattle.plist_canon.specs.Steps.{HasVisited}
use Rattle.plist_canon.proofs.Paths.{Awaits-first, Awaits-next, HasVisited-after, none_seen}
use Rattle.plist_canon.proofs.Visiting.{IsWalking-other, IsWalking-over}
use Rattle.plist_canon.proofs.preorder.next_levels.Goals as goal

pub returns-then-is_empty : goal.returns-then-is_empty
returns-then-is_empty c =
    let none : length c.args.weights.now ≡ 0 = grind (arith, nat_tests) in
    λ f weighed stands. Awaits-first f (length c.args.weights.now) c.args.left.now (path_groups c.args.path.now.items) none stands

pub returns-in_default : goal.returns-in_default
returns-in_default c = λ f weighed stands below.
    let some : 0 < length c.args.weights.now = grind (arith, nat_tests) in
    let before = HasVisited-after f (length c.args.weights.now) c.args.left.now (path_groups c.args.path.now.items) some stands in
    let last = c.in_default.ensures.goes f weighed before in
    IsWalking-over f (length c.args.weights.now) last.walking below

pub returns-then-visit-weights : goal.returns-then-visit-weights
returns-then-visit-weights c = λ f weighed stands below.
    let visit = c.in-Some.visit in
    let some : 0 < length c.args.weights.now = grind (arith, nat_tests) in
    let before = HasVisited-after f (length c.args.weights.now) c.args.left.now (path_groups c.args.path.now.items) some stands in
    let came = c.in-Some.ensures.goes f weighed before in
    IsWalking-other f (length c.args.weights.now) visit.owner visit.reference _ came.walking (λ next. c.if-visit-weights.true next.0) (none_seen f c.args.weights.now visit.reference weighed c.in-Some.ensures.none)

pub returns : goal.returns
returns c = λ f weighed stands.
    let visit = c.in-Some.visit in
    let number = length c.args.weights.now in
    let groups = path_groups c.next_visit.new.path.items in
    let some : 0 < length c.args.weights.now = grind (arith, nat_tests) in
    let before = HasVisited-after f number c.args.left.now (path_groups c.args.path.now.items) some stands in
    let came : HasVisited f number c.next_visit.new.left (grouped visit.owner visit.levels (visit.reference ∷ []) ∷ groups) = c.in-Some.ensures.goes f weighed before in
    Awaits-next f number visit.owner visit.levels c.next_visit.new.left groups (rw c.if-visit-weights.false at came)
