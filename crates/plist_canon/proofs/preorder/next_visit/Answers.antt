use Rattle.std.proofs.Common.{◌≡◌, ◌<◌, ◌-◌, ◌∙◌, take, vec_len, sym, refl, arith}
use Rattle.std.proofs.lemmas.Bool.{true≢false}
use Rattle.std.proofs.lemmas.List.{nil_from_length, take-set}
use Rattle.plist_canon.specs.Preorders.{path_groups}
use Rattle.plist_canon.proofs.Paths.{GoesOn-popped, GoesOn-visited}
use Rattle.plist_canon.proofs.preorder.next_visit.Goals as goal

pub loop-frame-init : goal.loop-frame-init
loop-frame-init c = λ f weighed stands. stands

pub returns-in-Some-first_other-clause-goes : goal.returns-in-Some-first_other-clause-goes
returns-in-Some-first_other-clause-goes c =
    let path = c.loop-frame.path in
    GoesOn-visited c.args.weights.now (path_groups c.args.path.now.items) c.args.left.now c.loop-frame.left c.first_other.new.left path.items (vec_len path) c.in-Some.frame.now (sym path.ok.0) (c.in-Some.ensures.variant.0 refl) c.in-Some.ensures.value c.loop-frame.invariant c.in-Some-first_other.done c.in-Some-first_other.reference c.in-Some-first_other.ensures.goes

pub loop-frame-preserved : goal.loop-frame-preserved
loop-frame-preserved c =
    let path = c.loop-frame.path in
    let popped = GoesOn-popped c.args.weights.now (path_groups c.args.path.now.items) c.args.left.now c.loop-frame.left c.first_other.new.left path.items (vec_len path) c.in-Some.frame.now (sym path.ok.0) (c.in-Some.ensures.variant.0 refl) c.in-Some.ensures.value c.loop-frame.invariant c.in_default-first_other.ensures.goes in
    let rest : c.pop.new.self.items ≡ take (vec_len path - 1) path.items = c.pop.ensures.rest ∙ take-set path.items (vec_len path - 1) c.in-Some.frame.now in
    rw rest popped

pub returns-clause-goes : goal.returns-clause-goes
returns-clause-goes c =
    let path = c.loop-frame.path in
    let ended : ¬ (0 < vec_len path) = λ some. true≢false (sym (c.in_default.ensures.variant.1 some)) in
    let none = nil_from_length path.items (omega (arith, path.ok.0)) in
    rw none at c.loop-frame.invariant
