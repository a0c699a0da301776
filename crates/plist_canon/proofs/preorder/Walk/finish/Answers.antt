use Rattle.std.proofs.Common.{ap, inl, inr, refl}
use Rattle.std.specs.Option.{is_some}
use Rattle.plist_object.specs.Layout.{trailer_of}
use Rattle.plist_canon.proofs.Paths.{Walked-seen, breaks-at, walks-numbered, walks-within, breaks-limits}
use Rattle.plist_canon.proofs.preorder.Walk.finish.Goals as goal

pub returns-in-Some-clause-err : goal.returns-in-Some-clause-err
returns-in-Some-clause-err c = λ f all. rw c.at.ensures (rw c.in-Some.is at all.walked)

pub returns-in-Some-next_visit-clause-err : goal.returns-in-Some-next_visit-clause-err
returns-in-Some-next_visit-clause-err c = λ f all.
    let visit = c.in-Some-next_visit.visit in
    let seen = (Walked-seen f (trailer_of f).count c.args.self (ap is_some c.in_default.is)).0 all.walked in
    rw c.at-in-Some-next_visit.ensures (breaks-at f c.args.self all seen visit.owner visit.levels visit.reference c.next_visit.new.left _ (rw c.deref.ensures.value at c.in-Some-next_visit.ensures.goes) (rw c.deref.ensures.value at c.in-Some-next_visit.ensures.none))

pub returns-in-Some-left-clause-ok : goal.returns-in-Some-left-clause-ok
returns-in-Some-left-clause-ok c = λ f all.
    let seen = (Walked-seen f (trailer_of f).count c.args.self (ap is_some c.in_default.is)).0 all.walked in
    walks-within f c.args.self all seen c.in-Some-left.field-0 (rw (c.deref.ensures.value, c.in-Some-left.is) at c.in_default-next_visit.ensures.goes)

pub returns-clause-err : goal.returns-clause-err
returns-clause-err c = λ f all.
    let seen = (Walked-seen f (trailer_of f).count c.args.self (ap is_some c.in_default.is)).0 all.walked in
    rw c.at-in-None.ensures (breaks-limits f c.args.self all seen (rw (c.deref.ensures.value, c.in-None.is) at c.in_default-next_visit.ensures.goes))

pub returns-in-Some-clause-first : goal.returns-in-Some-clause-first
returns-in-Some-clause-first c = λ f all. rw c.at.ensures (inl refl)

pub returns-in-Some-next_visit-clause-first : goal.returns-in-Some-next_visit-clause-first
returns-in-Some-next_visit-clause-first c = λ f all. rw c.at-in-Some-next_visit.ensures (inl refl)

pub returns-clause-first : goal.returns-clause-first
returns-clause-first c = λ f all.
    let seen = (Walked-seen f (trailer_of f).count c.args.self (ap is_some c.in_default.is)).0 all.walked in
    rw c.at-in-None.ensures
    (inr (refl, refl, walks-numbered f c.args.self all seen _ (rw (c.deref.ensures.value, c.in-None.is) at c.in_default-next_visit.ensures.goes)))
