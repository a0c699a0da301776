use Rattle.std.proofs.Common.{◌≡◌, ℕ, sym, subst, arith, add-one}
use Rattle.plist_object.specs.Layout.{trailer_of}
use Rattle.plist_object.specs.Views.{held_of, octets_of}
use Rattle.plist_object.specs.Places.{Holds}
use Rattle.plist_write.specs.RepeatFilter.{AreAdded}
use Rattle.plist_write.proofs.Added.{added-nothing}
use Rattle.plist_write.proofs.repeat_filter.filter_of.Goals as goal

pub loop-i-init : goal.loop-i-init
loop-i-init g c = added-nothing (octets_of c.args.file.now) c.new-builder.result c.new-builder.ensures

pub loop-i-preserved : goal.loop-i-preserved
loop-i-preserved g c =
    let f = octets_of c.args.file.now in
    let holds : Holds f c.loop-i.i (held_of c.in-Ok.object) = record { listed = omega (arith, c.loop-i-test.true, c.count-i-end.ensures); reads = c.in-Ok.ensures.read } in
    subst (λ (n : ℕ). AreAdded f n c.add.new.self) (sym (add-one c.loop-i.i)) (c.in_ok-add.ensures.added f c.loop-i.i holds c.loop-i.invariant)

pub returns : goal.returns
returns g c =
    let f = octets_of c.args.file.now in
    let all : c.loop-i.i ≡ (trailer_of f).count = omega (arith, c.loop-i-test.false, c.count-i-end.ensures, c.loop-i.auto.i-end) in
    c.in_ok-filter.ensures f (trailer_of f).count (subst (λ (n : ℕ). AreAdded f n c.loop-i.builder) all c.loop-i.invariant)
