use Rattle.std.proofs.Common.{refl, sym, ◌∙◌}
use Rattle.plist_object.specs.Views.{octets_of}
use Rattle.plist_canon.specs.Rules.{breaks_c6}
use Rattle.plist_write.specs.RepeatFilter.{MayRepeat}
use Rattle.plist_keys.proofs.KeysInTurn.{refuted}
use Rattle.plist_canon.proofs.Meeting.{seen-had, HasSeen-scalar, HasSeen-past, IsNoRepeat-apart, IsNoRepeat-new, not-IsNoRepeat}
use Rattle.plist_canon.proofs.repeats.check_repeat.Goals as goal

pub returns-then-not-may_repeat-clause-ok : goal.returns-then-not-may_repeat-clause-ok
returns-then-not-may_repeat-clause-ok g c =
    let filter = c.args.filter.now in
    let apart = refuted (MayRepeat filter c.args.i) c.may_repeat.result c.may_repeat.ensures c.if-not-may_repeat.true in
    IsNoRepeat-apart (octets_of c.args.file.now) _ filter c.requires.added c.args.i c.requires.among apart

pub returns-then-not-may_repeat-clause-seen : goal.returns-then-not-may_repeat-clause-seen
returns-then-not-may_repeat-clause-seen g c =
    let filter = c.args.filter.now in
    let apart = refuted (MayRepeat filter c.args.i) c.may_repeat.result c.may_repeat.ensures c.if-not-may_repeat.true in
    HasSeen-past filter (octets_of c.args.file.now) c.args.i c.args.seen.now (λ s may holds. apart may) c.requires.seen

pub returns-in_default-clause-seen : goal.returns-in_default-clause-seen
returns-in_default-clause-seen g c =
    HasSeen-past c.args.filter.now (octets_of c.args.file.now) c.args.i c.args.seen.now (λ s may holds. c.in_default.ensures.none s holds) c.requires.seen

pub returns-then-is_some-clause-err : goal.returns-then-is_some-clause-err
returns-then-is_some-clause-err g c =
    let f = octets_of c.args.file.now in
    let s = c.in-Some.scalar in
    let old = c.args.seen.now in
    let enters = c.in_ok-earlier.ensures.entered c.requires.seen.numbered in
    let known = sym (seen-had s _ old c.enter.new.self c.in_ok-earlier.earlier enters) ∙ sym c.is_some.ensures ∙ c.if-is_some.true in
    rw c.at.ensures (breaks_c6 c.args.i c.requires.listed (not-IsNoRepeat c.args.filter.now f c.args.i s old c.in-Some.ensures.some c.requires.seen known))

pub returns-clause-ok : goal.returns-clause-ok
returns-clause-ok g c =
    let s = c.in-Some.scalar in
    let old = c.args.seen.now in
    let enters = c.in_ok-earlier.ensures.entered c.requires.seen.numbered in
    let unknown = sym (seen-had s _ old c.enter.new.self c.in_ok-earlier.earlier enters) ∙ sym c.is_some.ensures ∙ c.if-is_some.false in
    IsNoRepeat-new (octets_of c.args.file.now) _ c.args.filter.now c.requires.added c.args.i s old c.requires.among c.in-Some.ensures.some c.requires.seen unknown

pub returns-clause-seen : goal.returns-clause-seen
returns-clause-seen g c =
    let enters = c.in_ok-earlier.ensures.entered c.requires.seen.numbered in
    HasSeen-scalar c.args.filter.now (octets_of c.args.file.now) c.args.i _ c.in-Some.scalar c.args.seen.now c.enter.new.self c.in_ok-earlier.earlier (c.may_repeat.ensures.0 c.if-not-may_repeat.false) c.in-Some.ensures.some c.requires.seen enters

pub returns-then-is_some-clause-at : goal.returns-then-is_some-clause-at
returns-then-is_some-clause-at g c = rw c.at.ensures (refl, refl)
