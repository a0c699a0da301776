use Rattle.std.proofs.Common.{◌<◌, inl, refl}
use Rattle.std.specs.Prelude.{EachIndex, slice_index}
use Rattle.plist_object.specs.Objects.{holds_list}
use Rattle.plist_object.specs.Views.{numbers_of, octets_of}
use Rattle.plist_keys.proofs.KeysInTurn.{refuted}
use Rattle.plist_canon.specs.Rules.{breaks_c0}
use Rattle.plist_canon.proofs.Checks.{IsWellRead-refers, RefersWell-list}
use Rattle.plist_canon.proofs.references.check_items.Goals as goal

pub returns-then-not-are_below-clause-err : goal.returns-then-not-are_below-clause-err
returns-then-not-are_below-clause-err c =
    let f = octets_of c.args.file.now in
    let items = numbers_of c.args.items.now in
    let refers = RefersWell-list f items in
    let none = refuted (EachIndex items (λ k. slice_index items k < c.count.result)) c.are_below.result c.are_below.ensures c.if-not-are_below.true in
    rw c.at.ensures (breaks_c0 c.args.i c.requires.holds.listed (λ read. none (rw c.count.ensures (refers.1 (IsWellRead-refers f c.args.i (holds_list items) c.requires.holds.reads read)))))

pub returns-clause-refers : goal.returns-clause-refers
returns-clause-refers c =
    let refers = RefersWell-list (octets_of c.args.file.now) (numbers_of c.args.items.now) in
    refers.0 (rw c.count.ensures at (c.are_below.ensures.0 c.if-not-are_below.false))

pub returns-then-not-are_below-clause-first : goal.returns-then-not-are_below-clause-first
returns-then-not-are_below-clause-first c =
    let f = octets_of c.args.file.now in
    let items = numbers_of c.args.items.now in
    let refers = RefersWell-list f items in
    let none = refuted (EachIndex items (λ k. slice_index items k < c.count.result)) c.are_below.result c.are_below.ensures c.if-not-are_below.true in
    rw c.at.ensures (inl (refl, λ read. none (rw c.count.ensures (refers.1 (IsWellRead-refers f c.args.i (holds_list items) c.requires.holds.reads read)))))
