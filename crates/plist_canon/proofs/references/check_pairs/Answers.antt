use Rattle.std.proofs.Common.{◌<◌, inl, refl}
use Rattle.std.specs.Prelude.{EachIndex, IsTrue, ◌↔◌, slice_index}
use Rattle.plist_object.specs.Layout.{trailer_of}
use Rattle.plist_object.specs.Objects.{holds_table}
use Rattle.plist_keys.specs.Order.{NameTexts}
use Rattle.plist_keys.specs.Ascending.{AreAscending, AscendInTurn}
use Rattle.plist_object.specs.Views.{numbers_of, octets_of}
use Rattle.plist_keys.proofs.KeysInTurn.{refuted}
use Rattle.plist_canon.specs.Rules.{breaks_c0}
use Rattle.plist_canon.proofs.Checks.{HasAscendingKeys-turns, IsWellRead-refers, RefersWell-table, ascend-both, keys_named, values_below}
use Rattle.plist_canon.proofs.references.check_pairs.Goals as goal

pub returns-then-not-are_below-clause-err : goal.returns-then-not-are_below-clause-err
returns-then-not-are_below-clause-err c =
    let f = octets_of c.args.input.now.file in
    let keys = numbers_of c.args.keys.now in
    let values = numbers_of c.args.values.now in
    let none = refuted (EachIndex values (λ k. slice_index values k < c.count.result)) c.are_below.result c.are_below.ensures c.if-not-are_below.true in
    rw c.at.ensures (breaks_c0 c.args.i c.requires.holds.listed (λ read. none (rw c.count.ensures (values_below f keys values (IsWellRead-refers f c.args.i (holds_table keys values) c.requires.holds.reads read)))))

pub returns-then-ascend-clause-refers : goal.returns-then-ascend-clause-refers
returns-then-ascend-clause-refers c =
    let f = octets_of c.args.input.now.file in
    let keys = numbers_of c.args.keys.now in
    let values = numbers_of c.args.values.now in
    let below : EachIndex values (λ k. slice_index values k < (trailer_of f).count) = rw c.count.ensures at (c.are_below.ensures.0 c.if-not-are_below.false) in
    let ascending : AreAscending f keys = c.ascend.ensures.ascend.0 c.if-ascend.true in
    RefersWell-table f keys values (λ k within. (ascending.names k within).1.listed) below ascending.names

pub returns-then-ascend-clause-ascend : goal.returns-then-ascend-clause-ascend
returns-then-ascend-clause-ascend c =
    let f = octets_of c.args.input.now.file in
    let keys = numbers_of c.args.keys.now in
    let ascending : AreAscending f keys = c.ascend.ensures.ascend.0 c.if-ascend.true in
    (λ yes. HasAscendingKeys-turns f c.args.i keys (numbers_of c.args.values.now) c.requires.holds ascending.ascend, λ has. refl)

pub returns-then-not-name_texts-clause-err : goal.returns-then-not-name_texts-clause-err
returns-then-not-name_texts-clause-err c =
    let f = octets_of c.args.input.now.file in
    let keys = numbers_of c.args.keys.now in
    let values = numbers_of c.args.values.now in
    let none = refuted (NameTexts f keys) c.name_texts.result c.name_texts.ensures c.if-not-name_texts.true in
    rw c.at-then-not-name_texts.ensures (breaks_c0 c.args.i c.requires.holds.listed (λ read. none (keys_named f keys values (IsWellRead-refers f c.args.i (holds_table keys values) c.requires.holds.reads read))))

pub returns-clause-refers : goal.returns-clause-refers
returns-clause-refers c =
    let f = octets_of c.args.input.now.file in
    let keys = numbers_of c.args.keys.now in
    let values = numbers_of c.args.values.now in
    let below : EachIndex values (λ k. slice_index values k < (trailer_of f).count) = rw c.count.ensures at (c.are_below.ensures.0 c.if-not-are_below.false) in
    let names : NameTexts f keys = c.name_texts.ensures.0 c.if-not-name_texts.false in
    RefersWell-table f keys values (λ k within. (names k within).1.listed) below names

pub returns-clause-ascend : goal.returns-clause-ascend
returns-clause-ascend c =
    let f = octets_of c.args.input.now.file in
    let keys = numbers_of c.args.keys.now in
    let values = numbers_of c.args.values.now in
    let names : NameTexts f keys = c.name_texts.ensures.0 c.if-not-name_texts.false in
    let told = c.ascend.ensures.ascend in
    let turns : IsTrue c.ascend.result ↔ AscendInTurn f keys = (λ yes. (told.0 yes).ascend, λ ascend. told.1 (record { names = names; ascend = ascend })) in
    rw c.if-ascend.false at (ascend-both f c.args.i keys values c.ascend.result c.requires.holds names turns)

pub returns-then-not-are_below-clause-first : goal.returns-then-not-are_below-clause-first
returns-then-not-are_below-clause-first c =
    let f = octets_of c.args.input.now.file in
    let keys = numbers_of c.args.keys.now in
    let values = numbers_of c.args.values.now in
    let none = refuted (EachIndex values (λ k. slice_index values k < c.count.result)) c.are_below.result c.are_below.ensures c.if-not-are_below.true in
    rw c.at.ensures (inl (refl, λ read. none (rw c.count.ensures (values_below f keys values (IsWellRead-refers f c.args.i (holds_table keys values) c.requires.holds.reads read)))))

pub returns-then-not-name_texts-clause-first : goal.returns-then-not-name_texts-clause-first
returns-then-not-name_texts-clause-first c =
    let f = octets_of c.args.input.now.file in
    let keys = numbers_of c.args.keys.now in
    let values = numbers_of c.args.values.now in
    let none = refuted (NameTexts f keys) c.name_texts.result c.name_texts.ensures c.if-not-name_texts.true in
    rw c.at-then-not-name_texts.ensures (inl (refl, λ read. none (keys_named f keys values (IsWellRead-refers f c.args.i (holds_table keys values) c.requires.holds.reads read))))
