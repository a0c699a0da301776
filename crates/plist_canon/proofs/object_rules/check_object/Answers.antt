use Rattle.std.proofs.Common.{inl, refl}
use Rattle.plist_object.specs.Places.{Holds}
use Rattle.plist_object.specs.Views.{held_of, octets_of}
use Rattle.plist_keys.proofs.KeysInTurn.{refuted}
use Rattle.plist_canon.specs.Rules.{HasAscendingKeys, IsWellRead, breaks_c0, breaks_c5}
use Rattle.plist_canon.proofs.Checks.{unread}
use Rattle.plist_canon.specs.First.{IsFlawAt}
use Rattle.plist_canon.proofs.Firsts.{passed_on}
use Rattle.plist_canon.proofs.object_rules.check_object.Goals as goal

pub returns-in_default-clause-err : goal.returns-in_default-clause-err
returns-in_default-clause-err c =
    let f = octets_of c.args.input.now.file in
    let none = rw c.in_default.is at c.spanned.ensures.read in
    rw c.at.ensures (breaks_c0 c.args.i c.requires.listed (λ read. unread f c.args.i c.in_default.field-0 none read))

pub returns-then-not-ascend-clause-err : goal.returns-then-not-ascend-clause-err
returns-then-not-ascend-clause-err c =
    let f = octets_of c.args.input.now.file in
    rw c.at-then-not-ascend.ensures (breaks_c5 c.args.i c.requires.listed (refuted (HasAscendingKeys f c.args.i) c.in_ok-ascend.ascend c.in_ok-ascend.ensures.ascend c.if-not-ascend.true))

pub returns-clause-checked : goal.returns-clause-checked
returns-clause-checked c =
    let f = octets_of c.args.input.now.file in
    let read = c.in-Ok.read in
    let holds : Holds f c.args.i (held_of read.object) = record { listed = c.requires.listed; reads = rw c.in-Ok.is at c.spanned.ensures.read } in
    let told = c.in_ok-ascend.ensures in
    let encoding = c.in_ok-check_encoding.ensures in
    record {
      read = record {
        held = held_of read.object;
        holds = holds;
        numbers = told.refers.numbers;
        texts = told.refers.texts;
      };
      follows = encoding.follows;
      spelled = encoding.spelled;
      ascending = told.ascend.0 c.if-not-ascend.false;
    }

pub returns-in_default-clause-first : goal.returns-in_default-clause-first
returns-in_default-clause-first c =
    let f = octets_of c.args.input.now.file in
    let none = rw c.in_default.is at c.spanned.ensures.read in
    rw c.at.ensures (inl (refl, λ read. unread f c.args.i c.in_default.field-0 none read))

pub returns-then-not-ascend-clause-first : goal.returns-then-not-ascend-clause-first
returns-then-not-ascend-clause-first c =
    let f = octets_of c.args.input.now.file in
    let read = c.in-Ok.read in
    let told = c.in_ok-ascend.ensures in
    let encoding = c.in_ok-check_encoding.ensures in
    let well : IsWellRead f c.args.i = record {
      held = held_of read.object;
      holds = record { listed = c.requires.listed; reads = rw c.in-Ok.is at c.spanned.ensures.read };
      numbers = told.refers.numbers;
      texts = told.refers.texts;
    } in
    rw c.at-then-not-ascend.ensures (inl (refl, (well, encoding.follows, encoding.spelled)))

pub returns-in_err-check_encoding-clause-first : goal.returns-in_err-check_encoding-clause-first
returns-in_err-check_encoding-clause-first c =
    let f = octets_of c.args.input.now.file in
    let read = c.in-Ok.read in
    let told = c.in_ok-ascend.ensures in
    let well : IsWellRead f c.args.i = record {
      held = held_of read.object;
      holds = record { listed = c.requires.listed; reads = rw c.in-Ok.is at c.spanned.ensures.read };
      numbers = told.refers.numbers;
      texts = told.refers.texts;
    } in
    passed_on (IsFlawAt f c.args.i) _ c.from_residual-in_err-check_encoding.result c.from_residual-in_err-check_encoding.ensures.1 (c.in_err-check_encoding.ensures.first well)
