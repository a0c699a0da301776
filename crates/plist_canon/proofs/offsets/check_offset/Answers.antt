use Rattle.std.proofs.Common.{◌≡◌, Ok, refl, sym, ◌∙◌}
use Rattle.plist_object.specs.Views.{octets_of}
use Rattle.plist_object.specs.Places.{span_of}
use Rattle.plist_canon.specs.Rules.{breaks_c0, breaks_c3}
use Rattle.plist_canon.proofs.Checks.{not-Adjoins, unspanned}
use Rattle.plist_canon.proofs.Firsts.{no_span, not-Follows}
use Rattle.plist_canon.proofs.offsets.check_offset.Goals as goal

pub returns-in_default-clause-err : goal.returns-in_default-clause-err
returns-in_default-clause-err c =
    let f = octets_of c.args.file.now in
    let fails = sym c.span.ensures ∙ c.in_default.is in
    rw c.at.ensures (breaks_c0 c.args.i c.requires.listed (λ read. unspanned f c.args.i c.in_default.field-0 fails read))

pub returns-then-start-offset-clause-err : goal.returns-then-start-offset-clause-err
returns-then-start-offset-clause-err c =
    let f = octets_of c.args.file.now in
    let start = c.in-Ok.start in
    let end = c.in-Ok.end in
    let spans : span_of f c.args.i ≡ Ok (start, end) = sym c.span.ensures ∙ c.in-Ok.is in
    rw c.at-then-start-offset.ensures
    (breaks_c3 c.args.i c.requires.listed (not-Adjoins f c.args.i c.args.offset start end c.requires.before spans c.if-start-offset.true))

pub returns-in_default-clause-at : goal.returns-in_default-clause-at
returns-in_default-clause-at c =
    let f = octets_of c.args.file.now in
    rw c.at.ensures (refl, no_span f c.args.i c.in_default.field-0 (sym c.span.ensures ∙ c.in_default.is))

pub returns-then-start-offset-clause-at : goal.returns-then-start-offset-clause-at
returns-then-start-offset-clause-at c =
    let f = octets_of c.args.file.now in
    let start = c.in-Ok.start in
    let end = c.in-Ok.end in
    let spans : span_of f c.args.i ≡ Ok (start, end) = sym c.span.ensures ∙ c.in-Ok.is in
    rw c.at-then-start-offset.ensures (refl, not-Follows f c.args.i c.args.offset start end c.requires.before spans c.if-start-offset.true)
