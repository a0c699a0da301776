use Rattle.std.proofs.Common.{◌∙◌, subst}
use Rattle.ostep_lex.specs.Gap.{none, piece}
use Rattle.ostep_lex.specs.Stands.{gap, FaultAt, FaultAfterGap}
use Rattle.ostep_lex.specs.Cursor.{PassesPiece, ahead, offsets_in}
use Rattle.ostep_lex.proofs.Exits.{passed_on}
use Rattle.ostep_lex.proofs.StretchLemmas.{gap_stretch}
use Rattle.ostep_lex.proofs.gap.gap.Goals as goal

pub returns-in_err-after-clause-err : goal.returns-in_err-after-clause-err
returns-in_err-after-clause-err c =
    let rest = c.loop-after.rest in
    passed_on (FaultAfterGap (offsets_in c.args.cursor) (ahead c.args.cursor)) _ c.from_residual.result c.from_residual.ensures.1
    (gap (c.loop-after.invariant.0 _ none) (subst (λ p. FaultAt p (ahead rest) c.in_err-after.field-0.0) c.loop-after.invariant.1 c.in_err-after.ensures.err))

pub loop-after-init : goal.loop-after-init
loop-after-init c = (λ end r. gap_stretch c.after_stretch-rest.ensures.passes r, c.after_stretch-rest.ensures.passes.input)

pub loop-after-preserved : goal.loop-after-preserved
loop-after-preserved c =
    let p : PassesPiece c.loop-after.rest c.in-Some.after = rw c.in-Some.is at c.in_ok-after.ensures.ok in (
      λ end r. c.loop-after.invariant.0 end (piece p.piece (gap_stretch c.after_stretch-rest-in-Some.ensures.passes r)),
      c.after_stretch-rest-in-Some.ensures.passes.input ∙ p.input ∙ c.loop-after.invariant.1,
    )

pub returns-clause-ok : goal.returns-clause-ok
returns-clause-ok c =
    record { gap = c.loop-after.invariant.0 _ none; whole = rw c.in_default.is at c.in_ok-after.ensures.ok; input = c.loop-after.invariant.1 }
