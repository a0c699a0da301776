use Rattle.std.proofs.Common.{sym, ◌∙◌}
use Rattle.ostep_lex.proofs.LexerSteps.{line_more, line_stop, line_none}
use Rattle.ostep_lex.proofs.StretchLemmas.{line_stretch}
use Rattle.ostep_lex.proofs.gap.line_comment.Goals as goal

pub loop-c-init : goal.loop-c-init
loop-c-init c = (λ end r. line_stretch c.after_stretch-rest.ensures.passes r, c.after_stretch-rest.ensures.passes.input)

pub loop-c-preserved : goal.loop-c-preserved
loop-c-preserved c = (
  λ end r. c.loop-c.invariant.0 end (line_more c.in-Some.ensures.0 (sym c.if-is_line_end.ensures) (line_stretch c.after_stretch-rest-in-Some.ensures.passes r)),
  c.after_stretch-rest-in-Some.ensures.passes.input ∙ c.in-Some.ensures.1 ∙ c.loop-c.invariant.1,
)

pub returns-then-is_line_end-clause-comment : goal.returns-then-is_line_end-clause-comment
returns-then-is_line_end-clause-comment c = c.loop-c.invariant.0 _ (line_stop c.in-Some.ensures.0 (sym c.if-is_line_end.ensures))

pub returns-in_default-clause-comment : goal.returns-in_default-clause-comment
returns-in_default-clause-comment c = c.loop-c.invariant.0 _ (line_none c.in_default.ensures)
