use Rattle.std.proofs.Common.{◌∙◌}
use Rattle.ostep_lex.proofs.LexerSteps.{block_more, never_more, block_close, never_none}
use Rattle.ostep_lex.proofs.StretchLemmas.{block_stretch, never_stretch}
use Rattle.ostep_lex.proofs.gap.block_comment.Goals as goal

pub returns-in-Some-comment_end : goal.returns-in-Some-comment_end
returns-in-Some-comment_end c =
    (c.loop-after.invariant.0 _ (block_close c.in-Some-comment_end.ensures.0), c.in-Some-comment_end.ensures.1 ∙ c.loop-after.invariant.2)

pub loop-after-init : goal.loop-after-init
loop-after-init c = (λ end r. block_stretch c.after_stretch-rest.ensures.passes r, λ n. never_stretch c.after_stretch-rest.ensures.passes n, c.after_stretch-rest.ensures.passes.input)

pub loop-after-preserved : goal.loop-after-preserved
loop-after-preserved c = (
  λ end r. c.loop-after.invariant.0 end (block_more c.in-Some.ensures.0 c.in_default-comment_end.ensures (block_stretch c.after_stretch-rest-in-Some.ensures.passes r)),
  λ n. c.loop-after.invariant.1 (never_more c.in-Some.ensures.0 c.in_default-comment_end.ensures (never_stretch c.after_stretch-rest-in-Some.ensures.passes n)),
  c.after_stretch-rest-in-Some.ensures.passes.input ∙ c.in-Some.ensures.1 ∙ c.loop-after.invariant.2,
)

pub returns : goal.returns
returns c = c.loop-after.invariant.1 (never_none c.in_default.ensures)
