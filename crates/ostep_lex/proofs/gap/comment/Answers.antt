use Rattle.std.proofs.Common.{ap, ◌∷◌, ◌∙◌}
use Rattle.ostep_lex.proofs.LexerSteps.{piece_line, piece_block, comment_fault}
use Rattle.ostep_lex.proofs.gap.comment.Goals as goal

pub returns-in-Some-clause-ok : goal.returns-in-Some-clause-ok
returns-in-Some-clause-ok c =
    piece_line _ _ _ (c.requires.slash ∙ ap (λ t. 47 ∷ t) c.in-Some.ensures.0) c.line_comment.ensures.comment (c.line_comment.ensures.input ∙ c.in-Some.ensures.1 ∙ c.requires.input)

pub returns-in-Some-block_comment-clause-ok : goal.returns-in-Some-block_comment-clause-ok
returns-in-Some-block_comment-clause-ok c =
    piece_block _ _ _ (c.requires.slash ∙ ap (λ t. 47 ∷ t) c.in-Some-after.ensures.0) c.in-Some-block_comment.ensures.0 (c.in-Some-block_comment.ensures.1 ∙ c.in-Some-after.ensures.1 ∙ c.requires.input)

pub returns-in-None-clause-err : goal.returns-in-None-clause-err
returns-in-None-clause-err c =
    comment_fault _ _ _ (c.requires.slash ∙ ap (λ t. 47 ∷ t) c.in-Some-after.ensures.0) c.in-None.ensures c.offset.ensures
