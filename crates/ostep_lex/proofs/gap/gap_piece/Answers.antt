use Rattle.std.proofs.Common.{sym}
use Rattle.ostep_lex.proofs.LexerSteps.{piece_white}
use Rattle.ostep_lex.proofs.gap.gap_piece.Goals as goal

pub returns-then-is_white-clause-ok : goal.returns-then-is_white-clause-ok
returns-then-is_white-clause-ok c = piece_white _ _ _ c.in-Some.ensures.0 (sym c.if-is_white.ensures) c.in-Some.ensures.1
