use Rattle.std.proofs.Common.{◌∙◌}
use Rattle.ostep_lex.proofs.PieceSteps.{piece_octal, octal_fault}
use Rattle.ostep_lex.proofs.quoted.push_octal.Goals as goal

pub returns-then-value-gt127-clause-err : goal.returns-then-value-gt127-clause-err
returns-then-value-gt127-clause-err c start n =
    octal_fault _ start _ _ _ _ _ c.requires.backslash c.requires.digits c.number-value.ensures.value c.if-value-gt127.true c.offset.ensures

pub returns-clause-ok : goal.returns-clause-ok
returns-clause-ok c mark = record {
  units_of = _;
  piece = piece_octal c.requires.backslash c.requires.digits c.number-value.ensures.value c.if-value-gt127.false;
  appended = c.in_ok-push.ensures.items;
  input = c.number-value.ensures.input ∙ c.requires.input;
}
