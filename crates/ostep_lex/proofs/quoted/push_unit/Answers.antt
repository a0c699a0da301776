use Rattle.std.proofs.Common.{◌∙◌, ◌≡◌, true, false}
use Rattle.ostep_lex.specs.Digits.{begins_digit}
use Rattle.ostep_lex.specs.Cursor.{ahead}
use Rattle.ostep_lex.proofs.PieceSteps.{piece_unit, unit_fault}
use Rattle.ostep_lex.proofs.quoted.push_unit.Goals as goal

pub returns-then-not-begins_digit-clause-err : goal.returns-then-not-begins_digit-clause-err
returns-then-not-begins_digit-clause-err c start n =
    let none : begins_digit 16 (ahead c.args.digits) ≡ false = cc in
    unit_fault c.requires.backslash none c.offset.ensures

pub returns-clause-ok : goal.returns-clause-ok
returns-clause-ok c mark =
    let some : begins_digit 16 (ahead c.args.digits) ≡ true = cc in
    record {
      units_of = _;
      piece = piece_unit c.requires.backslash some c.number-value.ensures.value;
      appended = c.in_ok-push.ensures.items;
      input = c.number-value.ensures.input ∙ c.requires.input;
    }
