use Rattle.std.proofs.Common.{◌≡◌, ◌==◌, false, arith}
use Rattle.std.proofs.lemmas.Bool.Decides.{nat_tests}
use Rattle.ostep_lex.proofs.PieceSteps.{piece_raw}
use Rattle.ostep_lex.proofs.quoted.push_piece.Goals as goal

pub returns-clause-ok : goal.returns-clause-ok
returns-clause-ok c mark m =
    let other : (c.args.c == 92) ≡ false = grind (arith, nat_tests) in
    record {
      units_of = _;
      piece = piece_raw mark _ _ _ c.requires.first other m;
      appended = c.in_ok-push_character.ensures;
      input = c.requires.input;
    }
