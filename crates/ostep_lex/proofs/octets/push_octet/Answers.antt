use Rattle.std.proofs.Common.{◌≡◌, ◌==◌, false, sym, arith, append-nil, ◌∙◌}
use Rattle.std.proofs.lemmas.Bool.Decides.{nat_tests}
use Rattle.ostep_lex.proofs.PieceSteps.{piece_white, piece_pair, other_fault, odd_fault}
use Rattle.ostep_lex.proofs.octets.push_octet.Goals as goal

pub returns-then-is_white-clause-ok : goal.returns-then-is_white-clause-ok
returns-then-is_white-clause-ok c = record {
  octets_of = _;
  piece = piece_white _ _ _ c.requires.first (sym c.if-is_white.ensures);
  appended = sym (append-nil c.args.octets.now.items);
  input = c.requires.input;
}

pub returns-in_default-clause-err : goal.returns-in_default-clause-err
returns-in_default-clause-err c n =
    let inside : (c.args.c == 62) ≡ false = grind (arith, nat_tests) in
    other_fault _ _ _ _ _ c.requires.first (sym c.if-is_white.ensures) c.in_default.ensures inside c.offset.ensures

pub returns-in_default-digit-clause-err : goal.returns-in_default-digit-clause-err
returns-in_default-digit-clause-err c n =
    let d = c.in-Some.ensures in
    odd_fault _ _ _ _ _ d.first d.hexadecimal c.in_default-digit.ensures c.offset-in_default-digit.ensures

pub returns-clause-ok : goal.returns-clause-ok
returns-clause-ok c =
    let h = c.in-Some.ensures in
    let l = c.in-Some-digit.ensures in
    record {
      octets_of = _;
      piece = piece_pair _ _ _ _ _ _ _ h.first l.first h.hexadecimal l.hexadecimal h.valued l.valued;
      appended = c.in_ok-push.ensures.items;
      input = l.input ∙ h.input;
    }
