use Rattle.std.proofs.Common.{◌∙◌, ◌≡◌, ◌==◌, ◌++◌, false, sym, ap, arith}
use Rattle.std.proofs.lemmas.Bool.Decides.{nat_tests}
use Rattle.std.specs.Char.{is_digit}
use Rattle.std.specs.Char.Escape.{encode_utf16}
use Rattle.ostep_lex.proofs.PieceSteps.{piece_character, cut_fault}
use Rattle.ostep_lex.proofs.quoted.push_escape.Goals as goal

pub returns-in_default-clause-err : goal.returns-in_default-clause-err
returns-in_default-clause-err c n = cut_fault _ _ _ _ c.requires.backslash c.in_default.ensures

pub returns-clause-ok : goal.returns-clause-ok
returns-clause-ok c mark =
    let digit : is_digit c.in-Some.c 8 ≡ false = sym c.if-is_digit.ensures.value in
    let letter : (c.in-Some.c == 85) ≡ false = grind (arith, nat_tests) in
    record {
      units_of = _;
      piece = piece_character c.requires.backslash c.in-Some.ensures.0 digit letter;
      appended = c.in_ok-push_character.ensures ∙ ap (λ w. c.args.units.now.items ++ encode_utf16 w) c.escaped_character.ensures;
      input = c.in-Some.ensures.1 ∙ c.requires.input;
    }
