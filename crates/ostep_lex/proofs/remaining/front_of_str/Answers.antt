use Rattle.std.proofs.Common.{◌≡◌, ◌++◌}
use Rattle.std.proofs.lemmas.Str.{chars_past_char}
use Rattle.std.specs.Char.{encode_utf8}
use Rattle.ostep_lex.proofs.remaining.front_of_str.Goals as goal

pub returns : goal.returns
returns c =
    let split : c.args.text.now ≡ encode_utf8 c.in_ok-first.first ++ c.as_str.result.now = cc c.in_ok-first.ensures.steps.0 in
    (split, chars_past_char c.args.text.now c.as_str.result.now c.in_ok-first.first c.utf8.text split)
