use Rattle.std.proofs.Common.{◌≡◌, ◌==◌, false, sym, arith, ◌∙◌}
use Rattle.std.proofs.lemmas.Bool.Decides.{nat_tests}
use Rattle.std.proofs.lemmas.Option.{IfSome_then}
use Rattle.ostep_lex.proofs.LexerSteps.{token_run, token_quoted, run_gapless}
use Rattle.ostep_lex.proofs.plain.plain_here.Goals as goal

pub returns-then-is_quote : goal.returns-then-is_quote
returns-then-is_quote c = IfSome_then c.plain_quoted.result c.plain_quoted.ensures (λ found p. record {
  token = token_quoted _ _ _ _ _ c.in_ok-c.ensures.0 (sym c.if-is_quote.ensures) p.quoted;
  input = p.input ∙ c.in_ok-c.ensures.1;
})

pub returns-then-c-ne47 : goal.returns-then-c-ne47
returns-then-c-ne47 c =
    let other : (c.in_ok-c.c == 47) ≡ false = grind (arith, nat_tests) in
    let gapless = run_gapless _ _ _ c.in_ok-c.ensures.0 (sym c.if-is_run.ensures) other in
    IfSome_then c.plain_run.result c.plain_run.ensures (λ found p. record {
      token = token_run _ _ _ _ _ c.in_ok-c.ensures.0 (sym c.if-is_run.ensures) gapless p.run;
      input = p.input;
    })
