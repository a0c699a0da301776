use Rattle.std.proofs.Common.{◌≡◌, ◌==◌, false, None, sym, subst, arith, ◌∙◌}
use Rattle.std.proofs.lemmas.Bool.Decides.{nat_tests}
use Rattle.ostep_lex.specs.Lexeme
use Rattle.ostep_lex.specs.Lexeme.{IsToken, lexeme_of, mark_token}
use Rattle.ostep_lex.specs.Stands.{QuotedFault, OctetsFault, FaultAt}
use Rattle.ostep_lex.specs.Cursor.{ahead, offsets_in, UnlessMemory}
use Rattle.ostep_lex.proofs.Exits.{passed_on}
use Rattle.ostep_lex.proofs.LexerSteps.{token_mark, token_run, token_quoted, token_data, quoted_fault, data_fault, unexpected_fault}
use Rattle.ostep_lex.proofs.lexer.token_here.Goals as goal

pub returns-in-Some-mark_token-clause-ok : goal.returns-in-Some-mark_token-clause-ok
returns-in-Some-mark_token-clause-ok c = record {
  token = token_mark _ _ _ _ c.in-Some.ensures.0 (sym c.in-Some-mark_token.ensures);
  input = c.in-Some.ensures.1;
}

pub returns-then-is_run-clause-ok : goal.returns-then-is_run-clause-ok
returns-then-is_run-clause-ok c = record {
  token = subst (λ us. IsToken (ahead c.args.cursor) (Lexeme.text us) (ahead c.in_ok-units.end)) (sym c.from_units.ensures)
      (token_run _ _ _ _ _ c.in-Some.ensures.0 (sym c.if-is_run.ensures) c.requires c.in_ok-units.ensures.run);
  input = c.in_ok-units.ensures.input;
}

pub returns-in_err-units-2-clause-err : goal.returns-in_err-units-2-clause-err
returns-in_err-units-2-clause-err c =
    passed_on (UnlessMemory (FaultAt (offsets_in c.args.cursor) (ahead c.args.cursor))) _ c.from_residual-in_err-units-2.result c.from_residual-in_err-units-2.ensures.1
    (λ n. quoted_fault _ _ _ _ _ _ c.in-Some.ensures.0 (sym c.if-is_quote.ensures) c.offset.ensures
    (subst (λ p. QuotedFault p c.offset.result c.in-Some.c (ahead c.in-Some.after) c.in_err-units-2.field-0.0) c.in-Some.ensures.1 (c.in_err-units-2.ensures.err n)))

pub returns-then-is_quote-clause-ok : goal.returns-then-is_quote-clause-ok
returns-then-is_quote-clause-ok c = record {
  token = subst (λ us. IsToken (ahead c.args.cursor) (Lexeme.text us) (ahead c.in_ok-units-2.end)) (sym c.from_units-then-is_quote.ensures)
      (token_quoted _ _ _ _ _ c.in-Some.ensures.0 (sym c.if-is_quote.ensures) c.in_ok-units-2.ensures.ok.quoted);
  input = c.in_ok-units-2.ensures.ok.input ∙ c.in-Some.ensures.1;
}

pub returns-in_err-octets-clause-err : goal.returns-in_err-octets-clause-err
returns-in_err-octets-clause-err c =
    passed_on (UnlessMemory (FaultAt (offsets_in c.args.cursor) (ahead c.args.cursor))) _ c.from_residual-in_err-octets.result c.from_residual-in_err-octets.ensures.1
    (λ n. data_fault _ _ _ _ _ c.in-Some.ensures.0 c.if-c-eq60.true
    (subst (λ p. OctetsFault p (ahead c.in-Some.after) c.in_err-octets.field-0.0) c.in-Some.ensures.1 (c.in_err-octets.ensures.err n)))

pub returns-then-c-eq60-clause-ok : goal.returns-then-c-eq60-clause-ok
returns-then-c-eq60-clause-ok c = record {
  token = token_data _ _ _ _ _ c.in-Some.ensures.0 c.if-c-eq60.true c.in_ok-octets.ensures.ok.bytes;
  input = c.in_ok-octets.ensures.ok.input ∙ c.in-Some.ensures.1;
}

pub returns-clause-err : goal.returns-clause-err
returns-clause-err c n =
    let other : (c.in-Some.c == 60) ≡ false = grind (arith, nat_tests) in
    let mark : mark_token c.in-Some.c ≡ None = sym c.in_default-mark_token.ensures in
    unexpected_fault _ _ _ _ _ c.in-Some.ensures.0 mark (sym c.if-is_run.ensures) (sym c.if-is_quote.ensures) other c.requires c.offset-2.ensures
