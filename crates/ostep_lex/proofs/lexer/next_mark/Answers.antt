use Rattle.std.proofs.Common.{◌≡◌, ◌==◌, ◌∷◌, true, false, sym, subst, arith, ◌∙◌}
use Rattle.std.proofs.lemmas.Bool.Decides.{nat_tests}
use Rattle.ostep_lex.specs.Character.{is_white}
use Rattle.ostep_lex.specs.Lexeme.{lexeme_of}
use Rattle.ostep_lex.specs.Stands.{none}
use Rattle.ostep_lex.specs.Cursor.{ahead}
use Rattle.ostep_lex.proofs.LexerSteps.{white_more, lacks_other, lacks_all, mark_placed, placed_shorter, after_more}
use Rattle.ostep_lex.proofs.lexer.next_mark.Goals as goal
use Rattle.ostep_lex.proofs.lexer.next_mark.Goals.{in-Some+else-c-mark+then-not-is_white, in_default}

pub loop-c-preserved : goal.loop-c-preserved
loop-c-preserved c =
    let w : is_white c.in-Some.c ≡ true = cc in
    (λ end r. c.loop-c.invariant.0 end (white_more c.in-Some.ensures.0 w r), c.in-Some.ensures.1 ∙ c.loop-c.invariant.1)

pub returns-then-c-mark-clause-some : goal.returns-then-c-mark-clause-some
returns-then-c-mark-clause-some c octets tokens b =
    let same : c.in-Some.c ≡ c.args.mark = grind (arith, nat_tests) in
    let first : ahead c.loop-c.rest ≡ c.args.mark ∷ ahead c.in-Some.after = subst (λ d. ahead c.loop-c.rest ≡ d ∷ ahead c.in-Some.after) same c.in-Some.ensures.0 in
    after_more b (mark_placed c.args.mark (lexeme_of c.in_ok-kind.kind) c.args.cursor c.loop-c.rest c.in-Some.after c.offset.result c.offset-then-c-mark.result
    (c.loop-c.invariant.0 _ none) c.loop-c.invariant.1 first c.in-Some.ensures.1 (sym c.in_ok-kind.ensures) c.offset.ensures c.offset-then-c-mark.ensures)

pub returns-then-c-mark-clause-shorter : goal.returns-then-c-mark-clause-shorter
returns-then-c-mark-clause-shorter c =
    let same : c.in-Some.c ≡ c.args.mark = grind (arith, nat_tests) in
    let first : ahead c.loop-c.rest ≡ c.args.mark ∷ ahead c.in-Some.after = subst (λ d. ahead c.loop-c.rest ≡ d ∷ ahead c.in-Some.after) same c.in-Some.ensures.0 in
    placed_shorter (mark_placed c.args.mark (lexeme_of c.in_ok-kind.kind) c.args.cursor c.loop-c.rest c.in-Some.after c.offset.result c.offset-then-c-mark.result
    (c.loop-c.invariant.0 _ none) c.loop-c.invariant.1 first c.in-Some.ensures.1 (sym c.in_ok-kind.ensures) c.offset.ensures c.offset-then-c-mark.ensures)

pub returns-clause-none : goal.returns-clause-none
returns-clause-none c lexeme after m r = elim c.match-first.branch [
  | in-Some+else-c-mark+then-not-is_white w ↦ (
      let n : is_white w.in-Some.c ≡ false = cc in
      let other : (w.in-Some.c == c.args.mark) ≡ false = grind (arith, nat_tests) in
      lacks_other c.args.mark w.in-Some.c (c.loop-c.invariant.0 _ none) w.in-Some.ensures.0 n other lexeme after m r)
  | in_default w ↦ lacks_all c.args.mark (c.loop-c.invariant.0 _ none) w.in_default.ensures lexeme after m r
]
