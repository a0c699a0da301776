use Rattle.std.proofs.Common.{◌≡◌, ◌<◌, ◌≤◌, ◌==◌, ◌++◌, [], true, false, length, sym, ap, subst, arith, append-nil, ◌∙◌}
use Rattle.std.proofs.lemmas.Bool.Decides.{nat_tests}
use Rattle.ostep_lex.specs.Quoted.{Quoted, piece}
use Rattle.ostep_lex.specs.Stands
use Rattle.ostep_lex.specs.Stands.{EscapeFault, QuotedFault}
use Rattle.ostep_lex.specs.Cursor.{ahead, offsets_in, UnlessMemory}
use Rattle.ostep_lex.proofs.Exits.{passed_on}
use Rattle.ostep_lex.proofs.PieceSteps.{appended, quoted_close, piece_shorter, cut_string_fault}
use Rattle.ostep_lex.proofs.StretchLemmas.{quoted_stretch, fault_stretch, stretch_shorter}
use Rattle.ostep_lex.proofs.quoted.quoted.Goals as goal

pub returns-then-c-mark-clause-ok : goal.returns-then-c-mark-clause-ok
returns-then-c-mark-clause-ok c =
    let close : (c.in-Some.c == c.args.mark) ≡ true = grind (arith, nat_tests) in
    record {
      quoted = subst (λ us. Quoted c.args.mark (ahead c.args.cursor) us (ahead c.in-Some.after)) (append-nil c.loop-c.units.items)
          (c.loop-c.invariant.0 [] _ (quoted_close c.args.mark _ _ _ c.in-Some.ensures.0 close));
      input = c.in-Some.ensures.1 ∙ c.loop-c.invariant.2;
    }

pub returns-in_err-end-clause-err : goal.returns-in_err-end-clause-err
returns-in_err-end-clause-err c =
    let text = ahead c.loop-c.rest in
    passed_on (UnlessMemory (QuotedFault (offsets_in c.args.cursor) c.args.start c.args.mark (ahead c.args.cursor))) _ c.from_residual-in_err-end.result c.from_residual-in_err-end.ensures.1
    (λ n. c.loop-c.invariant.1 _ (Stands.escape (subst (λ p. EscapeFault p c.args.start text c.in_err-end.field-0.0) c.loop-c.invariant.2 (c.in_err-end.ensures.err n))))

pub loop-c-smaller : goal.loop-c-smaller
loop-c-smaller c =
    let other : (c.in-Some.c == c.args.mark) ≡ false = grind (arith, nat_tests) in
    let piece : length (ahead c.in_ok-end.end) < length (ahead c.loop-c.rest) = piece_shorter (c.in_ok-end.ensures.ok c.args.mark other).piece in
    let raw : length (ahead c.in_ok-rest-2.rest) ≤ length (ahead c.in_ok-end.end) = stretch_shorter c.in_ok-rest-2.ensures.passes in
    omega arith

pub loop-c-init : goal.loop-c-init
loop-c-init c =
    let q = c.in_ok-rest.ensures in
    let all : c.push_stretch.new.units.items ≡ q.front = q.appended ∙ ap (λ us. us ++ q.front) c.new-units.ensures.items in (
      λ more end r. subst (λ us. Quoted c.args.mark (ahead c.args.cursor) (us ++ more) end) (sym all) (quoted_stretch q.passes r),
      λ fault f. fault_stretch q.passes f,
      q.passes.input,
    )

pub loop-c-preserved : goal.loop-c-preserved
loop-c-preserved c =
    let other : (c.in-Some.c == c.args.mark) ≡ false = grind (arith, nat_tests) in
    let p = c.in_ok-end.ensures.ok c.args.mark other in
    let q = c.in_ok-rest-2.ensures in (
      λ more end r. subst (λ us. Quoted c.args.mark (ahead c.args.cursor) us end)
          (appended _ _ _ (q.front ++ more) p.appended ∙ appended _ _ _ more q.appended)
          (c.loop-c.invariant.0 (p.units_of ++ (q.front ++ more)) end (piece p.piece (quoted_stretch q.passes r))),
      λ fault f. c.loop-c.invariant.1 fault (Stands.piece p.piece (fault_stretch q.passes f)),
      q.passes.input ∙ p.input ∙ c.loop-c.invariant.2,
    )

pub returns-clause-err : goal.returns-clause-err
returns-clause-err c n = c.loop-c.invariant.1 _ (cut_string_fault _ _ _ _ c.in_default.ensures)
