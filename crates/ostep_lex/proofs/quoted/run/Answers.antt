use Rattle.std.proofs.Common.{◌≡◌, true, false, [], ◌∷◌, ◌++◌, sym, ap, subst, ◌∙◌, append-nil}
use Rattle.ostep_lex.specs.Character.{is_run}
use Rattle.ostep_lex.specs.Quoted.{Run}
use Rattle.ostep_lex.specs.Cursor.{ahead}
use Rattle.ostep_lex.proofs.PieceSteps.{appended, run_more, run_stop, run_none}
use Rattle.ostep_lex.proofs.StretchLemmas.{run_stretch}
use Rattle.ostep_lex.proofs.quoted.run.Goals as goal
use Rattle.ostep_lex.proofs.quoted.run.Goals.{in-Some+then-not-is_run, in_default}

pub loop-c-init : goal.loop-c-init
loop-c-init c =
    let q = c.in_ok-rest.ensures in
    let all : c.push_stretch.new.units.items ≡ q.front = q.appended ∙ ap (λ us. us ++ q.front) c.new-units.ensures.items in (
      λ more end r. subst (λ us. Run (ahead c.args.cursor) (us ++ more) end) (sym all) (run_stretch q.passes r),
      q.passes.input,
    )

pub loop-c-preserved : goal.loop-c-preserved
loop-c-preserved c =
    let t : is_run c.in-Some.c ≡ true = cc in (
      λ more end r. subst (λ us. Run (ahead c.args.cursor) us end) (appended _ _ _ more c.in_ok-push.ensures.items)
          (c.loop-c.invariant.0 (c.in-Some.c ∷ more) end (run_more c.in-Some.ensures.0 t r)),
      c.in-Some.ensures.1 ∙ c.loop-c.invariant.1,
    )

pub returns : goal.returns
returns c =
    let done : Run (ahead c.loop-c.rest) [] (ahead c.loop-c.rest) =
    elim c.match-first.branch [
      | in-Some+then-not-is_run w ↦ (let t : is_run w.in-Some.c ≡ false = cc in run_stop w.in-Some.ensures.0 t)
      | in_default w ↦ run_none w.in_default.ensures
    ] in
    record {
      run = subst (λ us. Run (ahead c.args.cursor) us (ahead c.loop-c.rest)) (append-nil c.loop-c.units.items) (c.loop-c.invariant.0 [] _ done);
      input = c.loop-c.invariant.1;
    }
