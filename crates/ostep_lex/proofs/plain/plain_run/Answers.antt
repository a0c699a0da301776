use Rattle.std.proofs.Common.{◌≡◌, false, []}
use Rattle.ostep_lex.specs.Character.{is_run}
use Rattle.ostep_lex.specs.Quoted.{Run}
use Rattle.ostep_lex.specs.Cursor.{ahead}
use Rattle.ostep_lex.proofs.PieceSteps.{run_stop, run_none}
use Rattle.ostep_lex.proofs.LexerSteps.{plain_run}
use Rattle.ostep_lex.proofs.plain.plain_run.Goals as goal
use Rattle.ostep_lex.proofs.plain.plain_run.Goals.{in_default-via-in-Some+else-is_run, in_default-via-in_default}

pub returns-in_default : goal.returns-in_default
returns-in_default c =
    let stop : Run (ahead c.in_ok-octets.after) [] (ahead c.in_ok-octets.after) =
    elim c.in_default.branch [
      | in_default-via-in-Some+else-is_run w ↦ (let n : is_run w.in-Some.c ≡ false = cc in run_stop w.in-Some.ensures.0 n)
      | in_default-via-in_default w ↦ run_none w.in_default.ensures
    ] in
    plain_run c.in_ok-octets.ensures stop
