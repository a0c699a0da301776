use Rattle.std.proofs.Common.{◌≡◌, ◌-◌, ◌<◌, ◌^◌}
use Rattle.ostep_lex.specs.Digits.{number_from}
use Rattle.ostep_lex.specs.Cursor.{ahead, SameInput}
use Rattle.ostep_lex.proofs.digits.number.Given as goal

abbrev pub invariant-loop : goal.invariant-loop
invariant-loop l = (number_from l.base l.count 0 (ahead l.cursor) ≡ number_from l.base (l.count - l.counter) l.value (ahead l.rest))
    × SameInput l.cursor l.rest × (l.value < l.base ^ l.counter)
