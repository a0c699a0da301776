use Rattle.std.proofs.Common.{◌≡◌, ℕ, List, [], length}
use Rattle.plist_value.specs.declared.budget.Budget.{Budget}
use Rattle.plist_value.specs.Plist.{Plist, Pairs}
use Rattle.ostep_lex.specs.Cursor.{ahead}
use Rattle.plist_draft.specs.View.{objects}
use Rattle.ostep_text.specs.Drafted.{SpellsRow, SpellsRows}
use Rattle.ostep_text.specs.KeySet.{HasKeysOf}
use Rattle.ostep_text.specs.Begun.{nothing, opened}
use Rattle.ostep_text.specs.Reading.{IsLeft, ReadsRow, TakesRow}
use Rattle.ostep_text.proofs.BareSteps.{BareRead}
use Rattle.ostep_text.proofs.reader.Reader.bare_table.Given as goal

abbrev pub decreases-loop-rows : goal.decreases-loop-rows
decreases-loop-rows l = length (ahead l.self.tokens.cursor)

-- the rows so far, at least one
abbrev pub invariant-loop-rows : goal.invariant-loop-rows
invariant-loop-rows l =
    record {
      even : length l.rows.keys.items ≡ length l.rows.values.items;
      built : (octets : List ℕ) (left : Budget) (v : Plist) → SpellsRow (objects l.fn.self.draft) l.fn.key l.fn.row v → IsLeft left 511 (opened nothing) → TakesRow left 511 l.fn.key v l.fn.self.left
          → ReadsRow octets [] l.fn.key v l.fn.self.tokens → (ps : Pairs) × (SpellsRows (objects l.self.draft) l.rows ps × HasKeysOf l.keys ps) × BareRead octets left ps l.self;
    }
