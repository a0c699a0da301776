use Rattle.std.proofs.Common.{◌≡◌, ◌+◌, ◌*◌, ◌≤◌, ℕ, List, [], length}
use Rattle.ostep_lex.specs.Lexeme.{Located}
use Rattle.ostep_lex.specs.Cursor.{ahead}
use Rattle.plist_draft.specs.Encoded.{Keeps, SpellItemsIn}
use Rattle.plist_draft.specs.View.{objects}
use Rattle.plist_value.specs.Plist.{Pairs}
use Rattle.ostep_text.specs.declared.entries.Entries.{Entries}
use Rattle.ostep_text.specs.Drafted.{IsBuilt, SpellsRows}
use Rattle.ostep_text.specs.KeySet.{HasKeysOf}
use Rattle.ostep_text.specs.Reading.{HasRead, ReadsItems, ReadsPairs, TakesItems, TakesPairs}
use Rattle.ostep_text.proofs.reader.Reader.+value.Given as goal

-- by the levels, with callers before what they call
abbrev pub decreases-token_value : goal.decreases-token_value
decreases-token_value l = 5 * l.levels

abbrev pub decreases-value : goal.decreases-value
decreases-value l = 5 * l.levels + 1

abbrev pub decreases-items : goal.decreases-items
decreases-items l = 5 * l.levels + 2

abbrev pub decreases-rows : goal.decreases-rows
decreases-rows l = 5 * l.levels + 4

abbrev pub decreases-row : goal.decreases-row
decreases-row l = 5 * l.levels + 3

abbrev pub decreases-row_value : goal.decreases-row_value
decreases-row_value l = 5 * l.levels + 2

abbrev pub decreases-items-loop-items : goal.decreases-items-loop-items
decreases-items-loop-items l = length (ahead l.self.tokens.cursor)

abbrev pub decreases-rows-loop-rows : goal.decreases-rows-loop-rows
decreases-rows-loop-rows l = length (ahead l.self.tokens.cursor)

-- the items so far, and what they took
abbrev pub invariant-items-loop-items : goal.invariant-items-loop-items
invariant-items-loop-items l =
    record {
      shorter : length (ahead l.self.tokens.cursor) ≤ length (ahead l.initial.self.tokens.cursor);
      kept : Keeps (objects l.initial.self.draft) (objects l.self.draft);
      built : IsBuilt (SpellItemsIn (objects l.self.draft)) l.items.items (λ vs. TakesItems l.initial.self.left l.levels vs l.self.left)
          (λ vs. (octets : List ℕ) (tokens : List Located) → HasRead octets tokens l.initial.self.tokens → ReadsItems octets tokens [] vs l.self.tokens);
    }

-- the rows so far
abbrev pub invariant-rows-loop-rows : goal.invariant-rows-loop-rows
invariant-rows-loop-rows l =
    record {
      shorter : length (ahead l.self.tokens.cursor) ≤ length (ahead l.initial.self.tokens.cursor);
      kept : Keeps (objects l.initial.self.draft) (objects l.self.draft);
      even : length l.rows.keys.items ≡ length l.rows.values.items;
      built : IsBuilt (λ (rows : Entries) (ps : Pairs). SpellsRows (objects l.self.draft) rows ps × HasKeysOf l.keys ps) l.rows (λ ps. TakesPairs l.initial.self.left l.levels ps l.self.left)
          (λ ps. (octets : List ℕ) (tokens : List Located) → HasRead octets tokens l.initial.self.tokens → ReadsPairs octets tokens [] ps l.self.tokens);
    }
