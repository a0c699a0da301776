use Rattle.std.proofs.Common.{◌≡◌, ℕ, ◌+◌, ◌-◌, ◌*◌, List, take, Ok}
use Rattle.std.specs.List.{concat}
use Rattle.plist_value.specs.Plist.{Items, Pairs, AreItems, ArePairs}
use Rattle.plist_value.specs.declared.TheConstants.{MAX_DEPTH}
use Rattle.plist_keys.specs.KeyOrder.{IsReady}
use Rattle.plist_object.specs.Spelled.{SpellItems, SpellPairs}
use Rattle.plist_object.specs.Views.{octets_of, numbers_of}
use Rattle.plist_write.specs.BufferedSink.{Emits, sink_state}
use Rattle.plist_write.specs.Spelling.{sorted_references}
use Rattle.plist_write.specs.Notation.{item_in, pair_in}
use Rattle.plist_write.proofs.Turns.{item_texts, pair_texts}
use Rattle.plist_write.proofs.objects.Input.+write.Given as goal

-- the remaining levels decrease, and each caller comes before what it calls
abbrev pub decreases-write_value : goal.decreases-write_value
decreases-write_value g l = 3 * (MAX_DEPTH - l.level)

abbrev pub decreases-write_items : goal.decreases-write_items
decreases-write_items g l = 3 * (MAX_DEPTH - l.level) + 1

abbrev pub decreases-write_pairs : goal.decreases-write_pairs
decreases-write_pairs g l = 3 * (MAX_DEPTH - l.level) + 1

abbrev pub decreases-write_list : goal.decreases-write_list
decreases-write_list g l = 3 * (MAX_DEPTH - l.level) - 1

abbrev pub decreases-write_table : goal.decreases-write_table
decreases-write_table g l = 3 * (MAX_DEPTH - l.level) - 1

-- the items before this one were written
abbrev pub invariant-write_items-loop-i : goal.invariant-write_items-loop-i
invariant-write_items-loop-i g l = record {
  emits : (vs : Items) → AreItems vs → SpellItems (octets_of l.self.file) (numbers_of l.items) vs → Emits {T = Unit {0}} (concat (take l.i (item_texts (item_in g.N.Notation.parts l.level) vs))) (sink_state g.W.Sink l.fn.out) (sink_state g.W.Sink l.out) (Ok tt);
  ready : IsReady (octets_of l.self.file) l.order;
}

-- the pairs before this one were written
abbrev pub invariant-write_pairs-loop-i : goal.invariant-write_pairs-loop-i
invariant-write_pairs-loop-i g l = record {
  emits : (rows : List (ℕ × ℕ)) (ps : Pairs) → l.references ≡ sorted_references rows → ArePairs ps → SpellPairs (octets_of l.self.file) rows ps → Emits {T = Unit {0}} (concat (take l.i (pair_texts (pair_in g.N.Notation.parts l.level) ps))) (sink_state g.W.Sink l.fn.out) (sink_state g.W.Sink l.out) (Ok tt);
  ready : IsReady (octets_of l.self.file) l.order;
}
