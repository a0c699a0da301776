use Rattle.std.proofs.Common.{◌≡◌, ◌++◌, drop}
use Rattle.plist_value.specs.View.{view_items, view_pairs}
use Rattle.plist_value.specs.Writable.{are_writable_items, are_writable_pairs}
use Rattle.ostep_text.specs.Written.{written_items, written_pairs}
use Rattle.ostep_text.proofs.writing.+put.Given as goal

-- the bytes so far, followed by the remaining items, are everything, and the remaining items decide
abbrev pub invariant-put_list-loop-item : goal.invariant-put_list-loop-item
invariant-put_list-loop-item l =
    let all = view_items l.items.items in
    let rest = view_items (drop l.item-index l.items.items) in
    record {
      octets : l.out.items ++ written_items rest ≡ l.initial.out.items ++ written_items all;
      writable : are_writable_items rest ≡ are_writable_items all;
    }

abbrev pub invariant-put_table-loop-key : goal.invariant-put_table-loop-key
invariant-put_table-loop-key l =
    let all = view_pairs l.pairs.entries in
    let rest = view_pairs l.key-iterator in
    record {
      can : (goal.iterator-put_table-loop-key).can_next l.key-iterator;
      finite : (goal.iterator-put_table-loop-key).is_finite l.key-iterator;
      octets : l.out.items ++ written_pairs rest ≡ l.initial.out.items ++ written_pairs all;
      writable : are_writable_pairs rest ≡ are_writable_pairs all;
    }
