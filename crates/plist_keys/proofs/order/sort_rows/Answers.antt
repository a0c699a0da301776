use Rattle.std.proofs.Common.{rules, is_lt}
use Rattle.std.proofs.lemmas.Fn.{always_returns_same}
use Rattle.std.proofs.lemmas.List.MinMax.{ranks_by}
use Rattle.std.proofs.lemmas.List.Sorted.{IsPermutation-trans}
use Rattle.plist_keys.specs.KeyOrder.{by_number}
use Rattle.plist_keys.proofs.KeyOrders.{by_number_total}
use Rattle.plist_keys.proofs.order.sort_rows.Goals.{then-len-gt-FEW_KEYS+else-numbers_rise, else-len-gt-FEW_KEYS}
use Rattle.plist_keys.proofs.order.sort_rows.Goals as goal

pub returns-clause-moved : goal.returns-clause-moved
returns-clause-moved c =
    let sorted = c.sort_unstable_by.new.self.items in
    elim c.if-len-gt-FEW_KEYS.branch [
      | then-len-gt-FEW_KEYS+else-numbers_rise w ↦ IsPermutation-trans c.args.rows.now.items c.if-len-gt-FEW_KEYS.rows.items sorted (rw w.rows-is w.sort_unstable_by_key.ensures.permutation) c.sort_unstable_by.ensures.permutation
      | else-len-gt-FEW_KEYS w ↦ rw w.rows-is at c.sort_unstable_by.ensures.permutation
    ]

pub returns-clause-sorted : goal.returns-clause-sorted
returns-clause-sorted c =
    let texts = c.args.texts.now in
    c.sort_unstable_by.ensures.sorted (λ row other. is_lt (by_number texts row other)) (ranks_by (by_number_total texts) (λ row. row)) (always_returns_same _ _ _ (λ a r f k. search rules))
