use Rattle.std.proofs.Common.{arith, rules}
use Rattle.plist_value.proofs.Pairs.{view_items-long}
use Rattle.std.proofs.lemmas.Grind.{common_steps, elements}
use Rattle.plist_value.proofs.equal.+same.Goals as goal

pub same_items-returns-then-len : goal.same_items-returns-then-len
same_items-returns-then-len t c =
    let long = view_items-long c.args.items.now.items c.args.others.now.items in
    (λ h. cc, λ e. let alike = long e in absurd (omega arith))

pub same_pairs-loop-key-preserved : goal.same_pairs-loop-key-preserved
same_pairs-loop-key-preserved t c = search rules

pub same_items-loop-i-preserved : goal.same_items-loop-i-preserved
same_items-loop-i-preserved t c = grind (arith, common_steps)

pub same_items-returns : goal.same_items-returns
same_items-returns t c = grind (arith, common_steps)

pub same_items-returns-then-not-same : goal.same_items-returns-then-not-same
same_items-returns-then-not-same t c = grind (arith, common_steps)

pub same_pairs-loop-key-init : goal.same_pairs-loop-key-init
same_pairs-loop-key-init t c = grind (arith, common_steps)

pub same_pairs-loop-key-smaller : goal.same_pairs-loop-key-smaller
same_pairs-loop-key-smaller t c = grind (arith, elements)
