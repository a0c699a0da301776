-- What was taken from the limits, and what is left of them.
use Rattle.std.proofs.Common.{◌≡◌, ℕ, ◌-◌, ◌+◌, ◌*◌, ◌≤◌, false, List, length, refl, subst, arith}
use Rattle.plist_value.specs.declared.budget.Budget.{Budget}
use Rattle.plist_value.specs.Budget.{Spends}
use Rattle.plist_value.specs.Plist.{Plist, Scalar, scalar, list, table, Items, no_items, Pairs, no_pairs, AreUnits, IsScalar}
use Rattle.plist_value.specs.Limits.{payload_of_scalar}
use Rattle.plist_value.proofs.Pairs.{put_pair}
use Rattle.ostep_text.specs.Sorting.{has_key, AreReordered}
use Rattle.ostep_text.specs.Begun.{Before, opened, with_items, with_rows, with_key}
use Rattle.ostep_text.proofs.SizeLemmas.{reordered-nodes, reordered-payload}
use Rattle.ostep_text.specs.Reading.{IsLeft, Takes, TakesItems, TakesPairs, TakesRow}
use Rattle.plist_value.proofs.Items.{push, nodes-push, payload-push, depth-push, AreItems-push}
use Rattle.ostep_text.proofs.SortingSteps.{put-nodes, put-payload, put-depth, put-pairs}

-- spent one after the other
spends-then : {left mid after : Budget} {n m both load more all : ℕ} → Spends left n load mid → Spends mid m more after → both ≡ n + m → all ≡ load + more → Spends left both all after
spends-then s t e f = record { nodes_left = omega (arith, s.nodes_left, t.nodes_left, e); payload_left = omega (arith, s.payload_left, t.payload_left, f) }

-- what is left once this was spent, and is counted as well
pub left-after : {left mid : Budget} {levels deep n load : ℕ} {b c : Before} → IsLeft left levels b → Spends left n load mid → c.nodes ≡ b.nodes + n → c.payload ≡ b.payload + load
    → deep + c.open_containers ≡ levels + b.open_containers → IsLeft mid deep c
left-after i s e f g = record {
  nodes_left = omega (arith, i.nodes_left, s.nodes_left, e);
  payload_left = omega (arith, i.payload_left, s.payload_left, f);
  levels_left = omega (arith, i.levels_left, g);
}

pub no-items-taken : (left : Budget) (levels : ℕ) → TakesItems left levels no_items left
no-items-taken left levels = record { spent = record { nodes_left = omega arith; payload_left = omega arith }; deep = omega arith; valid = tt }

pub no-pairs-taken : (left : Budget) (levels : ℕ) → TakesPairs left levels no_pairs left
no-pairs-taken left levels = record { spent = record { nodes_left = omega arith; payload_left = omega arith }; deep = omega arith; valid = tt }

pub item-taken : {left mid after : Budget} {levels : ℕ} (vs : Items) (w : Plist) → TakesItems left levels vs mid → Takes mid levels w after → TakesItems left levels (push vs w) after
item-taken {levels = levels} vs w t u = record {
  spent = spends-then t.spent u.spent (nodes-push vs w) (payload-push vs w);
  deep = depth-push vs w levels t.deep u.deep;
  valid = AreItems-push vs w t.valid u.valid;
}

pub pair-taken : {left mid after : Budget} {levels : ℕ} (key : List ℕ) (v : Plist) (ps : Pairs) → TakesPairs left levels ps mid → TakesRow mid levels key v after → has_key key ps ≡ false
    → TakesPairs left levels (put_pair key v ps) after
pair-taken {levels = levels} key v ps t u n = record {
  spent = spends-then t.spent u.spent (put-nodes key v ps n) (put-payload key v ps n);
  deep = put-depth key v ps levels n u.some u.deep t.deep;
  valid = put-pairs key v ps u.valid_key u.valid t.valid n;
}

pub row-taken : {left mid after : Budget} {levels : ℕ} (key : List ℕ) (v : Plist) → Spends left 1 (2 * length key) mid → 1 ≤ levels → Takes mid levels v after → AreUnits key
    → TakesRow left levels key v after
row-taken key v s o t u = record {
  spent = spends-then s t.spent (omega arith) (omega arith);
  some = o;
  deep = t.deep;
  valid_key = u;
  valid = t.valid;
}

pub opened-left : {left mid : Budget} {levels : ℕ} {b : Before} → IsLeft left levels b → Spends left 1 0 mid → 1 ≤ levels → IsLeft mid (levels - 1) (opened b)
opened-left i s o = left-after i s refl (omega arith) (omega (arith, o))

pub items-left : {left mid : Budget} {levels : ℕ} (b : Before) (vs : Items) → IsLeft left levels (opened b) → TakesItems left levels vs mid → IsLeft mid levels (with_items vs (opened b))
items-left b vs i t = left-after i t.spent refl refl refl

pub rows-left : {left mid : Budget} {levels : ℕ} {b : Before} {rows ps : Pairs} → IsLeft left levels b → TakesPairs left levels ps mid → AreReordered rows ps → IsLeft mid levels (with_rows rows b)
rows-left i t r = left-after i t.spent (omega (arith, reordered-nodes r)) (omega (arith, reordered-payload r)) refl

pub key-left : {left mid : Budget} {levels : ℕ} {b : Before} (key : List ℕ) → IsLeft left levels b → Spends left 1 (2 * length key) mid → IsLeft mid levels (with_key key b)
key-left key i s = left-after i s refl refl refl

-- taken by a scalar, an array and a dictionary
pub scalar-taken : {left after : Budget} {levels : ℕ} (s : Scalar) → Spends left 1 (payload_of_scalar s) after → 1 ≤ levels → IsScalar s → Takes left levels (scalar s) after
scalar-taken s p o v = record { spent = record { nodes_left = p.nodes_left; payload_left = p.payload_left }; deep = o; valid = v }

pub list-taken : {left mid after : Budget} {levels : ℕ} (vs : Items) → Spends left 1 0 mid → 1 ≤ levels → TakesItems mid (levels - 1) vs after → Takes left levels (list vs) after
list-taken vs s o t = record {
  spent = spends-then s t.spent (omega arith) (omega arith);
  deep = omega (arith, o, t.deep);
  valid = t.valid;
}

pub table-taken : {left mid after : Budget} {levels : ℕ} (ps : Pairs) → Spends left 1 0 mid → 1 ≤ levels → TakesPairs mid (levels - 1) ps after → Takes left levels (table ps) after
table-taken ps s o t = record {
  spent = spends-then s t.spent (omega arith) (omega arith);
  deep = omega (arith, o, t.deep);
  valid = t.valid;
}

pub spends-same : {left after : Budget} {n load other : ℕ} → Spends left n load after → load ≡ other → Spends left n other after
spends-same {left} {after} {n = n} s e = subst (λ x. Spends left n x after) e s
