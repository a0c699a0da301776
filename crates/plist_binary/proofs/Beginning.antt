-- What comes before a node, from what comes before its container and from the references before it.
use Rattle.std.proofs.Common.{◌≡◌, ℕ, suc, ◌+◌, ◌-◌, ◌<◌, List, [], ◌∷◌, ◌++◌, ◌≤◌, length, take, drop, slice_index, refl, sym, ap, ◌∙◌, subst, arith}
use Rattle.std.proofs.lemmas.List.{append_assoc, append-nil}
use Rattle.std.proofs.lemmas.List.Elements.{Contains-append_left, Contains-append_right}
use Rattle.plist_value.specs.Plist.{Items, no_items}
use Rattle.std.specs.List.{Contains}
use Rattle.plist_value.specs.Limits.{nodes_of_items, depth_of_items, payload_of_items}
use Rattle.plist_value.specs.declared.TheConstants.{MAX_DEPTH}
use Rattle.plist_value.specs.Budget.{Spends}
use Rattle.plist_value.specs.declared.budget.Budget.{Budget}
use Rattle.plist_object.specs.Layout.{IsLaid}
use Rattle.plist_object.specs.Objects.{holds_list, holds_table}
use Rattle.plist_object.specs.Places.{Holds}
use Rattle.plist_binary.specs.Begins.{Comes, Begins, IsBegun, AreNext}
use Rattle.plist_binary.specs.Budgets.{limits}
use Rattle.plist_binary.specs.declared.progress.Progress.{Progress}
use Rattle.plist_binary.specs.declared.walker.Node.{Node}
use Rattle.plist_binary.specs.Paths.{EndsPath, Refers, Leads, NoneTwice}
use Rattle.plist_binary.specs.Progress.{AreDue, IsDue, IsTaken, above, inside}
use Rattle.plist_binary.specs.Readings.{ReadsItems}
use Rattle.plist_binary.proofs.ItemSteps.{around, join, Spends-then, Spends-none, SpellItems-join, AreItems-join, nodes-join, payload-join, depth-join}

-- the container contains each of the references
pub Comes-refers : {f : List ℕ} {j : ℕ} {refs : List ℕ} {vs : Items} (i : ℕ) → Comes f j refs vs → Contains refs i → Refers f j i
Comes-refers {refs = refs} i comes among = record {
  held = comes.held;
  holds = comes.holds;
  among = subst (λ (all : List ℕ). Contains all i) (sym comes.all) (Contains-append_right comes.front (refs ++ comes.behind) i (Contains-append_left refs comes.behind i among));
}

-- the path to an object leads to it
pub Begins-leads : (f before : List ℕ) (i nodes payload : ℕ) → Begins f before i nodes payload → Leads f before i
Begins-leads f [] i nodes payload begins = begins.0
Begins-leads f (j ∷ before) i nodes payload begins = (
  Comes-refers i begins.comes (0, (omega arith), refl),
  Begins-leads f before j begins.nodes_above begins.payload_above begins.above,
)

Begins-none_twice : (f before : List ℕ) (i nodes payload : ℕ) → Begins f before i nodes payload → NoneTwice before
Begins-none_twice f [] i nodes payload begins = tt
Begins-none_twice f (j ∷ before) i nodes payload begins =
    (begins.new, Begins-none_twice f before j begins.nodes_above begins.payload_above begins.above)

pub IsDue-none_twice : {f : List ℕ} {node : Node} {progress : Progress} → IsDue f node progress → NoneTwice (above node)
IsDue-none_twice {f} {node} due = Begins-none_twice f (above node) node.object due.begun.nodes due.begun.payload due.begun.begins

pub IsDue-leads : {f : List ℕ} {node : Node} {progress : Progress} → IsDue f node progress → Leads f (above node) node.object
IsDue-leads {f} {node} due = Begins-leads f (above node) node.object due.begun.nodes due.begun.payload due.begun.begins

pub AreDue-ends : {f : List ℕ} {container : Node} {refs : List ℕ} {progress : Progress} → IsLaid f → AreDue f container refs progress → EndsPath f container.object
AreDue-ends {f} {container} laid due =
    let begins = due.next.begins in
    record {
      laid = laid;
      before = above container;
      leads = Begins-leads f (above container) container.object begins.nodes_above begins.payload_above begins.above;
    }

-- the references of a container that was taken, after those to these values
AreNext-part : {f : List ℕ} {node : Node} {before left : Progress} (refs : List ℕ) (after : Budget) (vs : Items) → IsDue f node before → IsTaken f node before left → Comes f node.object refs vs → depth_of_items vs + 1 ≤ node.levels → Spends left.left (nodes_of_items vs) (payload_of_items vs) after → AreNext f (above node) node.object refs after
AreNext-part {left = left} refs after vs due taken comes deep spent =
    let entered : Spends limits (due.begun.nodes + 1) due.begun.payload left.left = Spends-then due.begun.spent taken.spent (omega arith) (omega arith) in
    record {
      nodes = due.begun.nodes + 1 + nodes_of_items vs;
      payload = due.begun.payload + payload_of_items vs;
      begins = record {
        nodes_above = due.begun.nodes;
        payload_above = due.begun.payload;
        above = due.begun.begins;
        new = taken.new;
        values = vs;
        comes = comes;
        deep = omega (arith, deep, due.depth);
        nodes_sum = refl;
        payload_sum = refl;
      };
      spent = Spends-then entered spent refl refl;
    }

pub AreNext-items : {f : List ℕ} {node : Node} {before left : Progress} (refs : List ℕ) → IsDue f node before → IsTaken f node before left → Holds f node.object (holds_list refs) → AreNext f (above node) node.object refs left.left
AreNext-items {left = left} refs due taken holds =
    AreNext-part refs left.left no_items due taken record { held = holds_list refs; holds = holds; front = []; behind = []; all = sym (append-nil refs); spell = refl; valid = tt } (omega (arith, taken.deep)) (Spends-none left.left)

pub AreNext-keys : {f : List ℕ} {node : Node} {before left : Progress} (keys values : List ℕ) → IsDue f node before → IsTaken f node before left → Holds f node.object (holds_table keys values) → AreNext f (above node) node.object keys left.left
AreNext-keys {left = left} keys values due taken holds =
    AreNext-part keys left.left no_items due taken record { held = holds_table keys values; holds = holds; front = []; behind = values; all = refl; spell = refl; valid = tt } (omega (arith, taken.deep)) (Spends-none left.left)

-- the values of a dictionary, after its keys
pub AreNext-values : {f : List ℕ} {node : Node} {before left : Progress} (keys values : List ℕ) (after : Budget) (vs : Items) → IsDue f node before → IsTaken f node before left → Holds f node.object (holds_table keys values) → ReadsItems f keys (node.levels - 1) left.left vs after → AreNext f (above node) node.object values after
AreNext-values keys values after vs due taken holds read =
    AreNext-part values after vs due taken record { held = holds_table keys values; holds = holds; front = keys; behind = []; all = ap (λ (l : List ℕ). keys ++ l) (sym (append-nil values)); spell = read.spell; valid = read.valid } (omega (arith, read.deep, taken.deep)) read.spent

-- the references before one of them, and those after it
around_next : (front refs behind : List ℕ) (k i : ℕ) → k < length refs → i ≡ slice_index refs k → front ++ (refs ++ behind) ≡ (front ++ take k refs) ++ i ∷ (drop (suc k) refs ++ behind)
around_next front refs behind k i within is =
    ap (λ (l : List ℕ). front ++ (l ++ behind)) (sym (around refs k i within is))
    ∙ ap (λ (l : List ℕ). front ++ l) (append_assoc (take k refs) (i ∷ drop (suc k) refs) behind)
    ∙ sym (append_assoc front (take k refs) (i ∷ (drop (suc k) refs ++ behind)))

-- the reference after those that were followed
pub IsBegun-next : {f : List ℕ} {container : Node} {refs : List ℕ} {before : Progress} (k i : ℕ) (after : Budget) (vs : Items) → AreDue f container refs before → k < length refs → i ≡ slice_index refs k → ReadsItems f (take k refs) (container.levels - 1) before.left vs after → IsBegun f (inside container) i after
IsBegun-next {f} {container} {refs} k i after vs due within is read =
    let begins = due.next.begins in
    let comes = begins.comes in
    let values = join begins.values vs in
    let before = above container in
    let nodes_sum = nodes-join begins.values vs in
    let payload_sum = payload-join begins.values vs in
    let deep : length before + 1 + depth_of_items values ≤ MAX_DEPTH = omega (arith, depth-join begins.values vs (MAX_DEPTH - (length before + 1)) (omega (arith, begins.deep)) (omega (arith, read.deep, due.depth)), begins.deep) in
    record {
      nodes = begins.nodes_above + 1 + nodes_of_items values;
      payload = begins.payload_above + payload_of_items values;
      begins = record {
        nodes_above = begins.nodes_above;
        payload_above = begins.payload_above;
        above = begins.above;
        new = begins.new;
        values = values;
        deep = deep;
        comes = record {
          held = comes.held;
          holds = comes.holds;
          front = comes.front ++ take k refs;
          behind = drop (suc k) refs ++ comes.behind;
          all = comes.all ∙ around_next comes.front refs comes.behind k i within is;
          spell = SpellItems-join f comes.front (take k refs) begins.values vs comes.spell read.spell;
          valid = AreItems-join begins.values vs comes.valid read.valid;
        };
        nodes_sum = refl;
        payload_sum = refl;
      };
      spent = Spends-then due.next.spent read.spent (omega (arith, begins.nodes_sum)) (omega (arith, begins.payload_sum));
    }
