-- What an object encodes, from what its content, its items or its pairs took of the budget.
use Rattle.std.proofs.Common.{◌≡◌, ℕ, ◌-◌, ◌<◌, ◌≤◌, List, Bool, ◌∙◌, ap, subst, arith, ◌∷◌, refl, true, false, sym, ⊎_elim, inl, inr}
use Rattle.std.specs.Prelude.{◌≢◌, ◌&&◌}
use Rattle.std.specs.List.{Contains}
use Rattle.std.proofs.Math.Dec.{eqb}
use Rattle.std.proofs.lemmas.Bool.{and_parts}
use Rattle.std.proofs.lemmas.Bool.Decides.{eqb_tells}
use Rattle.plist_value.specs.Plist.{Scalar, Plist, scalar, list, table, Items, Pairs, IsScalar, IsPlist}
use Rattle.plist_value.specs.Limits.{nodes, depth, payload, payload_of_scalar}
use Rattle.plist_value.specs.declared.budget.Budget.{Budget}
use Rattle.plist_value.specs.Budget.{Spends, Affords}
use Rattle.plist_object.specs.Layout.{IsLaid}
use Rattle.plist_object.specs.Objects.{holds_scalar, holds_list, holds_table}
use Rattle.plist_object.specs.Places.{Holds}
use Rattle.plist_object.specs.Spelled.{Spells, SpellItems}
use Rattle.plist_object.proofs.Ascending.{Among, Contains-among, Among-contains}
use Rattle.plist_object.proofs.Uniqueness.{same_held}
use Rattle.plist_binary.specs.declared.fault.BinaryFault.{BinaryFault}
use Rattle.plist_binary.specs.declared.fault.BinaryFault.TheVariants.{TooMuchPayload, OutOfMemory}
use Rattle.plist_binary.specs.declared.progress.Progress.{Progress}
use Rattle.plist_binary.specs.declared.states.ObjectState.{ObjectState}
use Rattle.plist_binary.specs.declared.states.ObjectState.TheVariants.{Unseen, Open, Passed, Key}
use Rattle.plist_binary.specs.declared.walker.Node.{Node}
use Rattle.plist_binary.specs.Begins.{payload_read}
use Rattle.plist_binary.specs.Passing.{IsWithinLimits}
use Rattle.plist_binary.specs.Progress.{IsProgress, IsProgressBut, IsDue, IsTaken, RefusesNode, above}
use Rattle.plist_binary.specs.Readings.{Reads, ReadsItems, RefusesItems, ReadsPairs, RefusesPairs}
use Rattle.plist_binary.specs.States.{IsState, state_at_object, AreStates, AreStatesBut, IsRecorded}
use Rattle.plist_binary.proofs.Inserting.{PairsSpelled-held}
use Rattle.plist_binary.proofs.ItemSteps.{Spends-then, Affords-rest}

pub Reads-scalar : {f : List ℕ} {node : Node} {before left : Progress} (after : Budget) (s : Scalar) → Holds f node.object (holds_scalar s) → IsScalar s → IsTaken f node before left → Spends left.left 0 (payload_of_scalar s) after → Reads f node.object node.levels before.left (scalar s) after
Reads-scalar after s holds valid taken spent = record {
  spells = holds;
  valid = valid;
  deep = taken.deep;
  spent = Spends-then taken.spent spent (omega arith) (omega arith);
}

scalar_refused : (f : List ℕ) (i : ℕ) (before left : Budget) (s : Scalar) (v : Plist) → Holds f i (holds_scalar s) → Spends before 1 0 left → left.payload < payload_of_scalar s → Spells f i v → Affords before (nodes v) (payload v) → ⊥
scalar_refused f i before left s (scalar t) holds node over spells affords =
    let held = same_held f i (holds_scalar s) (holds_scalar t) holds spells in
    let same : s ≡ t = cc in
    let over_t : left.payload < payload_of_scalar t = subst (λ (u : Scalar). left.payload < payload_of_scalar u) same over in
    omega (arith, node.payload_left, affords.payload_there)
scalar_refused f i before left s (list ws) holds node over spells affords =
    let held = same_held f i (holds_scalar s) (holds_list spells.0) holds spells.1.0 in cc
scalar_refused f i before left s (table ps) holds node over spells affords =
    let held = same_held f i (holds_scalar s) (holds_table spells.0 spells.1.0) holds spells.1.1.1.0 in cc

pub Refuses-payload : {f : List ℕ} {node : Node} {before left : Progress} (s : Scalar) → IsLaid f → IsDue f node before → IsTaken f node before left → Holds f node.object (holds_scalar s) → left.left.payload < payload_of_scalar s → RefusesNode f node before (TooMuchPayload node.object)
Refuses-payload {f} {node} {before} {left} s laid due taken holds over =
    let payload_is = ap payload_read holds.reads in
    let spent = due.begun.spent in
    record {
      stands = record {
        laid = laid;
        listed = due.listed;
        before = above node;
        nodes = due.begun.nodes;
        payload = due.begun.payload;
        begins = due.begun.begins;
        shallow = omega (arith, due.depth, taken.deep);
        fewer = omega (arith, spent.nodes_left, taken.spent.nodes_left);
        within = omega (arith, spent.payload_left);
        above = omega (arith, spent.payload_left, taken.spent.payload_left, payload_is);
      };
      none = λ _ v valid spells deep affords. scalar_refused f node.object before.left left.left s v holds taken.spent over spells affords;
    }

-- an array, from its items, which may be one level less deep
pub Reads-list : {f : List ℕ} {node : Node} {before left : Progress} (refs : List ℕ) (after : Budget) (vs : Items) → Holds f node.object (holds_list refs) → IsTaken f node before left → ReadsItems f refs (node.levels - 1) left.left vs after → Reads f node.object node.levels before.left (list vs) after
Reads-list refs after vs holds taken items = record {
  spells = (refs, (holds, items.spell));
  valid = items.valid;
  deep = omega (arith, items.deep, taken.deep);
  spent = Spends-then taken.spent items.spent (omega arith) (omega arith);
}

list_refused : (f refs : List ℕ) (i levels : ℕ) (before left : Budget) (fault : BinaryFault) (v : Plist) → Holds f i (holds_list refs) → Spends before 1 0 left → RefusesItems f refs (levels - 1) left fault → (fault ≡ OutOfMemory → ⊥) → IsPlist v → Spells f i v → depth v ≤ levels → Affords before (nodes v) (payload v) → ⊥
list_refused f refs i levels before left fault (scalar s) holds node refused unless valid spells deep affords =
    let held = same_held f i (holds_list refs) (holds_scalar s) holds spells in cc
list_refused f refs i levels before left fault (list ws) holds node refused unless valid spells deep affords =
    let held = same_held f i (holds_list refs) (holds_list spells.0) holds spells.1.0 in
    let same : spells.0 ≡ refs = cc in
    refused.none unless ws valid (subst (λ (r : List ℕ). SpellItems f r ws) same spells.1.1) (omega arith) (Affords-rest node affords (omega arith) (omega arith))
list_refused f refs i levels before left fault (table ps) holds node refused unless valid spells deep affords =
    let held = same_held f i (holds_list refs) (holds_table spells.0 spells.1.0) holds spells.1.1.1.0 in cc

pub Refuses-list : {f : List ℕ} {node : Node} {before left : Progress} {fault : BinaryFault} (refs : List ℕ) → Holds f node.object (holds_list refs) → IsTaken f node before left → RefusesItems f refs (node.levels - 1) left.left fault → RefusesNode f node before fault
Refuses-list {f} {node} {before} {left} {fault} refs holds taken refused = record {
  stands = refused.stands;
  none = λ unless v valid spells deep affords. list_refused f refs node.object node.levels before.left left.left fault v holds taken.spent refused unless valid spells deep affords;
}

-- a dictionary, from its pairs, which may be one level less deep
pub Reads-table : {f : List ℕ} {node : Node} {before left : Progress} (keys values : List ℕ) (after : Budget) (ps : Pairs) → Holds f node.object (holds_table keys values) → IsTaken f node before left → ReadsPairs f keys values (node.levels - 1) left.left ps after → Reads f node.object node.levels before.left (table ps) after
Reads-table keys values after ps holds taken pairs = record {
  spells = (keys, (values, (pairs.spelled.rows, (holds, (pairs.spelled.moved, pairs.spelled.spell)))));
  valid = pairs.spelled.valid;
  deep = omega (arith, pairs.deep, taken.deep);
  spent = Spends-then taken.spent pairs.spent (omega arith) (omega arith);
}

table_refused : (f keys values : List ℕ) (i levels : ℕ) (before left : Budget) (fault : BinaryFault) (v : Plist) → Holds f i (holds_table keys values) → Spends before 1 0 left → RefusesPairs f keys values (levels - 1) left fault → (fault ≡ OutOfMemory → ⊥) → IsPlist v → Spells f i v → depth v ≤ levels → Affords before (nodes v) (payload v) → ⊥
table_refused f keys values i levels before left fault (scalar s) holds node refused unless valid spells deep affords =
    let held = same_held f i (holds_table keys values) (holds_scalar s) holds spells in cc
table_refused f keys values i levels before left fault (list ws) holds node refused unless valid spells deep affords =
    let held = same_held f i (holds_table keys values) (holds_list spells.0) holds spells.1.0 in cc
table_refused f keys values i levels before left fault (table ps) holds node refused unless valid spells deep affords =
    refused.none unless ps (PairsSpelled-held f keys values i ps holds valid spells) (omega arith) (Affords-rest node affords (omega arith) (omega arith))

pub Refuses-table : {f : List ℕ} {node : Node} {before left : Progress} {fault : BinaryFault} (keys values : List ℕ) → Holds f node.object (holds_table keys values) → IsTaken f node before left → RefusesPairs f keys values (node.levels - 1) left.left fault → RefusesNode f node before fault
Refuses-table {f} {node} {before} {left} {fault} keys values holds taken refused = record {
  stands = refused.stands;
  none = λ unless v valid spells deep affords. table_refused f keys values node.object node.levels before.left left.left fault v holds taken.spent refused unless valid spells deep affords;
}

-- What is known of the objects of a file, after one of them is marked.

-- a longer path
wider : (f path : List ℕ) (all : Bool) (j i : ℕ) (state : ObjectState) → IsState f path all i state → IsState f (j ∷ path) all i state
wider f path all j i Unseen is = tt
wider f path all j i Open is = Contains-among i (j ∷ path) (inr (Among-contains i path is))
wider f path all j i _ is = is

-- another container on the path is one before the last
earlier : (i j : ℕ) (path : List ℕ) → i ≢ j → Contains (j ∷ path) i → Contains path i
earlier i j path apart among =
    ⊎_elim
    (λ (same : i ≡ j). absurd (apart same))
    (λ (later : Among i path). Contains-among i path later)
    (Among-contains i (j ∷ path) among)

-- a path without its last container, for another object
narrower : (f path : List ℕ) (all : Bool) (j i : ℕ) (state : ObjectState) → i ≢ j → IsState f (j ∷ path) all i state → IsState f path all i state
narrower f path all j i Unseen apart is = tt
narrower f path all j i Open apart is = earlier i j path apart is
narrower f path all j i _ apart is = is

-- fewer values are said to be writable
weaker : (f path : List ℕ) (all more : Bool) (i : ℕ) (state : ObjectState) → IsState f path all i state → IsState f path (all && more) i state
weaker f path all more i (Passed deep n size) is = record {
  value = is.value;
  spells = is.spells;
  valid = is.valid;
  nodes_are = is.nodes_are;
  payload_is = is.payload_is;
  deep = is.deep;
  writable = λ both. is.writable (and_parts all more both).0;
}
weaker f path all more i Unseen is = tt
weaker f path all more i Open is = is
weaker f path all more i (Key size) is = is

-- the object itself, or another one
marked : (P : ℕ → ObjectState → Type 0) (before after : List ObjectState) (j : ℕ) (state : ObjectState) (i : ℕ) → IsRecorded before j state after → P j state → (i ≢ j → P i (state_at_object before i)) → P i (state_at_object after i)
marked P before after j state i mark here there =
    ⊎_elim
    (λ (same : (eqb i j ≡ true) × (i ≡ j)).
    subst (λ (n : ℕ). P n (state_at_object after n)) (sym same.1) (subst (P j) (sym mark.here) here))
    (λ (apart : (eqb i j ≡ false) × (i ≢ j)).
    subst (P i) (sym (mark.elsewhere i apart.1)) (there apart.1))
    (eqb_tells i j)

-- the container is opened
pub AreStates-open : {f path : List ℕ} {all : Bool} {before after : List ObjectState} (j : ℕ) → IsRecorded before j Open after → AreStates f path all before → AreStates f (j ∷ path) all after
AreStates-open {f} {path} {all} {before} {after} j mark are = record {
  each = λ i. marked (IsState f (j ∷ path) all) before after j Open i mark (Contains-among j (j ∷ path) (inl refl)) (λ _. wider f path all j i (state_at_object before i) (are.each i));
  opened = λ i among. ⊎_elim
      (λ (same : (eqb i j ≡ true) × (i ≡ j)). subst (λ (n : ℕ). state_at_object after n ≡ Open) (sym same.1) mark.here)
      (λ (apart : (eqb i j ≡ false) × (i ≢ j)).
      mark.elsewhere i apart.1 ∙ are.opened i (earlier i j path apart.1 among))
      (eqb_tells i j);
}

-- the object was visited, and is not on the path
pub AreStates-visited : {f path : List ℕ} {all : Bool} {before after : List ObjectState} (j : ℕ) (state : ObjectState) → IsRecorded before j state after → IsState f path all j state → ¬ Contains path j → AreStatesBut f path all j before → AreStates f path all after
AreStates-visited {f} {path} {all} {before} {after} j state mark is new are = record {
  each = λ i. marked (IsState f path all) before after j state i mark is (are.each i);
  opened = λ i among.
      let apart : i ≢ j = λ same. new (subst (Contains path) same among) in
      mark.elsewhere i apart ∙ are.opened i apart among;
}

-- what is known of all objects is known of all but one
pub AreStates-but : {f path : List ℕ} {all : Bool} {states : List ObjectState} (j : ℕ) → AreStates f path all states → AreStatesBut f path all j states
AreStates-but j are = record { each = λ i _. are.each i; opened = λ i _ among. are.opened i among }

pub AreStates-weaker : {f path : List ℕ} {all : Bool} {states : List ObjectState} (more : Bool) → AreStates f path all states → AreStates f path (all && more) states
AreStates-weaker {f} {path} {all} {states} more are = record {
  each = λ i. weaker f path all more i (state_at_object states i) (are.each i);
  opened = are.opened;
}

-- after the content of the last container, whose own state is not known yet
pub IsProgress-last : {f path : List ℕ} {j : ℕ} {progress : Progress} → ¬ Contains path j → IsProgress f (j ∷ path) progress → IsProgressBut f path j progress
IsProgress-last {f} {path} {j} {progress} new so_far = record {
  new = new;
  states = record {
    each = λ i apart. narrower f path progress.writable j i (state_at_object progress.states.items i) apart (so_far.states.each i);
    opened = λ i apart among. so_far.states.opened i (Contains-among i (j ∷ path) (inr (Among-contains i path among)));
  };
  ready = so_far.ready;
  within = so_far.within;
}

-- what is left of a budget within the limits is within them
pub IsWithinLimits-spent : {before after : Budget} {n p : ℕ} → IsWithinLimits before → Spends before n p after → IsWithinLimits after
IsWithinLimits-spent within spent = record {
  nodes_most = omega (arith, within.nodes_most, spent.nodes_left);
  payload_most = omega (arith, within.payload_most, spent.payload_left);
}

-- an open object is on the path
pub Open-among : {f path : List ℕ} {all : Bool} {states : List ObjectState} (i : ℕ) → AreStates f path all states → state_at_object states i ≡ Open → Among i path
Open-among {f} {path} {all} i are is =
    Among-contains i path (subst (IsState f path all i) is (are.each i))
