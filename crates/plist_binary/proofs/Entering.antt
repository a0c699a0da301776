-- Why a node is refused. An object has fewer nodes than one that leads to it, so a cycle encodes
-- nothing.
use Rattle.std.proofs.Common.{◌≡◌, ℕ, ◌+◌, List, [], ◌∷◌, length, Err, sym, subst, suc, ◌≤◌, ⊎_elim, arith, ◌-◌}
use Rattle.std.specs.List.{Contains}
use Rattle.std.proofs.lemmas.List.Elements.{Contains-append_cases}
use Rattle.plist_value.specs.Plist.{Plist, scalar, list, table, Items, no_items, item, AreOctets, IsPlist, AreItems}
use Rattle.plist_value.specs.Limits.{nodes, nodes_of_items}
use Rattle.plist_value.proofs.Items.{some_depth}
use Rattle.plist_object.specs.declared.object.ObjectFault.{ObjectFault}
use Rattle.plist_object.specs.declared.object.ObjectFault.TheVariants as object
use Rattle.plist_object.specs.Layout.{IsLaid}
use Rattle.plist_object.specs.Objects.{Content, holds_scalar, holds_list, holds_table}
use Rattle.plist_object.specs.Places.{what_holds}
use Rattle.plist_object.specs.References.{references_of}
use Rattle.plist_object.specs.Spelled.{Spells, SpellItems}
use Rattle.plist_object.proofs.Ascending.{Among, Among-contains, Contains-among}
use Rattle.plist_object.proofs.HeldRanges.{Holds-held}
use Rattle.plist_object.proofs.Uniqueness.{same_held, same_value}
use Rattle.plist_binary.specs.declared.fault.BinaryFault.TheVariants.{Cycle, TooDeep, TooManyNodes}
use Rattle.plist_binary.specs.declared.progress.Progress.{Progress}
use Rattle.plist_binary.specs.declared.walker.Node.{Node}
use Rattle.plist_value.specs.declared.budget.Budget.{Budget}
use Rattle.plist_binary.specs.Begins.{Begins}
use Rattle.plist_binary.specs.Budgets.{limits}
use Rattle.plist_binary.specs.Codes.{of_object}
use Rattle.plist_binary.specs.Faults.{IsFaulty, StandsWithin}
use Rattle.plist_binary.specs.Paths.{Refers, Leads}
use Rattle.plist_binary.specs.Progress.{IsDue, RefusesNode, above}
use Rattle.plist_binary.specs.Readings.{Refuses}
use Rattle.plist_binary.proofs.Beginning.{IsDue-leads, IsDue-none_twice}
use Rattle.plist_binary.proofs.Inserting.{PairsSpelled-held}
use Rattle.plist_binary.proofs.ItemSteps.{Spells-held}
use Rattle.plist_binary.proofs.TableSteps.{sums, unsort}
use Rattle.plist_binary.specs.Readings.{texts}
use Rattle.plist_value.specs.View.{items_of}
use Rattle.plist_value.specs.Limits.{depth_of_pairs}

-- the object encodes a value of at most this many nodes
pub record SpellsBelow (f : List ℕ) (i most : ℕ) : Type 0 where
  pub value : Plist
  pub valid : IsPlist value
  pub spells : Spells f i value
  pub few : nodes value ≤ most

wider : (f : List ℕ) (i few most : ℕ) → few ≤ most → SpellsBelow f i few → SpellsBelow f i most
wider f i few most h below = record {
  value = below.value;
  valid = below.valid;
  spells = below.spells;
  few = omega (arith, below.few);
}

among_items : (f : List ℕ) (i : ℕ) (refs : List ℕ) (vs : Items) → AreItems vs → SpellItems f refs vs → Among i refs → SpellsBelow f i (nodes_of_items vs)
among_items f i [] vs valid spell among = absurd among
among_items f i (j ∷ refs) no_items valid spell among =
    absurd (let none : j ∷ refs ≡ [] = spell in cc)
among_items f i (j ∷ refs) (item v vs) valid spell among =
    ⊎_elim
    (λ (same : i ≡ j). record {
      value = v;
      valid = valid.0;
      spells = subst (λ (k : ℕ). Spells f k v) (sym same) spell.0;
      few = omega arith;
    })
    (λ (later : Among i refs). wider f i (nodes_of_items vs) (nodes v + nodes_of_items vs) (omega arith) (among_items f i refs vs valid.1 spell.1 later))
    among

-- an object that refers to i encodes more than i does
pub descends : (f : List ℕ) → AreOctets f → (j i : ℕ) (v : Plist) → IsPlist v → Spells f j v → Refers f j i → (most : ℕ) → nodes v ≤ suc most → SpellsBelow f i most
descends f octets j i (scalar s) valid spells refers most few =
    let held = same_held f j refers.held (holds_scalar s) refers.holds spells in
    absurd (Among-contains i [] (subst (λ (h : Content). Contains (references_of h) i) held refers.among))
descends f octets j i (list vs) valid spells refers most few =
    let held = same_held f j refers.held (holds_list spells.0) refers.holds spells.1.0 in
    let among = Among-contains i spells.0 (subst (λ (h : Content). Contains (references_of h) i) held refers.among) in
    wider f i (nodes_of_items vs) most (omega arith) (among_items f i spells.0 vs valid spells.1.1 among)
descends f octets j i (table ps) valid spells refers most few =
    let keys = spells.0 in
    let values = spells.1.0 in
    let holds = spells.1.1.1.0 in
    let long : length keys ≡ length values = Holds-held f j (holds_table keys values) octets holds in
    let held = same_held f j refers.held (holds_table keys values) refers.holds holds in
    let among = subst (λ (h : Content). Contains (references_of h) i) held refers.among in
    let spelled = PairsSpelled-held f keys values j ps holds valid spells in
    let apart = unsort f keys values (depth_of_pairs ps) ps long spelled (omega arith) in
    let sum = sums ps long spelled apart in
    ⊎_elim
    (λ (at : Contains keys i). wider f i (nodes_of_items (texts apart.us)) most (omega (arith, sum.0)) (among_items f i keys (texts apart.us) apart.valid_keys apart.spell_keys (Among-contains i keys at)))
    (λ (at : Contains values i). wider f i (nodes_of_items (items_of apart.vs)) most (omega (arith, sum.0)) (among_items f i values (items_of apart.vs) apart.valid_values apart.spell_values (Among-contains i values at)))
    (Contains-append_cases keys values i among)

some_node : (v : Plist) → 1 ≤ nodes v
some_node (scalar s) = omega arith
some_node _ = omega arith

-- an object on the path to i encodes more than i does
path_descends : (f containers : List ℕ) → AreOctets f → (i j : ℕ) (v : Plist) → IsPlist v → Spells f j v → Leads f containers i → Among j containers → (most : ℕ) → nodes v ≤ suc most → SpellsBelow f i most
path_descends f [] octets i j v valid spells leads among most few = absurd among
path_descends f (c ∷ containers) octets i j v valid spells leads among most few =
    ⊎_elim
    (λ (same : j ≡ c).
    descends f octets c i v valid (subst (λ (k : ℕ). Spells f k v) same spells) leads.0 most few)
    (λ (later : Among j containers).
    let above = path_descends f containers octets c j v valid spells leads.1 later most few in
    descends f octets c i above.value above.valid above.spells leads.0 most (omega (arith, above.few)))
    among

-- an object on its own path encodes nothing
cycle_spells_none : (f containers : List ℕ) → AreOctets f → (i : ℕ) (v : Plist) → Leads f containers i → Among i containers → IsPlist v → Spells f i v → ⊥
cycle_spells_none f containers octets i v leads among valid spells =
    let some = some_node v in
    let few : nodes v ≤ suc (nodes v - 1) = omega arith in
    let below = path_descends f containers octets i i v valid spells leads among (nodes v - 1) few in
    let same = same_value f i v below.value valid below.valid spells below.spells in
    let fewer : nodes v ≤ nodes v - 1 = subst (λ (w : Plist). nodes w ≤ nodes v - 1) (sym same) below.few in
    omega arith

pub Refuses-cycle : (f before : List ℕ) (container i levels : ℕ) (left : Budget) → IsLaid f → AreOctets f → Leads f (container ∷ before) i → Among i (container ∷ before) → Refuses f i levels left (Cycle container)
Refuses-cycle f before container i levels left laid octets leads among = record {
  stands = record {
    ends = record { laid = laid; before = before; leads = leads.1 };
    reference = i;
    refers = leads.0;
    on_path = Contains-among i (container ∷ before) among;
  };
  none = λ _ v valid spells deep affords. cycle_spells_none f (container ∷ before) octets i v leads among valid spells;
}

pub Refuses-nodes : {f : List ℕ} {node : Node} {before : Progress} → IsLaid f → IsDue f node before → ¬ Contains (above node) node.object → before.left.nodes ≡ 0 → RefusesNode f node before (TooManyNodes node.object)
Refuses-nodes {f} {node} laid due new none_left =
    let begun = due.begun in
    let all : begun.nodes ≡ limits.nodes = omega (arith, begun.spent.nodes_left) in
    record {
      stands = record {
        laid = laid;
        listed = due.listed;
        before = above node;
        payload = begun.payload;
        begins = subst (λ (n : ℕ). Begins f (above node) node.object n begun.payload) all begun.begins;
        new = new;
        within = omega (arith, begun.spent.payload_left);
      };
      none = λ _ v valid spells deep affords. omega (arith, some_node v, affords.nodes_there);
    }

pub Refuses-depth : {f : List ℕ} {node : Node} {before : Progress} → IsLaid f → IsDue f node before → ¬ Contains (above node) node.object → node.levels ≡ 0 → RefusesNode f node before (TooDeep node.object)
Refuses-depth {node = node} laid due new none_left = record {
  stands = record {
    ends = record { laid = laid; before = above node; leads = IsDue-leads due };
    acyclic = (new, IsDue-none_twice due);
    long = omega (arith, due.depth);
  };
  none = λ _ v valid spells deep affords. omega (arith, some_depth v);
}

faulty_spells_none : (f : List ℕ) (i : ℕ) (e : ObjectFault) (v : Plist) → what_holds f i ≡ Err e → Spells f i v → ⊥
faulty_spells_none f i e v fails spells =
    let held = Spells-held f i v spells in
    let reads = held.1.reads in
    cc

stands-of_object : (f : List ℕ) (i nodes payload : ℕ) (e : ObjectFault) → IsFaulty f i e → StandsWithin f nodes payload (of_object i e)
stands-of_object f i nodes payload object.BadOffset faulty = faulty
stands-of_object f i nodes payload _ faulty = faulty

pub Refuses-object : {f : List ℕ} {node : Node} {before : Progress} (e : ObjectFault) → IsLaid f → IsDue f node before → what_holds f node.object ≡ Err e → RefusesNode f node before (of_object node.object e)
Refuses-object {f} {node} e laid due fails = record {
  stands = stands-of_object f node.object _ _ e (record { ends = record { laid = laid; before = above node; leads = IsDue-leads due }; listed = due.listed; fails = fails });
  none = λ _ v valid spells deep affords. faulty_spells_none f node.object e v fails spells;
}
