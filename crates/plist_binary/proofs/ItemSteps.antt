-- The items and keys that references point to, and the first of them that is refused.
use Rattle.std.proofs.Common.{ℕ, List, ◌≡◌, ◌+◌, ◌≤◌, [], ◌∷◌, ◌++◌, refl, arith, ◌<◌, subst, ◌*◌, length, sym, ap, suc, take, drop, drop-cons, slice_index, ◌∙◌}
use Rattle.plist_value.specs.Plist.{Plist, scalar, list, table, Items, no_items, item, AreItems, IsPlist, text}
use Rattle.plist_object.specs.Objects.{Content, holds_scalar, holds_list, holds_table}
use Rattle.plist_object.specs.Places.{Holds}
use Rattle.plist_object.specs.Spelled.{Spells, SpellItems}
use Rattle.plist_value.specs.Limits.{nodes_of_items, depth_of_items, payload_of_items, nodes, depth, payload}
use Rattle.plist_value.proofs.Items.{push, AreItems-push, nodes-push, payload-push, depth-push}
use Rattle.plist_object.specs.Layout.{trailer_of}
use Rattle.plist_object.proofs.Uniqueness.{same_items, same_held}
use Rattle.plist_value.specs.declared.budget.Budget.{Budget}
use Rattle.plist_binary.specs.declared.fault.BinaryFault.{BinaryFault}
use Rattle.plist_binary.specs.declared.fault.BinaryFault.TheVariants.{BadReference, KeyNotText}
use Rattle.plist_value.specs.Budget.{Spends, Affords}
use Rattle.plist_binary.specs.Paths.{EndsPath, Refers, IsKeyOf}
use Rattle.plist_binary.specs.Readings.{Reads, Refuses, ReadsItems, RefusesItems, texts, RefusesKey, RefusesKeys}
use Rattle.plist_binary.specs.Faults.{IsText}
use Rattle.std.proofs.lemmas.List.{take_more, take-append-drop, get_or_default}
use Rattle.std.specs.List.{Contains}

-- an object that encodes a value can be decoded
pub Spells-held : (f : List ℕ) (i : ℕ) (v : Plist) → Spells f i v → (held : Content) × Holds f i held
Spells-held f i (scalar s) spells = (holds_scalar s, spells)
Spells-held f i (list vs) spells = (holds_list spells.0, spells.1.0)
Spells-held f i (table ps) spells = (holds_table spells.0 spells.1.0, spells.1.1.1.0)

-- The items that references point to: one more, and one list after another.

pub SpellItems-push : (f xs : List ℕ) (vs : Items) (i : ℕ) (v : Plist) → SpellItems f xs vs → Spells f i v → SpellItems f (xs ++ i ∷ []) (push vs v)
SpellItems-push f [] no_items i v spell one = (one, refl)
SpellItems-push f (x ∷ xs) no_items i v spell one = absurd (let none : x ∷ xs ≡ [] = spell in cc)
SpellItems-push f [] (item w vs) i v spell one = absurd spell
SpellItems-push f (x ∷ xs) (item w vs) i v spell one =
    (spell.0, SpellItems-push f xs vs i v spell.1 one)

-- the items, followed by others
abbrev pub join : Items → Items → Items
join no_items ws = ws
join (item v vs) ws = item v (join vs ws)

pub SpellItems-join : (f xs ys : List ℕ) (vs ws : Items) → SpellItems f xs vs → SpellItems f ys ws → SpellItems f (xs ++ ys) (join vs ws)
SpellItems-join f [] ys no_items ws spell others = others
SpellItems-join f (x ∷ xs) ys no_items ws spell others =
    absurd (let none : x ∷ xs ≡ [] = spell in cc)
SpellItems-join f [] ys (item v vs) ws spell others = absurd spell
SpellItems-join f (x ∷ xs) ys (item v vs) ws spell others =
    (spell.0, SpellItems-join f xs ys vs ws spell.1 others)

pub AreItems-join : (vs ws : Items) → AreItems vs → AreItems ws → AreItems (join vs ws)
AreItems-join no_items ws valid others = others
AreItems-join (item v vs) ws valid others = (valid.0, AreItems-join vs ws valid.1 others)

pub nodes-join : (vs ws : Items) → nodes_of_items (join vs ws) ≡ nodes_of_items vs + nodes_of_items ws
nodes-join no_items ws = omega arith
nodes-join (item v vs) ws = omega (arith, nodes-join vs ws)

pub payload-join : (vs ws : Items) → payload_of_items (join vs ws) ≡ payload_of_items vs + payload_of_items ws
payload-join no_items ws = omega arith
payload-join (item v vs) ws = omega (arith, payload-join vs ws)

pub depth-join : (vs ws : Items) (most : ℕ) → depth_of_items vs ≤ most → depth_of_items ws ≤ most → depth_of_items (join vs ws) ≤ most
depth-join no_items ws most deep others = others
depth-join (item v vs) ws most deep others = omega (arith, depth-join vs ws most (omega (arith, deep)) others, deep)

-- the items of two lists of references, taken apart
pub record Parts (f xs ys : List ℕ) (ws : Items) : Type 0 where
  pub front : Items
  pub back : Items
  pub spell_front : SpellItems f xs front
  pub spell_back : SpellItems f ys back
  pub valid_front : AreItems front
  pub valid_back : AreItems back
  pub nodes_sum : nodes_of_items ws ≡ nodes_of_items front + nodes_of_items back
  pub payload_sum : payload_of_items ws ≡ payload_of_items front + payload_of_items back
  pub deep_back : depth_of_items back ≤ depth_of_items ws

unfoldable pub take_apart : (f xs ys : List ℕ) (ws : Items) → SpellItems f (xs ++ ys) ws → AreItems ws → Parts f xs ys ws
take_apart f [] ys ws spell valid = record {
  front = no_items;
  back = ws;
  spell_front = refl;
  spell_back = spell;
  valid_front = tt;
  valid_back = valid;
  nodes_sum = omega arith;
  payload_sum = omega arith;
  deep_back = omega arith;
}
take_apart f (x ∷ xs) ys no_items spell valid =
    absurd (let none : x ∷ (xs ++ ys) ≡ [] = spell in cc)
take_apart f (x ∷ xs) ys (item w ws) spell valid =
    let rest = take_apart f xs ys ws spell.1 valid.1 in
    record {
      front = item w rest.front;
      back = rest.back;
      spell_front = (spell.0, rest.spell_front);
      spell_back = rest.spell_back;
      valid_front = (valid.0, rest.valid_front);
      valid_back = rest.valid_back;
      nodes_sum = omega (arith, rest.nodes_sum);
      payload_sum = omega (arith, rest.payload_sum);
      deep_back = omega (arith, rest.deep_back);
    }

-- what two parts take of a budget, one after the other
pub Spends-then : {before mid after : Budget} {n p m q nodes payload : ℕ} → Spends before n p mid → Spends mid m q after → nodes ≡ n + m → payload ≡ p + q → Spends before nodes payload after
Spends-then first second nodes_sum payload_sum = record {
  nodes_left = omega (arith, first.nodes_left, second.nodes_left);
  payload_left = omega (arith, first.payload_left, second.payload_left);
}

pub Spends-none : (left : Budget) → Spends left 0 0 left
Spends-none left = record { nodes_left = omega arith; payload_left = omega arith }

-- what fits in a budget still does after a part of it was taken
pub Affords-rest : {before left : Budget} {n p nodes payload most load : ℕ} → Spends before n p left → Affords before most load → n + nodes ≤ most → p + payload ≤ load → Affords left nodes payload
Affords-rest spent affords few small = record {
  nodes_there = omega (arith, spent.nodes_left, affords.nodes_there);
  payload_there = omega (arith, spent.payload_left, affords.payload_there);
}

-- The items of a container, reference by reference.

pub ReadsItems-push : (f refs : List ℕ) (i levels : ℕ) (before left after : Budget) (vs : Items) (v : Plist) → i < (trailer_of f).count → ReadsItems f refs levels before vs left → Reads f i levels left v after → ReadsItems f (refs ++ i ∷ []) levels before (push vs v) after
ReadsItems-push f refs i levels before left after vs v listed items one =
    record {
      spell = SpellItems-push f refs vs i v items.spell one.spells;
      valid = AreItems-push vs v items.valid one.valid;
      deep = depth-push vs v levels items.deep one.deep;
      spent = Spends-then items.spent one.spent (nodes-push vs v) (payload-push vs v);
    }

-- no items that these references point to fit
abbrev Misfit : List ℕ → ℕ → List ℕ → Budget → Items → Type 0
Misfit f levels refs left ws =
    SpellItems f refs ws → AreItems ws → depth_of_items ws ≤ levels → Affords left (nodes_of_items ws) (payload_of_items ws) → ⊥

first_refused : (f : List ℕ) (i : ℕ) (rest : List ℕ) (levels : ℕ) (left : Budget) (ws : Items) → ((v : Plist) → IsPlist v → Spells f i v → depth v ≤ levels → Affords left (nodes v) (payload v) → ⊥) → Misfit f levels (i ∷ rest) left ws
first_refused f i rest levels left no_items none spell valid deep affords =
    let empty : i ∷ rest ≡ [] = spell in cc
first_refused f i rest levels left (item w ws) none spell valid deep affords =
    none w valid.0 spell.0 (omega arith) (Affords-rest (Spends-none left) affords (omega arith) (omega arith))

-- the references before i point to what was read, and those from i on to nothing that fits
refused_at : (f refs : List ℕ) (i : ℕ) (rest : List ℕ) (levels : ℕ) (before left : Budget) (vs ws : Items) → ReadsItems f refs levels before vs left → (valid : AreItems ws) (spell : SpellItems f (refs ++ i ∷ rest) ws) → depth_of_items ws ≤ levels → Affords before (nodes_of_items ws) (payload_of_items ws) → Misfit f levels (i ∷ rest) left (take_apart f refs (i ∷ rest) ws spell valid).back → ⊥
refused_at f refs i rest levels before left vs ws items valid spell deep affords none =
    let parts = take_apart f refs (i ∷ rest) ws spell valid in
    let same = same_items f refs parts.front vs parts.valid_front items.valid parts.spell_front items.spell in
    let nodes_sum : nodes_of_items ws ≡ nodes_of_items vs + nodes_of_items parts.back = subst (λ (us : Items). nodes_of_items ws ≡ nodes_of_items us + nodes_of_items parts.back) same parts.nodes_sum in
    let payload_sum : payload_of_items ws ≡ payload_of_items vs + payload_of_items parts.back = subst (λ (us : Items). payload_of_items ws ≡ payload_of_items us + payload_of_items parts.back) same parts.payload_sum in
    none parts.spell_back parts.valid_back (omega (arith, parts.deep_back)) (Affords-rest items.spent affords (omega arith) (omega arith))

-- if one reference points to nothing that fits, the items do not fit
pub RefusesItems-at : (f refs : List ℕ) (i : ℕ) (rest : List ℕ) (levels : ℕ) (before left : Budget) (vs : Items) (fault : BinaryFault) → i < (trailer_of f).count → ReadsItems f refs levels before vs left → Refuses f i levels left fault → RefusesItems f (refs ++ i ∷ rest) levels before fault
RefusesItems-at f refs i rest levels before left vs fault listed items one =
    record {
      stands = one.stands;
      none = λ unless ws valid spell deep affords. refused_at f refs i rest levels before left vs ws items valid spell deep affords (first_refused f i rest levels left (take_apart f refs (i ∷ rest) ws spell valid).back (one.none unless));
    }

first_nowhere : (f : List ℕ) (i : ℕ) (rest : List ℕ) (ws : Items) → (trailer_of f).count ≤ i → SpellItems f (i ∷ rest) ws → ⊥
first_nowhere f i rest no_items above spell = let empty : i ∷ rest ≡ [] = spell in cc
first_nowhere f i rest (item w ws) above spell =
    let held = Spells-held f i w spell.0 in
    omega (arith, held.1.listed)

-- a reference to no object
pub RefusesItems-nowhere : (f refs : List ℕ) (container i : ℕ) (rest : List ℕ) (levels : ℕ) (left : Budget) → EndsPath f container → Refers f container i → (trailer_of f).count ≤ i → RefusesItems f (refs ++ i ∷ rest) levels left (BadReference container)
RefusesItems-nowhere f refs container i rest levels left ends refers above = record {
  stands = record { ends = ends; reference = i; refers = refers; above = above };
  none = λ _ ws valid spell deep affords.
      let parts = take_apart f refs (i ∷ rest) ws spell valid in
      first_nowhere f i rest parts.back above parts.spell_back;
}

-- The keys of a dictionary, reference by reference.

-- what refuses every value refuses every string
pub RefusesKey-value : (f : List ℕ) (i levels : ℕ) (left : Budget) (fault : BinaryFault) → Refuses f i levels left fault → RefusesKey f i levels left fault
RefusesKey-value f i levels left fault refused = record {
  stands = refused.stands;
  none = λ unless units valid spells deep affords. refused.none unless (scalar (text units)) valid spells deep affords;
}

pub RefusesKey-other : (f : List ℕ) (table i levels : ℕ) (left : Budget) (held : Content) → IsKeyOf f table i → Holds f i held → (¬ IsText held) → RefusesKey f i levels left (KeyNotText table)
RefusesKey-other f owner i levels left held key reads no_text = record {
  stands = record {
    ends = key.ends;
    keys = key.keys;
    values = key.table.values;
    holds = key.table.holds;
    key = i;
    among = key.among;
    held = held;
    reads = reads;
    no_text = no_text;
  };
  none = λ _ units valid spells deep affords. no_text (subst IsText (same_held f i (holds_scalar (text units)) held spells reads) tt);
}

pub texts-push : (keys : List (List ℕ)) (units : List ℕ) → texts (keys ++ units ∷ []) ≡ push (texts keys) (scalar (text units))
texts-push [] units = refl
texts-push (key ∷ keys) units = ap (item (scalar (text key))) (texts-push keys units)

pub ReadsKeys-push : (f refs : List ℕ) (i levels : ℕ) (before left after : Budget) (keys : List (List ℕ)) (units : List ℕ) → i < (trailer_of f).count → ReadsItems f refs levels before (texts keys) left → Reads f i levels left (scalar (text units)) after → ReadsItems f (refs ++ i ∷ []) levels before (texts (keys ++ units ∷ [])) after
ReadsKeys-push f refs i levels before left after keys units listed read one =
    subst (λ (vs : Items). ReadsItems f (refs ++ i ∷ []) levels before vs after) (sym (texts-push keys units)) (ReadsItems-push f refs i levels before left after (texts keys) (scalar (text units)) listed read one)

-- the strings after the first ones
record Behind (vs : Items) : Type 0 where
  keys : List (List ℕ)
  same : vs ≡ texts keys

texts_behind : (f xs ys : List ℕ) (keys : List (List ℕ)) (spell : SpellItems f (xs ++ ys) (texts keys)) (valid : AreItems (texts keys)) → Behind (take_apart f xs ys (texts keys) spell valid).back
unfolding take_apart
texts_behind f [] ys keys spell valid = record { keys = keys; same = refl }
texts_behind f (x ∷ xs) ys [] spell valid =
    absurd (let none : x ∷ (xs ++ ys) ≡ [] = spell in cc)
texts_behind f (x ∷ xs) ys (key ∷ keys) spell valid = texts_behind f xs ys keys spell.1 valid.1

first_key_refused : (f : List ℕ) (i : ℕ) (rest : List ℕ) (levels : ℕ) (left : Budget) (keys : List (List ℕ)) → ((units : List ℕ) → IsPlist (scalar (text units)) → Spells f i (scalar (text units)) → 1 ≤ levels → Affords left 1 (2 * length units) → ⊥) → Misfit f levels (i ∷ rest) left (texts keys)
first_key_refused f i rest levels left [] none spell valid deep affords =
    let empty : i ∷ rest ≡ [] = spell in cc
first_key_refused f i rest levels left (key ∷ keys) none spell valid deep affords =
    none key valid.0 spell.0 (omega arith) (Affords-rest (Spends-none left) affords (omega arith) (omega arith))

pub RefusesKeys-at : (f refs : List ℕ) (i : ℕ) (rest : List ℕ) (levels : ℕ) (before left : Budget) (vs : Items) (fault : BinaryFault) → i < (trailer_of f).count → ReadsItems f refs levels before vs left → RefusesKey f i levels left fault → RefusesKeys f (refs ++ i ∷ rest) levels before fault
RefusesKeys-at f refs i rest levels before left vs fault listed items one =
    record {
      stands = one.stands;
      none = λ unless keys valid spell _ deep affords.
          let behind = texts_behind f refs (i ∷ rest) keys spell valid in
          refused_at f refs i rest levels before left vs (texts keys) items valid spell deep affords (subst (Misfit f levels (i ∷ rest) left) (sym behind.same) (first_key_refused f i rest levels left behind.keys (one.none unless)));
    }

-- what refuses all items refuses strings
pub RefusesKeys-items : (f refs : List ℕ) (levels : ℕ) (left : Budget) (fault : BinaryFault) → RefusesItems f refs levels left fault → RefusesKeys f refs levels left fault
RefusesKeys-items f refs levels left fault refused = record {
  stands = refused.stands;
  none = λ unless keys valid spell _. refused.none unless (texts keys) valid spell;
}

-- One step of a loop over references, by index.

pub around : (refs : List ℕ) (k i : ℕ) → k < length refs → i ≡ slice_index refs k → take k refs ++ (i ∷ drop (suc k) refs) ≡ refs
around refs k i within is =
    ap (λ (n : ℕ). take k refs ++ (n ∷ drop (suc k) refs)) is
    ∙ ap (λ (xs : List ℕ). take k refs ++ xs) (sym (drop-cons refs k 0 within))
    ∙ take-append-drop k refs

pub next : (refs : List ℕ) (k i : ℕ) → k < length refs → i ≡ slice_index refs k → take k refs ++ (i ∷ []) ≡ take (k + 1) refs
next refs k i within is =
    ap (λ (n : ℕ). take k refs ++ (n ∷ [])) is ∙ sym (take_more refs k 0 within)

pub Contains-at : (refs : List ℕ) (k i : ℕ) → k < length refs → i ≡ slice_index refs k → Contains refs i
Contains-at refs k i within is = (k, within, get_or_default refs k i 0 within ∙ sym is)

pub ReadsItems-next : (f refs : List ℕ) (k i levels : ℕ) (before left after : Budget) (vs : Items) (v : Plist) → k < length refs → i ≡ slice_index refs k → i < (trailer_of f).count → ReadsItems f (take k refs) levels before vs left → Reads f i levels left v after → ReadsItems f (take (k + 1) refs) levels before (push vs v) after
ReadsItems-next f refs k i levels before left after vs v within is listed items one =
    subst (λ (xs : List ℕ). ReadsItems f xs levels before (push vs v) after) (next refs k i within is) (ReadsItems-push f (take k refs) i levels before left after vs v listed items one)

pub RefusesItems-next : (f refs : List ℕ) (k i levels : ℕ) (before left : Budget) (vs : Items) (fault : BinaryFault) → k < length refs → i ≡ slice_index refs k → i < (trailer_of f).count → ReadsItems f (take k refs) levels before vs left → Refuses f i levels left fault → RefusesItems f refs levels before fault
RefusesItems-next f refs k i levels before left vs fault within is listed items one =
    subst (λ (xs : List ℕ). RefusesItems f xs levels before fault) (around refs k i within is) (RefusesItems-at f (take k refs) i (drop (suc k) refs) levels before left vs fault listed items one)

pub RefusesItems-none : (f refs : List ℕ) (container k i levels : ℕ) (before : Budget) → EndsPath f container → Refers f container i → k < length refs → i ≡ slice_index refs k → (trailer_of f).count ≤ i → RefusesItems f refs levels before (BadReference container)
RefusesItems-none f refs container k i levels before ends refers within is above =
    subst (λ (xs : List ℕ). RefusesItems f xs levels before (BadReference container)) (around refs k i within is) (RefusesItems-nowhere f (take k refs) container i (drop (suc k) refs) levels before ends refers above)

pub ReadsKeys-next : (f refs : List ℕ) (k i levels : ℕ) (before left after : Budget) (keys : List (List ℕ)) (units : List ℕ) → k < length refs → i ≡ slice_index refs k → i < (trailer_of f).count → ReadsItems f (take k refs) levels before (texts keys) left → Reads f i levels left (scalar (text units)) after → ReadsItems f (take (k + 1) refs) levels before (texts (keys ++ units ∷ [])) after
ReadsKeys-next f refs k i levels before left after keys units within is listed items one =
    subst (λ (xs : List ℕ). ReadsItems f xs levels before (texts (keys ++ units ∷ [])) after) (next refs k i within is) (ReadsKeys-push f (take k refs) i levels before left after keys units listed items one)

pub RefusesKeys-next : (f refs : List ℕ) (k i levels : ℕ) (before left : Budget) (vs : Items) (fault : BinaryFault) → k < length refs → i ≡ slice_index refs k → i < (trailer_of f).count → ReadsItems f (take k refs) levels before vs left → RefusesKey f i levels left fault → RefusesKeys f refs levels before fault
RefusesKeys-next f refs k i levels before left vs fault within is listed items one =
    subst (λ (xs : List ℕ). RefusesKeys f xs levels before fault) (around refs k i within is) (RefusesKeys-at f (take k refs) i (drop (suc k) refs) levels before left vs fault listed items one)
