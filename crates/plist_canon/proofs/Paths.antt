-- The walk continues along its path, and takes from the limits.
use Rattle.std.proofs.Common.{◌≡◌, ℕ, zero, suc, ◌+◌, ◌-◌, ◌<◌, ◌≤◌, List, [], ◌∷◌, ◌++◌, length, take, drop, refl, sym, ap, subst, ◌∙◌, arith, Option, Some, None, add-one, true, false}
use Rattle.std.specs.Prelude.{slice_index, slice_index_or, slice_set, ◌↔◌, MatchOption}
use Rattle.std.proofs.lemmas.Bool.{true≢false}
use Rattle.std.proofs.lemmas.List.{drop_more, drop_all, length-set, set-get_or, take_all}
use Rattle.std.proofs.Math.Seq.{take-suc-set}
use Rattle.plist_value.specs.declared.TheConstants.{MAX_DEPTH, MAX_NODES, MAX_PAYLOAD}
use Rattle.plist_value.specs.declared.budget.Budget.{Budget}
use Rattle.plist_object.specs.Views.{numbers_of}
use Rattle.plist_object.specs.Places.{HoldsScalar, Holds}
use Rattle.plist_canon.specs.declared.weights.Weight.{Weight}
use Rattle.plist_canon.specs.declared.preorder.Frame.{Frame}
use Rattle.plist_canon.specs.Weights.{container, weight_of, Weighs, AreWeights}
use Rattle.plist_canon.specs.Preorders.{Group, grouped, frame_group, path_groups, IsNoneSeen, groups_of}
use Rattle.plist_canon.specs.Steps.{HasVisited, SkipsScalar, GoesOn, GroupGoesOn, FrameGoesOn, HasVisitedFirst, Awaits, SeenInTurn, Walked, WalkedAll, WalksWithinLimits}
use Rattle.plist_canon.proofs.Visiting.{Weighs-scalar, scalar-Weighs, IsWalking-start, IsWalking-passed, IsWalking-seen, IsWalking-done, IsWalking-other, AreWeights-more, length-more}
use Rattle.plist_canon.proofs.Spending.{HasLeft-passed, HasLeft-popped, HasLeft-parted, HasLeft-entered, HasLeft-start, HasLeft-end}
use Rattle.std.specs.Option.{is_some}
use Rattle.plist_object.specs.Layout.{trailer_of}
use Rattle.plist_object.specs.Objects.{Content}
use Rattle.plist_canon.specs.Rules.{IsBroken, IsNumberedInPreorder, breaks_limits}
use Rattle.plist_canon.specs.declared.preorder.Walk.{Walk}
use Rattle.plist_canon.specs.Remaining.{HasLeft, TakesLeft}
use Rattle.plist_canon.proofs.WalkTrees.{value_of_walk}

pub path_groups-push : (frames : List Frame) (frame : Frame) → path_groups (frames ++ (frame ∷ [])) ≡ frame_group frame ∷ path_groups frames
path_groups-push [] frame = refl
path_groups-push (first ∷ frames) frame =
    ap (λ groups. groups ++ (frame_group first ∷ [])) (path_groups-push frames frame)

-- replacing the last frame of the path
path_groups-set : (frames : List Frame) (count : ℕ) (frame : Frame) → length frames ≡ count → 0 < count → path_groups (slice_set frames (count - 1) frame) ≡ frame_group frame ∷ path_groups (take (count - 1) frames)
path_groups-set frames count frame counted some =
    let whole = take_all (suc (count - 1)) (slice_set frames (count - 1) frame) (omega (arith, length-set frames (count - 1) frame)) in
    ap path_groups (sym whole ∙ take-suc-set frames (count - 1) frame (omega (arith, length-set frames (count - 1) frame))) ∙ path_groups-push (take (count - 1) frames) frame

path_groups-last : (frames : List Frame) (count : ℕ) (frame : Frame) → length frames ≡ count → 0 < count → frame ≡ slice_index_or frames (count - 1) frame → path_groups frames ≡ frame_group frame ∷ path_groups (take (count - 1) frames)
path_groups-last frames count frame counted some is =
    ap path_groups (sym (ap (slice_set frames (count - 1)) is ∙ set-get_or frames (count - 1) frame)) ∙ path_groups-set frames count frame counted some

-- object 0 is entered
pub Awaits-first : (f : List ℕ) (turns : ℕ) (left : Option Budget) (groups : List Group) → turns ≡ 0 → HasVisitedFirst f turns left groups → Awaits f turns MAX_DEPTH left groups
Awaits-first f zero left groups none stands held after holds takes =
    let weighs : Weighs f 0 (weight_of held) = record { held = held; holds = holds; is = refl } in
    rw stands.0 (record {
      walking = IsWalking-start f (MAX_DEPTH - 1) held holds;
      limits = λ octets ascending. HasLeft-entered f 0 MAX_DEPTH 0 [] (weight_of held) weighs (ascending 0 holds.listed) octets held left after holds takes stands.1;
    })
Awaits-first f (suc before) left groups none stands held after holds takes = absurd (omega arith)

-- the next object is entered
pub Awaits-next : (f : List ℕ) (seen owner levels : ℕ) (left : Option Budget) (outer : List Group) → HasVisited f seen left (grouped owner levels (seen ∷ []) ∷ outer) → Awaits f seen levels left outer
Awaits-next f seen owner levels left outer stands held after holds takes =
    let weighs : Weighs f seen (weight_of held) = record { held = held; holds = holds; is = refl } in
    record {
      walking = IsWalking-seen f seen owner outer (levels - 1) held stands.walking holds;
      limits = λ octets ascending. HasLeft-entered f owner levels seen outer (weight_of held) weighs (ascending seen holds.listed) octets held left after holds takes (stands.limits octets ascending);
    }

-- the state after the first visit
pub HasVisited-after : (f : List ℕ) (turns : ℕ) (left : Option Budget) (groups : List Group) → 0 < turns → HasVisitedFirst f turns left groups → HasVisited f turns left groups
HasVisited-after f zero left groups some stands = absurd (omega arith)
HasVisited-after f (suc before) left groups some stands = stands

module _ (frames : List Frame) (count : ℕ) (frame : Frame) (counted : length frames ≡ count) (some : 0 < count) where
  -- the next reference of the last frame, split off
  HasVisited-parted : (f : List ℕ) (seen done i : ℕ) (left : Option Budget) → HasVisited f seen left (grouped frame.owner frame.levels (i ∷ drop done (numbers_of frame.refs)) ∷ path_groups (take (count - 1) frames)) → HasVisited f seen left (grouped frame.owner frame.levels (i ∷ []) ∷ path_groups (slice_set frames (count - 1) (record frame { done = done })))
  HasVisited-parted f seen done i left stands =
      let rest = drop done (numbers_of frame.refs) in
      let outer = path_groups (take (count - 1) frames) in
      subst (λ (gs : List Group). HasVisited f seen left (grouped frame.owner frame.levels (i ∷ []) ∷ gs)) (sym (path_groups-set frames count (record frame { done = done }) counted some))
      (record {
        walking = stands.walking;
        limits = λ octets ascending. HasLeft-parted f frame.owner frame.levels i rest outer left (stands.limits octets ascending);
      })

module _ (weights : List Weight) (owner levels i : ℕ) (refs : List ℕ) (outer : List Group) (before after : Option Budget) where
  pub HasVisited-passed : SkipsScalar weights levels i before after → GoesOn weights (grouped owner levels (i ∷ refs) ∷ outer) before (grouped owner levels refs ∷ outer) after
  HasVisited-passed passes f weighed stands =
      let weighs = weighed i passes.listed in
      let scalar = Weighs-scalar f i (slice_index_or weights i container) weighs passes.is_scalar in
      record {
        walking = IsWalking-passed f (length weights) owner i _ stands.walking passes.listed scalar;
        limits = λ octets ascending. HasLeft-passed f owner levels i refs outer (slice_index_or weights i container) weighs before after scalar passes.takes (stands.limits octets ascending);
      }

module _ (weights : List Weight) (first : Group) (owner levels : ℕ) (refs : List ℕ) (k : ℕ) (before here : Option Budget)
    (to : GroupGoesOn weights first before (grouped owner levels (drop k refs)) here) where
  pub GoesOn-here : k < length refs → GroupGoesOn weights first before (grouped owner levels (slice_index refs k ∷ drop (k + 1) refs)) here
  GoesOn-here below outer f weighed stands =
      subst (λ (rs : List ℕ). HasVisited f (length weights) here (grouped owner levels rs ∷ outer)) (drop_more refs k 0 below) (to outer f weighed stands)

  pub GoesOn-past : (after : Option Budget) → k < length refs → SkipsScalar weights levels (slice_index refs k) here after → GroupGoesOn weights first before (grouped owner levels (drop (k + 1) refs)) after
  GoesOn-past after below passes outer f weighed stands =
      HasVisited-passed weights owner levels (slice_index refs k) (drop (k + 1) refs) outer here after passes f weighed (GoesOn-here below outer f weighed stands)

  pub GoesOn-end : length refs ≤ k → (outer : List Group) → GoesOn weights (first ∷ outer) before outer here
  GoesOn-end past outer f weighed stands =
      let none = subst (λ (rs : List ℕ). HasVisited f (length weights) here (grouped owner levels rs ∷ outer)) (drop_all k refs past) (to outer f weighed stands) in
      record {
        walking = none.walking;
        limits = λ octets ascending. HasLeft-popped f owner levels outer here (none.limits octets ascending);
      }

module _ (weights : List Weight) (groups : List Group) (before mid after : Option Budget) (frames : List Frame) (count : ℕ) (frame : Frame)
    (counted : length frames ≡ count) (some : 0 < count) (is : frame ≡ slice_index_or frames (count - 1) frame)
    (on : GoesOn weights groups before (path_groups frames) mid) where
  split : GoesOn weights groups before (frame_group frame ∷ path_groups (take (count - 1) frames)) mid
  split f weighed stands =
      subst (λ (gs : List Group). HasVisited f (length weights) mid gs) (path_groups-last frames count frame counted some is) (on f weighed stands)

  -- the walk went past the last references of the path
  pub GoesOn-popped : FrameGoesOn weights frame mid None after → GoesOn weights groups before (path_groups (take (count - 1) frames)) after
  GoesOn-popped ends f weighed stands = ends (path_groups (take (count - 1) frames)) f weighed (split f weighed stands)

  -- the walk got to one of the references
  pub GoesOn-visited : (done i : ℕ) → FrameGoesOn weights frame mid (Some (done, i)) after → GoesOn weights groups before (grouped frame.owner frame.levels (i ∷ []) ∷ path_groups (slice_set frames (count - 1) (record frame { done = done }))) after
  GoesOn-visited done i ahead f weighed stands =
      HasVisited-parted frames count frame counted some f (length weights) done i after (ahead (path_groups (take (count - 1) frames)) f weighed (split f weighed stands))

-- a visited object that is not a visited scalar is no scalar
pub none_seen : (f : List ℕ) (weights : List Weight) (i : ℕ) → AreWeights f weights → IsNoneSeen weights i → i < length weights → ¬ HoldsScalar f i
none_seen f weights i weighed none below scalar =
    true≢false (sym (scalar-Weighs f i (slice_index_or weights i container) (weighed i below) scalar) ∙ none below)

-- The walk keeps pace with the objects.

broken-stays : (broken : Option ℕ) (A B : Type 0) (P : ℕ → Type 0) → is_some broken ≡ true → MatchOption broken A P → MatchOption broken B P
broken-stays None A B P is holds = absurd (true≢false (sym is))
broken-stays (Some holder) A B P is holds = holds

none-broken : (broken : Option ℕ) (A : Type 0) (P : ℕ → Type 0) → is_some broken ≡ false → MatchOption broken A P ↔ A
none-broken None A P is = (λ holds. holds, λ holds. holds)
none-broken (Some holder) A P is = absurd (true≢false is)

module _ (f : List ℕ) (i : ℕ) (walk : Walk) where
  pub Walked-broken : (new : Walk) → walk.broken_at ≡ new.broken_at → is_some walk.broken_at ≡ true → Walked f i walk → Walked f (suc i) new
  Walked-broken new same is walked =
      subst (λ (broken : Option ℕ). MatchOption broken (SeenInTurn f (suc i) new) (λ holder. IsBroken f 7 holder)) same
      (broken-stays walk.broken_at (SeenInTurn f i walk) (SeenInTurn f (suc i) new) (λ holder. IsBroken f 7 holder) is walked)

  pub Walked-seen : is_some walk.broken_at ≡ false → Walked f i walk ↔ SeenInTurn f i walk
  Walked-seen = none-broken walk.broken_at (SeenInTurn f i walk) (λ holder. IsBroken f 7 holder)

-- before the first visit
pub SeenInTurn-none : (f : List ℕ) (walk : Walk) (whole : Budget) → walk.weights.items ≡ [] → walk.path.items ≡ [] → walk.left ≡ Some whole → whole.nodes ≡ MAX_NODES → whole.payload ≡ MAX_PAYLOAD → SeenInTurn f 0 walk
SeenInTurn-none f walk whole weights_are path_is left_is nodes_are payload_is =
    let counted : length walk.weights.items ≡ 0 = ap length weights_are in
    let has_left = subst (λ (left : Option Budget). HasLeft f (grouped 0 MAX_DEPTH (0 ∷ []) ∷ []) left) (sym left_is) (HasLeft-start f whole nodes_are payload_is) in
    record {
      counted = counted;
      weighed = λ i below. absurd (omega arith);
      stands = subst (λ (n : ℕ). HasVisitedFirst f n walk.left (path_groups walk.path.items)) (sym counted) (ap path_groups path_is, has_left);
    }

-- after one more visit
pub SeenInTurn-more : (f : List ℕ) (i number levels : ℕ) (held : Content) (old new : Walk) (weight : Weight) (left : Option Budget) (groups : List Group)
    → Holds f i held → SeenInTurn f i old → weight ≡ weight_of held → Awaits f (length old.weights.items) levels left groups → TakesLeft levels weight left new.left
    → new.weights.items ≡ old.weights.items ++ (weight ∷ []) → number ≡ length old.weights.items → path_groups new.path.items ≡ groups_of number (levels - 1) held ++ groups → SeenInTurn f (suc i) new
SeenInTurn-more f i number levels held old new weight left groups holds seen is awaits takes pushed number_is path_is =
    let many = length old.weights.items in
    let here : Holds f many held = subst (λ (n : ℕ). Holds f n held) (sym seen.counted) holds in
    let entered = awaits held new.left here (subst (λ (w : Weight). TakesLeft levels w left new.left) is takes) in
    let weighs : Weighs f i weight = record { held = held; holds = holds; is = is } in
    let long : length new.weights.items ≡ suc many = length-more old.weights.items new.weights.items many weight pushed refl ∙ add-one many in
    let groups_are : path_groups new.path.items ≡ groups_of many (levels - 1) held ++ groups = rw (← number_is) path_is in
    record {
      counted = long ∙ ap suc seen.counted;
      weighed = AreWeights-more f old.weights.items new.weights.items i weight pushed seen.weighed seen.counted weighs;
      stands = subst (λ (n : ℕ). HasVisitedFirst f n new.left (path_groups new.path.items)) (sym long) (subst (λ (gs : List Group). HasVisited f (suc many) new.left gs) (sym groups_are) entered);
    }

module _ (f : List ℕ) (walk : Walk) (all : WalkedAll f walk) (seen : SeenInTurn f (trailer_of f).count walk) where
  stands : HasVisited f (length walk.weights.items) walk.left (path_groups walk.path.items)
  stands = let counted = seen.counted in let some = all.some in HasVisited-after f _ walk.left _ (omega arith) seen.stands

  -- a reference is left that does not point to a visited scalar
  pub breaks-at : (owner levels i : ℕ) (after : Option Budget) (groups : List Group) → GoesOn walk.weights.items (path_groups walk.path.items) walk.left (grouped owner levels (i ∷ []) ∷ groups) after → IsNoneSeen walk.weights.items i → IsBroken f 7 owner
  breaks-at owner levels i after groups goes none =
      let left = goes f seen.weighed stands in
      IsWalking-other f (length walk.weights.items) owner i _ left.walking (λ next. (let below = next.1 in omega (arith, seen.counted))) (none_seen f walk.weights.items i seen.weighed none)

  ends : (after : Option Budget) → GoesOn walk.weights.items (path_groups walk.path.items) walk.left [] after → HasVisited f (length walk.weights.items) after []
  ends after goes = goes f seen.weighed stands

  -- no reference is left
  pub walks-numbered : (left : Option Budget) → GoesOn walk.weights.items (path_groups walk.path.items) walk.left [] left → IsNumberedInPreorder f
  walks-numbered left goes = IsWalking-done f (length walk.weights.items) (ends left goes).walking seen.counted

  -- and the limits are kept
  pub walks-within : (left : Budget) → GoesOn walk.weights.items (path_groups walk.path.items) walk.left [] (Some left) → WalksWithinLimits f
  walks-within left goes =
      let last = ends (Some left) goes in
      record {
        numbered = walks-numbered (Some left) goes;
        fits = HasLeft-end f left (last.limits all.octets all.ascending);
      }

  -- and a limit is exceeded
  pub breaks-limits : GoesOn walk.weights.items (path_groups walk.path.items) walk.left [] None → IsBroken f 0 0
  breaks-limits goes =
      let last = ends None goes in
      let numbered = walks-numbered None goes in
      let v = value_of_walk f all.octets all.read all.ascending 0 numbered.entries numbered.walk in
      breaks_limits v.0 v.1 v.2 (last.limits all.octets all.ascending v.0 v.1 v.2)
