-- Where an object begins in the value of a file: what comes before it in preorder. All keys of a
-- dictionary come before its values.
use Rattle.std.specs.Prelude.{◌≡◌, ℕ, ◌+◌, ◌≤◌, List, [], ◌∷◌, ◌++◌, length, Result, Ok, Err}
use Rattle.std.specs.List.{Contains}
use Rattle.plist_value.specs.Plist.{Items, AreItems}
use Rattle.plist_value.specs.Limits.{nodes_of_items, depth_of_items, payload_of_items}
use Rattle.plist_value.specs.Limits.{payload_of_scalar}
use Rattle.plist_value.specs.Budget.{Spends}
use Rattle.plist_value.specs.declared.TheConstants.{MAX_DEPTH}
use Rattle.plist_value.specs.declared.budget.Budget.{Budget}
use Rattle.plist_object.specs.declared.object.ObjectFault.{ObjectFault}
use Rattle.plist_object.specs.Layout.{trailer_of}
use Rattle.plist_object.specs.Objects.{Content, holds_scalar, holds_list, holds_table}
use Rattle.plist_object.specs.Places.{Holds}
use Rattle.plist_object.specs.Spelled.{SpellItems}
use Rattle.plist_object.specs.References.{references_of}
use Rattle.plist_binary.specs.Budgets.{limits}

-- the payload of the string or data that was decoded
abbrev pub payload_read : Result Content ObjectFault → ℕ
payload_read (Ok (holds_scalar s)) = payload_of_scalar s
payload_read (Ok (holds_list refs)) = 0
payload_read (Ok (holds_table keys values)) = 0
payload_read (Err e) = 0

-- object j contains these references one after the other, after references to these values
pub record Comes (f : List ℕ) (j : ℕ) (refs : List ℕ) (vs : Items) : Type 0 where
  pub held : Content
  pub holds : Holds f j held
  pub front : List ℕ
  pub behind : List ℕ
  pub all : references_of held ≡ front ++ (refs ++ behind)
  pub spell : SpellItems f front vs
  pub valid : AreItems vs

-- before the references come: what comes before the container j, which is not on its own path; j
-- itself; and the values of its references before them, none of them too deep
pub record BeginsIn (f before : List ℕ) (begins : ℕ → ℕ → Type 0) (j : ℕ) (refs : List ℕ)
    (nodes payload : ℕ) : Type 0 where
  pub nodes_above : ℕ
  pub payload_above : ℕ
  pub above : begins nodes_above payload_above
  pub new : ¬ Contains before j
  pub values : Items
  pub comes : Comes f j refs values
  pub deep : length before + 1 + depth_of_items values ≤ MAX_DEPTH
  pub nodes_sum : nodes ≡ nodes_above + 1 + nodes_of_items values
  pub payload_sum : payload ≡ payload_above + payload_of_items values

-- the containers, the last first, lead from the top to i, and this many nodes and this much payload
-- come before it
abbrev pub Begins : List ℕ → List ℕ → ℕ → ℕ → ℕ → Type 0
Begins f [] i nodes payload = (i ≡ (trailer_of f).top) × (nodes ≡ 0) × (payload ≡ 0)
Begins f (j ∷ before) i nodes payload =
    BeginsIn f before (Begins f before j) j (i ∷ []) nodes payload

-- what comes before i is what was taken from the limits
pub record IsBegun (f before : List ℕ) (i : ℕ) (left : Budget) : Type 0 where
  pub nodes : ℕ
  pub payload : ℕ
  pub begins : Begins f before i nodes payload
  pub spent : Spends limits nodes payload left

-- what comes before these references of the container j is what was taken from the limits
pub record AreNext (f before : List ℕ) (j : ℕ) (refs : List ℕ) (left : Budget) : Type 0 where
  pub nodes : ℕ
  pub payload : ℕ
  pub begins : BeginsIn f before (Begins f before j) j refs nodes payload
  pub spent : Spends limits nodes payload left
