-- The size of a value, and the limits.
use Rattle.std.specs.Prelude.{ℕ, ◌+◌, ◌*◌, ◌≤◌, length, max}
use Rattle.plist_value.specs.Plist.{Scalar, text, whole, flag, real4, real8, moment, bytes, Plist}
use Rattle.plist_value.specs.Plist.{scalar, list, table, Items, no_items, item, Pairs, no_pairs}
use Rattle.plist_value.specs.Plist.{pair}
use Rattle.plist_value.specs.declared.TheConstants.{MAX_NODES, MAX_DEPTH, MAX_PAYLOAD}

-- Each scalar, container and key is a node.
abbrev mutual
  pub nodes : Plist → ℕ
  nodes (scalar s) = 1
  nodes (list vs) = 1 + nodes_of_items vs
  nodes (table ps) = 1 + nodes_of_pairs ps

  pub nodes_of_items : Items → ℕ
  nodes_of_items no_items = 0
  nodes_of_items (item v vs) = nodes v + nodes_of_items vs

  pub nodes_of_pairs : Pairs → ℕ
  nodes_of_pairs no_pairs = 0
  nodes_of_pairs (pair key v ps) = 1 + nodes v + nodes_of_pairs ps

-- A scalar and an empty container have depth 1. The depth of any other container is one more than
-- that of the deepest value in it.
abbrev mutual
  pub depth : Plist → ℕ
  depth (scalar s) = 1
  depth (list vs) = 1 + depth_of_items vs
  depth (table ps) = 1 + depth_of_pairs ps

  pub depth_of_items : Items → ℕ
  depth_of_items no_items = 0
  depth_of_items (item v vs) = max (depth v) (depth_of_items vs)

  pub depth_of_pairs : Pairs → ℕ
  depth_of_pairs no_pairs = 0
  depth_of_pairs (pair key v ps) = max (max 1 (depth v)) (depth_of_pairs ps)

-- Two bytes for each UTF-16 unit of a string, one for each byte of data.
abbrev pub payload_of_scalar : Scalar → ℕ
payload_of_scalar (text units) = 2 * length units
payload_of_scalar (whole z) = 0
payload_of_scalar (flag b) = 0
payload_of_scalar (real4 xs) = 0
payload_of_scalar (real8 xs) = 0
payload_of_scalar (moment xs) = 0
payload_of_scalar (bytes xs) = length xs

-- Over the whole tree, keys included.
abbrev mutual
  pub payload : Plist → ℕ
  payload (scalar s) = payload_of_scalar s
  payload (list vs) = payload_of_items vs
  payload (table ps) = payload_of_pairs ps

  pub payload_of_items : Items → ℕ
  payload_of_items no_items = 0
  payload_of_items (item v vs) = payload v + payload_of_items vs

  pub payload_of_pairs : Pairs → ℕ
  payload_of_pairs no_pairs = 0
  payload_of_pairs (pair key v ps) = 2 * length key + payload v + payload_of_pairs ps

-- the value is within the limits
pub record Fits (v : Plist) : Type 0 where
  pub nodes_fit : nodes v ≤ MAX_NODES
  pub depth_fits : depth v ≤ MAX_DEPTH
  pub payload_fits : payload v ≤ MAX_PAYLOAD
