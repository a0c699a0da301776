-- A permutation of rows has the same nodes, depth and payload.
use Rattle.std.proofs.Common.{◌≡◌, ℕ, ◌+◌, ◌*◌, List, length, refl, arith}
use Rattle.std.specs.Prelude.{max}
use Rattle.plist_value.specs.Plist.{Plist, Pairs}
use Rattle.plist_value.specs.Limits.{nodes, nodes_of_pairs, depth, depth_of_pairs, payload, payload_of_pairs}
use Rattle.ostep_text.specs.Sorting.{StandsAmong, first, later, AreReordered, none, row}

pub among-nodes : {key : List ℕ} {v : Plist} {others all : Pairs} → StandsAmong key v others all → nodes_of_pairs all ≡ 1 + nodes v + nodes_of_pairs others
among-nodes first = refl
among-nodes (later s) = omega (arith, among-nodes s)

pub among-depth : {key : List ℕ} {v : Plist} {others all : Pairs} → StandsAmong key v others all → depth_of_pairs all ≡ max (max 1 (depth v)) (depth_of_pairs others)
among-depth first = refl
among-depth (later s) = omega (arith, among-depth s)

pub among-payload : {key : List ℕ} {v : Plist} {others all : Pairs} → StandsAmong key v others all
    → payload_of_pairs all ≡ 2 * length key + payload v + payload_of_pairs others
among-payload first = refl
among-payload (later s) = omega (arith, among-payload s)

pub reordered-nodes : {rows ps : Pairs} → AreReordered rows ps → nodes_of_pairs rows ≡ nodes_of_pairs ps
reordered-nodes none = refl
reordered-nodes (row r s) = omega (arith, reordered-nodes r, among-nodes s)

pub reordered-depth : {rows ps : Pairs} → AreReordered rows ps → depth_of_pairs rows ≡ depth_of_pairs ps
reordered-depth none = refl
reordered-depth (row r s) = omega (arith, reordered-depth r, among-depth s)

pub reordered-payload : {rows ps : Pairs} → AreReordered rows ps → payload_of_pairs rows ≡ payload_of_pairs ps
reordered-payload none = refl
reordered-payload (row r s) = omega (arith, reordered-payload r, among-payload s)
