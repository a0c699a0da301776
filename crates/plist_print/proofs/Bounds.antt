-- The maximum length of a printed text, by the payload, the nodes and the depth of its value.
use Rattle.std.proofs.Common.{◌≡◌, ℕ, suc, ◌+◌, ◌*◌, ◌≤◌, min, true, false, [], ◌∷◌, ◌++◌, length, refl, arith, length-append}
use Rattle.std.specs.Prelude.{codes}
use Rattle.std.proofs.Math.Nat.{mul-add}
use Rattle.plist_value.specs.Plist.{Scalar, text, whole, flag, real4, real8, moment, bytes, Plist, scalar, list, table, Items, no_items, item, Pairs, no_pairs, pair, IsScalar, IsPlist, AreItems, ArePairs}
use Rattle.plist_value.specs.Limits.{nodes, nodes_of_items, nodes_of_pairs, depth, depth_of_items, depth_of_pairs, payload, payload_of_scalar, payload_of_items, payload_of_pairs}
use Rattle.plist_print.specs.Units.{printed_text}
use Rattle.plist_print.specs.Reals.{single, double, printed_real}
use Rattle.plist_print.specs.Dates.{printed_date}
use Rattle.plist_print.specs.Printed.{indent, printed_scalar, printed_line, printed_at, printed_items, printed_pairs}
use Rattle.plist_print.proofs.TextBounds.{text-long, bytes-long, indent-long}
use Rattle.plist_print.proofs.Neighbours.{single-format, double-format}
use Rattle.plist_print.proofs.RealBounds.{real-long, date-long, whole-long}

line-long : (level : ℕ) (s : Scalar) → IsScalar s → length (printed_line level s) ≤ 5 * payload_of_scalar s + 70 + 2 * min level 32
line-long level (text units) h =
    let line = text-long units in let all = length-append (printed_text units) (codes "\n") in omega (arith, line, all)
line-long level (whole z) h =
    let line = whole-long z h in let all = length-append (printed_scalar (whole z)) (codes "\n") in omega (arith, line, all)
line-long level (flag true) h = omega arith
line-long level (flag false) h = omega arith
line-long level (real4 xs) h =
    let octets = h.long in
    let line = real-long single xs single-format (omega (arith, octets)) in
    let inner = length-append (printed_real single xs) (codes "f") in
    let all = length-append (printed_real single xs ++ codes "f") (codes "\n") in
    omega (arith, line, inner, all)
line-long level (real8 xs) h =
    let octets = h.long in
    let line = real-long double xs double-format (omega (arith, octets)) in
    let all = length-append (printed_real double xs) (codes "\n") in
    omega (arith, line, all)
line-long level (moment xs) h =
    let octets = h.long in
    let line = date-long xs (omega (arith, octets)) in
    let inner = length-append (codes "date ") (printed_date xs) in
    let all = length-append (codes "date " ++ printed_date xs) (codes "\n") in
    omega (arith, line, inner, all)
line-long level (bytes xs) h = let line = bytes-long level xs in omega (arith, line)

-- Levels up to `last` are indented by at most `most` levels, and each node takes at most `each`
-- bytes besides its payload.
module _ (last most each : ℕ) (is : each ≡ 70 + 4 * most) (within : (level : ℕ) → level ≤ last → min level 32 ≤ most) where
  blanks : (level : ℕ) → level ≤ last → length (indent level) ≤ 2 * most
  blanks level h = let long = indent-long level in let few = within level h in omega (arith, long, few)

  mutual
    pub value-long : (level : ℕ) (v : Plist) → level + depth v ≤ last → IsPlist v → length (printed_at level v) + 2 * most ≤ 5 * payload v + each * nodes v
    value-long level (scalar s) h valid =
        let line = line-long level s valid in
        let few = within level (omega (arith, h)) in
        omega (arith, is, line, few)
    value-long level (list (item v vs)) h valid =
        let inside = items-long (suc level) (item v vs) (omega (arith, h)) valid in
        let few = blanks level (omega (arith, h)) in
        let outer = length-append (printed_items (suc level) (item v vs)) (indent level ++ (93 ∷ 10 ∷ [])) in
        let inner = length-append (indent level) (93 ∷ 10 ∷ []) in
        let times = mul-add each 1 (nodes_of_items (item v vs)) in
        omega (arith, is, inside, few, outer, inner, times)
    value-long level (table (pair key v ps)) h valid =
        let inside = pairs-long (suc level) (pair key v ps) (omega (arith, h)) valid in
        let few = blanks level (omega (arith, h)) in
        let outer = length-append (printed_pairs (suc level) (pair key v ps)) (indent level ++ (125 ∷ 10 ∷ [])) in
        let inner = length-append (indent level) (125 ∷ 10 ∷ []) in
        let times = mul-add each 1 (nodes_of_pairs (pair key v ps)) in
        omega (arith, is, inside, few, outer, inner, times)
    value-long level _ h valid = omega (arith, is)

    items-long : (level : ℕ) (vs : Items) → level + depth_of_items vs ≤ last → AreItems vs → length (printed_items level vs) ≤ 5 * payload_of_items vs + each * nodes_of_items vs
    items-long level no_items h valid = omega arith
    items-long level (item v vs) h valid =
        let one = value-long level v (omega (arith, h)) valid.0 in
        let others = items-long level vs (omega (arith, h)) valid.1 in
        let few = blanks level (omega (arith, h)) in
        let times = mul-add each (nodes v) (nodes_of_items vs) in
        simp length-append (omega (arith, one, others, few, times))

    pairs-long : (level : ℕ) (ps : Pairs) → level + depth_of_pairs ps ≤ last → ArePairs ps → length (printed_pairs level ps) ≤ 5 * payload_of_pairs ps + each * nodes_of_pairs ps
    pairs-long level no_pairs h valid = omega arith
    pairs-long level (pair key v ps) h valid =
        let one = value-long level v (omega (arith, h)) valid.1 in
        let others = pairs-long level ps (omega (arith, h)) valid.3 in
        let few = blanks level (omega (arith, h)) in
        let name = text-long key in
        let rest = printed_at level v ++ printed_pairs level ps in
        let outer = length-append (indent level) (printed_text key ++ (codes " => " ++ rest)) in
        let next = length-append (printed_text key) (codes " => " ++ rest) in
        let inner = length-append (printed_at level v) (printed_pairs level ps) in
        let times = mul-add each (1 + nodes v) (nodes_of_pairs ps) in
        let twice = mul-add each 1 (nodes v) in
        omega (arith, is, one, others, few, name, outer, next, inner, times, twice)

pub print-long : (v : Plist) → IsPlist v → length (printed_at 0 v) ≤ 5 * payload v + (70 + 4 * min (depth v) 32) * nodes v
print-long v valid =
    let most = min (depth v) 32 in
    let all = value-long (depth v) most (70 + 4 * most) refl (λ level h. omega (arith, h)) 0 v (omega arith) valid in
    omega (arith, all)
