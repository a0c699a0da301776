use Rattle.std.proofs.Common.{◌≡◌, ℕ, ◌<◌, List, [], ◌∷◌, ◌++◌, length, take, drop, refl, sym, ap, ◌∙◌, arith, rules}
use Rattle.std.specs.Prelude.{flat_map}
use Rattle.std.proofs.lemmas.Bool.Decides.{nat_tests}
use Rattle.std.proofs.lemmas.Grind.{flat_map-append}
use Rattle.std.proofs.lemmas.List.{append-nil, take-append-drop}
use Rattle.plist_value.specs.Digits.{two_digits}
use Rattle.plist_write.specs.BufferedSink.{sink_state, PutsPiece}
use Rattle.plist_write.proofs.Going.{Emits_same}
use Rattle.plist_write.proofs.Steps.{piece-split, piece-settled, piece-stops, no_piece, refused}
use Rattle.ostep_write.proofs.data.write_digits.Goals as goal

-- the digits of the first bytes were appended
puts : (old new xs front left : List ℕ) (n : ℕ) → front ≡ take n xs → left ≡ drop n xs → new ≡ old ++ flat_map two_digits front → PutsPiece old new (flat_map two_digits xs) (flat_map two_digits left)
puts old new xs front left n is rest put = record {
  piece = flat_map two_digits front;
  put = put;
  split = ap (flat_map two_digits) (sym (take-append-drop n xs)) ∙ flat_map-append two_digits (take n xs) (drop n xs) ∙ rw (is, rest) refl;
}

-- there are digits
digits-some : (xs : List ℕ) → 0 < length xs → 0 < length (flat_map two_digits xs)
digits-some [] some = absurd (omega arith)
digits-some (x ∷ xs) some = omega arith

pub returns-in_err-grown : goal.returns-in_err-grown
returns-in_err-grown g c =
    let l = c.loop-left in
    let left : 0 < length l.left.now = first_of (search rules, grind (arith, nat_tests)) in
    let some = digits-some l.left.now left in
    record { emits = refused c.from_residual.result c.from_residual.ensures.1 (rw (c.in_err-grown.ensures.refused.1) (no_piece l.invariant.done (flat_map two_digits l.left.now) (flat_map two_digits c.args.octets.now) c.put_digits-put.new.out.items (sink_state g.W.Sink c.args.out.now) (sink_state g.W.Sink l.out) (omega (arith, some)) l.invariant.split l.invariant.emits)) }

pub returns-in_err-flush_if_full : goal.returns-in_err-flush_if_full
returns-in_err-flush_if_full g c =
    let l = c.loop-left in
    let put = puts l.out.waiting.now.items c.put_digits-put.new.out.items l.left.now c.split_at.result.0.now c.split_at.result.1.now c.min.result c.split_at.ensures.front c.split_at.ensures.back (rw c.in_ok-grown.ensures.value at c.put_digits-put.ensures) in
    record { emits = refused c.from_residual-in_err-flush_if_full.result c.from_residual-in_err-flush_if_full.ensures.1 (piece-stops l.invariant.done (flat_map two_digits l.left.now) (flat_map two_digits c.split_at.result.1.now) (flat_map two_digits c.args.octets.now) c.put_digits-put.new.out.items (sink_state g.W.Sink c.args.out.now) (sink_state g.W.Sink l.out) l.invariant.split l.invariant.emits put (sink_state g.W.Sink c.flush_if_full.new.self) _ c.in_err-flush_if_full.ensures.emits) }

pub loop-left-preserved : goal.loop-left-preserved
loop-left-preserved g c =
    let l = c.loop-left in
    let p = sink_state g.W.Sink c.args.out.now in
    let q = sink_state g.W.Sink l.out in
    let all = flat_map two_digits c.args.octets.now in
    let rest = flat_map two_digits c.split_at.result.1.now in
    let put = puts l.out.waiting.now.items c.put_digits-put.new.out.items l.left.now c.split_at.result.0.now c.split_at.result.1.now c.min.result c.split_at.ensures.front c.split_at.ensures.back (rw c.in_ok-grown.ensures.value at c.put_digits-put.ensures) in
    record {
      done = l.invariant.done ++ put.piece;
      split = piece-split l.invariant.done (flat_map two_digits l.left.now) rest all c.put_digits-put.new.out.items p q l.invariant.split l.invariant.emits put;
      emits = piece-settled l.invariant.done (flat_map two_digits l.left.now) rest all c.put_digits-put.new.out.items p q l.invariant.split l.invariant.emits put (sink_state g.W.Sink c.flush_if_full.new.self) _ c.in_ok-flush_if_full.ensures.emits;
    }

empty : (xs : List ℕ) → length xs ≡ 0 → flat_map two_digits xs ≡ []
empty [] e = refl
empty (x ∷ xs) e = absurd (omega arith)

pub returns : goal.returns
returns g c =
    let l = c.loop-left in
    let none : length l.left.now ≡ 0 = first_of (search rules, grind (arith, nat_tests)) in
    let whole : l.invariant.done ≡ flat_map two_digits c.args.octets.now = sym (append-nil l.invariant.done) ∙ ap (λ os. l.invariant.done ++ os) (sym (empty l.left.now none)) ∙ l.invariant.split in
    record { emits = Emits_same l.invariant.done (flat_map two_digits c.args.octets.now) (sink_state g.W.Sink c.args.out.now) (sink_state g.W.Sink l.out) _ whole l.invariant.emits }
