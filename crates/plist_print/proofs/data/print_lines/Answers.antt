use Rattle.std.proofs.Common.{◌≡◌, ℕ, ◌<◌, List, [], ◌∷◌, ◌++◌, length, refl, sym, ap, ◌∙◌, arith, rules}
use Rattle.std.proofs.lemmas.Bool.Decides.{nat_tests}
use Rattle.std.proofs.lemmas.List.{append-nil}
use Rattle.std.proofs.lemmas.Result.{err_from_is_err_and}
use Rattle.plist_write.specs.BufferedSink.{sink_state}
use Rattle.plist_write.proofs.Going.{Emits_same}
use Rattle.plist_print.specs.Printed.{indent, octet_lines}
use Rattle.plist_print.proofs.DataLines.{lines-some, puts-line}
use Rattle.plist_write.proofs.Steps.{piece-split, piece-settled, piece-stops, no_piece}
use Rattle.plist_print.proofs.data.print_lines.Goals as goal

pub returns-in_err-grown : goal.returns-in_err-grown
returns-in_err-grown g c =
    let e = err_from_is_err_and c.from_residual.result c.from_residual.ensures.1 in
    let all = octet_lines (indent c.args.level) c.args.octets.now in
    let l = c.loop-left in
    let p = sink_state g.W.Sink c.args.out.now in
    let q = sink_state g.W.Sink l.out in
    let items = c.put_line-put.new.out.items in
    let left : 0 < length l.left.now = first_of (search rules, grind (arith, nat_tests)) in
    let some = lines-some (indent c.args.level) l.left.now left in
    rw (e.1, e.2, c.in_err-grown.ensures.refused.1) (record { emits = no_piece l.invariant.done (octet_lines (indent c.args.level) l.left.now) all items p q (omega (arith, some)) l.invariant.split l.invariant.emits })

pub returns-in_err-flush_if_full : goal.returns-in_err-flush_if_full
returns-in_err-flush_if_full g c =
    let e = err_from_is_err_and c.from_residual-in_err-flush_if_full.result c.from_residual-in_err-flush_if_full.ensures.1 in
    let all = octet_lines (indent c.args.level) c.args.octets.now in
    let l = c.loop-left in
    let left : 0 < length l.left.now = first_of (search rules, grind (arith, nat_tests)) in
    let p = sink_state g.W.Sink c.args.out.now in
    let q = sink_state g.W.Sink l.out in
    let r = sink_state g.W.Sink c.flush_if_full.new.self in
    rw (e.1, e.2) (record { emits = piece-stops l.invariant.done (octet_lines (indent c.args.level) l.left.now) (octet_lines (indent c.args.level) c.split_at.result.1.now) all c.put_line-put.new.out.items p q l.invariant.split l.invariant.emits (puts-line (indent c.args.level) l.out.waiting.now.items c.put_line-put.new.out.items l.left.now c.split_at.result.0.now c.split_at.result.1.now left (rw c.min.ensures at c.split_at.ensures.front) (rw c.min.ensures at c.split_at.ensures.back) (rw c.in_ok-grown.ensures.value at c.put_line-put.ensures)) r _ c.in_err-flush_if_full.ensures.emits })

pub loop-left-preserved : goal.loop-left-preserved
loop-left-preserved g c =
    let all = octet_lines (indent c.args.level) c.args.octets.now in
    let l = c.loop-left in
    let left : 0 < length l.left.now = first_of (search rules, grind (arith, nat_tests)) in
    let p = sink_state g.W.Sink c.args.out.now in
    let q = sink_state g.W.Sink l.out in
    let puts = (puts-line (indent c.args.level) l.out.waiting.now.items c.put_line-put.new.out.items l.left.now c.split_at.result.0.now c.split_at.result.1.now left (rw c.min.ensures at c.split_at.ensures.front) (rw c.min.ensures at c.split_at.ensures.back) (rw c.in_ok-grown.ensures.value at c.put_line-put.ensures)) in
    record {
      done = l.invariant.done ++ puts.piece;
      split = piece-split l.invariant.done (octet_lines (indent c.args.level) l.left.now) (octet_lines (indent c.args.level) c.split_at.result.1.now) all c.put_line-put.new.out.items p q l.invariant.split l.invariant.emits puts;
      emits = piece-settled l.invariant.done (octet_lines (indent c.args.level) l.left.now) (octet_lines (indent c.args.level) c.split_at.result.1.now) all c.put_line-put.new.out.items p q l.invariant.split l.invariant.emits puts (sink_state g.W.Sink c.flush_if_full.new.self) _ c.in_ok-flush_if_full.ensures.emits;
    }

empty : (xs : List ℕ) → length xs ≡ 0 → xs ≡ []
empty [] e = refl
empty (x ∷ xs) e = absurd (omega arith)

pub returns : goal.returns
returns g c =
    let all = octet_lines (indent c.args.level) c.args.octets.now in
    let l = c.loop-left in
    let none : length l.left.now ≡ 0 = first_of (search rules, grind (arith, nat_tests)) in
    let gone : octet_lines (indent c.args.level) l.left.now ≡ [] = ap (octet_lines (indent c.args.level)) (empty l.left.now none) in
    let whole : l.invariant.done ≡ all = sym (append-nil l.invariant.done) ∙ ap (λ os. l.invariant.done ++ os) (sym gone) ∙ l.invariant.split in
    let p = sink_state g.W.Sink c.args.out.now in
    let q = sink_state g.W.Sink l.out in
    record { emits = Emits_same l.invariant.done all p q _ whole l.invariant.emits }
