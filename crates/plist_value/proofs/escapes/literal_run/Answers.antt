use Rattle.std.proofs.Common.{rules, ◌≡◌, ℕ, sym, ◌+◌, List, take, drop, ap, ◌∙◌, arith}
use Rattle.std.specs.Prelude.{take_while}
use Rattle.std.specs.List.{prefix_len}
use Rattle.std.proofs.lemmas.List.{take_min}
use Rattle.std.proofs.lemmas.List.Sums.{prefix_len-drop_no, prefix_len-drop_all}
use Rattle.plist_value.specs.Escapes.{is_literal}
use Rattle.plist_value.proofs.escapes.literal_run.Goals as goal
use Rattle.plist_value.proofs.escapes.literal_run.Goals.{then-loop-length-test+else-is_literal, else-loop-length-test}

ran : (xs first : List ℕ) (n : ℕ) → first ≡ take 4096 xs → prefix_len is_literal first ≡ n + prefix_len is_literal (drop n first)
    → prefix_len is_literal (drop n first) ≡ 0 → take n first ≡ take_while is_literal (take 4096 xs)
ran xs first n is same none =
    let long : n ≡ prefix_len is_literal first = omega (arith, same, none) in
    ap (λ k. take k first) long ∙ ap (take_while is_literal) is

pub returns : goal.returns
returns c =
    let first = take c.min.result c.args.octets.now in
    let end : prefix_len is_literal (drop c.loop-length.length first) ≡ 0 = elim c.loop-length-test.branch [
      | then-loop-length-test+else-is_literal w ↦ prefix_len-drop_no is_literal first c.loop-length.length 0 w.loop-length-test.true (sym w.if-is_literal.ensures)
      | else-loop-length-test w ↦ prefix_len-drop_all is_literal first c.loop-length.length (search rules)
    ] in
    ran c.args.octets.now first c.loop-length.length (ap (λ n. take n c.args.octets.now) c.min.ensures ∙ take_min 4096 c.args.octets.now) c.loop-length.invariant.same end
