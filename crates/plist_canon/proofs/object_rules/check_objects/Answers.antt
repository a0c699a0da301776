use Rattle.std.proofs.Common.{◌≡◌, ℕ, inl, inr, sym, subst, arith}
use Rattle.plist_object.specs.Views.{octets_of}
use Rattle.plist_object.specs.Layout.{trailer_of}
use Rattle.plist_keys.proofs.KeysInTurn.{below_or_last}
use Rattle.plist_write.specs.RepeatFilter.{AreAdded}
use Rattle.plist_canon.specs.Checking.{IsChecked, IsEndBefore}
use Rattle.plist_canon.specs.Steps.{Walked}
use Rattle.plist_canon.specs.First.{IsFlawAt, IsObjectsFlaw}
use Rattle.plist_canon.proofs.Firsts.{passed_on, repeat_flaw}
use Rattle.plist_canon.proofs.object_rules.check_objects.Goals as goal

pub loop-i-init : goal.loop-i-init
loop-i-init g c = record {
  ready = c.new-order.ensures (octets_of c.args.input.now.file);
  visited = c.in_ok-visited.ensures;
  checked = λ j below. absurd (omega (arith, below));
}

pub loop-i-preserved : goal.loop-i-preserved
loop-i-preserved g c =
    let f = octets_of c.args.input.now.file in
    let i = c.loop-i.i in
    let told = c.in-Ok.ensures in
    let before = c.loop-i.invariant in
    record {
      ready = told.ready;
      visited = c.in_ok-visit-in-Ok.ensures f i told.holds told.span before.visited;
      checked = below_or_last (λ j. IsChecked f j) i before.checked told.checked;
    }

pub first_flaw-requires : goal.first_flaw-requires
first_flaw-requires g c =
    let f = octets_of c.args.input.now.file in
    let before = c.loop-i.invariant.visited.added in
    record {
      added = subst (λ (n : ℕ). AreAdded f n c.loop-i.visited.builder) (sym before.added) before;
      listed = omega (arith, before.added, c.loop-i-test.true, c.count-i-end.ensures);
      flaw = c.in-Err.ensures.err;
    }

pub check_repeats-requires : goal.check_repeats-requires
check_repeats-requires g c =
    let f = octets_of c.args.input.now.file in
    let before = c.loop-i.invariant.visited.added in
    record {
      added = subst (λ (n : ℕ). AreAdded f n c.loop-i.visited.builder) (sym before.added) before;
      listed = omega (arith, before.added, c.loop-i.auto.i-end, c.count-i-end.ensures);
    }

pub check_table-requires : goal.check_table-requires
check_table-requires g c =
    let f = octets_of c.args.input.now.file in
    let before = c.loop-i.invariant in
    let all : c.loop-i.i ≡ (trailer_of f).count = omega (arith, c.loop-i-test.false, c.loop-i.auto.i-end, c.count-i-end.ensures) in
    record {
      follows = λ i below. (before.checked i (omega (arith, below, all))).follows;
      ends = subst (λ (k : ℕ). IsEndBefore f k c.loop-i.visited.end) all before.visited.ends;
    }

pub returns-clause-checked : goal.returns-clause-checked
returns-clause-checked g c =
    λ i below. c.loop-i.invariant.checked i (omega (arith, below, c.loop-i-test.false, c.count-i-end.ensures))

pub returns-clause-single : goal.returns-clause-single
returns-clause-single g c =
    let added = c.loop-i.invariant.visited.added in
    λ i below. c.in_ok-check_repeats.ensures.ok i (omega (arith, below, added.added, c.loop-i-test.false, c.count-i-end.ensures))

pub returns-clause-walked : goal.returns-clause-walked
returns-clause-walked g c =
    let f = octets_of c.args.input.now.file in
    let before = c.loop-i.invariant in
    let all : c.loop-i.i ≡ (trailer_of f).count = omega (arith, c.loop-i-test.false, c.loop-i.auto.i-end, c.count-i-end.ensures) in
    subst (λ (k : ℕ). Walked f k c.loop-i.visited.walk) all before.visited.walked

pub returns-in-Err-clause-first : goal.returns-in-Err-clause-first
returns-in-Err-clause-first g c =
    let f = octets_of c.args.input.now.file in
    let long = c.loop-i.invariant.visited.added.added in
    inl (c.first_flaw.ensures.first
    (λ j below. c.loop-i.invariant.checked j (omega (arith, below, long)))
    (subst (λ (n : ℕ). IsFlawAt f n c.in-Err.flaw) (sym long) c.in-Err.ensures.first))

pub returns-in_err-check_repeats-clause-first : goal.returns-in_err-check_repeats-clause-first
returns-in_err-check_repeats-clause-first g c =
    let f = octets_of c.args.input.now.file in
    let long = c.loop-i.invariant.visited.added.added in
    passed_on (IsObjectsFlaw f) _ c.from_residual-in_err-check_repeats.result c.from_residual-in_err-check_repeats.ensures.1
    (inl (repeat_flaw f _ c.in_err-check_repeats.field-0.0 (λ j below. c.loop-i.invariant.checked j (omega (arith, below, long))) c.in_err-check_repeats.ensures.first))

pub returns-in_err-check_table-clause-first : goal.returns-in_err-check_table-clause-first
returns-in_err-check_table-clause-first g c =
    let f = octets_of c.args.input.now.file in
    let long = c.loop-i.invariant.visited.added.added in
    passed_on (IsObjectsFlaw f) _ c.from_residual-in_err-check_table.result c.from_residual-in_err-check_table.ensures.1
    (inr (
      c.in_err-check_table.ensures.table,
      λ i below. record {
        checked = c.loop-i.invariant.checked i (omega (arith, below, c.loop-i-test.false, c.count-i-end.ensures));
        single = c.in_ok-check_repeats.ensures.ok i (omega (arith, below, long, c.loop-i-test.false, c.count-i-end.ensures));
      },
    ))
