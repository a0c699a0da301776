use Rattle.std.proofs.Common.{ℕ, length, sym, ap, subst, ◌∙◌, arith, add-one, true≢false}
use Rattle.std.specs.Option.{is_some}
use Rattle.plist_object.specs.Views.{octets_of}
use Rattle.plist_canon.specs.Rules.{IsNoRepeat}
use Rattle.plist_write.specs.RepeatFilter.{HasAdded}
use Rattle.plist_canon.specs.Seen.{HasSeen}
use Rattle.plist_keys.proofs.KeysInTurn.{below_or_last}
use Rattle.plist_canon.specs.First.{IsFirstRepeat}
use Rattle.plist_canon.proofs.Firsts.{passed_on, repeat_first}
use Rattle.plist_canon.proofs.repeats.check_repeats.Goals as goal

pub loop-i-init : goal.loop-i-init
loop-i-init g c = record {
  single = λ j below. absurd (omega (arith, below));
  seen = record {
    numbered = c.new-seen.ensures.numbered;
    each = λ q. (λ found. absurd (true≢false (sym found ∙ ap is_some (c.new-seen.ensures.unknown q))), λ held. absurd (omega (arith, held.1.0)));
  };
}

pub check_repeat-requires : goal.check_repeat-requires
check_repeat-requires g c =
    let f = octets_of c.args.file.now in
    let filter = c.in_ok-filter.filter in
    let added = c.in_ok-filter.ensures f (length c.args.builder.bits.items) c.requires.added in
    record {
      added = subst (λ (n : ℕ). HasAdded f n filter) (sym added.added) added;
      among = omega (arith, c.loop-i-test.true, c.len-i-end.ensures);
      listed = omega (arith, c.loop-i-test.true, c.len-i-end.ensures, added.added, c.requires.listed);
      seen = c.loop-i.invariant.seen;
    }

pub loop-i-preserved : goal.loop-i-preserved
loop-i-preserved g c =
    let f = octets_of c.args.file.now in
    let i = c.loop-i.i in
    record {
      single = below_or_last (λ j. IsNoRepeat f j) i c.loop-i.invariant.single c.in_ok-check_repeat.ensures.ok;
      seen = subst (λ (n : ℕ). HasSeen c.in_ok-filter.filter f n c.check_repeat.new.seen) (sym (add-one i)) c.in_ok-check_repeat.ensures.seen;
    }

pub returns-clause-ok : goal.returns-clause-ok
returns-clause-ok g c =
    let added = c.in_ok-filter.ensures (octets_of c.args.file.now) (length c.args.builder.bits.items) c.requires.added in
    λ i below. c.loop-i.invariant.single i (omega (arith, below, c.loop-i-test.false, c.len-i-end.ensures, added.added))

pub returns-in_err-check_repeat-clause-first : goal.returns-in_err-check_repeat-clause-first
returns-in_err-check_repeat-clause-first g c =
    let f = octets_of c.args.file.now in
    let end = length c.args.builder.bits.items in
    let added = c.in_ok-filter.ensures f end c.requires.added in
    passed_on (IsFirstRepeat f end) _ c.from_residual-in_err-check_repeat.result c.from_residual-in_err-check_repeat.ensures.1
    (repeat_first f c.loop-i.i end c.in_err-check_repeat.field-0.0 (omega (arith, c.loop-i-test.true, c.len-i-end.ensures, added.added)) c.loop-i.invariant.single c.in_err-check_repeat.ensures.at)
