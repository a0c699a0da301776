use Rattle.std.proofs.Common.{arith, subst, sym, suc}
use Rattle.plist_object.specs.Views.{numbers_of, octets_of}
use Rattle.plist_keys.specs.Overlap.{IsKey}
use Rattle.plist_keys.proofs.Counting.{Counted-many, Counted-next, IsKey-at}
use Rattle.plist_keys.proofs.keys.Keys.add_all.Goals as goal

pub returns-in_default-clause-counted : goal.returns-in_default-clause-counted
returns-in_default-clause-counted c = λ i values reads counted.
    let old = c.args.self.now in
    Counted-many (octets_of c.args.file.now) i (numbers_of c.args.keys.now) values old.room old.named old.seen.items reads (omega (arith, c.in_default.ensures, c.len.ensures)) counted

pub loop-k-preserved : goal.loop-k-preserved
loop-k-preserved c = record {
  keys = c.in_ok-add.ensures.keys;
  counted = λ i values reads counted.
      let f = octets_of c.args.file.now in
      let key : IsKey f c.get.result = subst (IsKey f) (sym c.get.ensures) (IsKey-at f i c.loop-k.k 0 (numbers_of c.args.keys.now) values reads (omega (arith, c.loop-k-test.true, c.len-k-end.ensures))) in
      c.in_ok-add.ensures.counted (suc i) key (c.loop-k.invariant.counted i values reads counted);
}

pub returns-then-not-branch-clause-counted : goal.returns-then-not-branch-clause-counted
returns-then-not-branch-clause-counted c = λ i values reads counted.
    let f = octets_of c.args.file.now in
    let keys = numbers_of c.args.keys.now in
    let old = c.args.self.now in
    let key : IsKey f c.get.result = subst (IsKey f) (sym c.get.ensures) (IsKey-at f i c.loop-k.k 0 keys values reads (omega (arith, c.loop-k-test.true, c.len-k-end.ensures))) in
    let next = Counted-next f i keys values old.room old.named c.in-Some.named old.seen.items reads (omega (arith, c.in-Some.ensures, c.len.ensures)) counted in
    c.in_ok-add.ensures.counted (suc i) key (c.loop-k.invariant.counted i values reads next)

pub returns-clause-counted : goal.returns-clause-counted
returns-clause-counted c = λ i values reads counted.
    let f = octets_of c.args.file.now in
    let keys = numbers_of c.args.keys.now in
    let old = c.args.self.now in
    c.loop-k.invariant.counted i values reads
    (Counted-next f i keys values old.room old.named c.in-Some.named old.seen.items reads (omega (arith, c.in-Some.ensures, c.len.ensures)) counted)
