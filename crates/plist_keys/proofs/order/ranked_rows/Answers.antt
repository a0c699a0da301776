use Rattle.std.proofs.Common.{refl, ap, arith, length}
use Rattle.std.proofs.lemmas.List.{length_push}
use Rattle.plist_object.specs.Views.{octets_of, numbers_of}
use Rattle.plist_keys.specs.declared.order.Row.{Row}
use Rattle.plist_keys.proofs.KeyOrders.{AreRows-ranked, indices-push, ranked-push, strings-push}
use Rattle.plist_keys.proofs.order.ranked_rows.Goals as goal

pub loop-index-preserved : goal.loop-index-preserved
loop-index-preserved c =
    let f = octets_of c.args.file.now in
    let keys = numbers_of c.args.keys.now in
    let texts = c.loop-index.texts.items in
    let rows = c.loop-index.list.items in
    let text = c.in-Some.text in
    let row : Row = record { prefix = c.in-Some.prefix; run = 0; index = c.in_ok-to_u32.field-0 } in
    let long = c.loop-index.invariant.long in
    let index = c.in_ok-to_u32.ensures.value in
    let texts_pushed = c.in_ok-push.ensures.items in
    let rows_pushed = c.in_ok-push-2.ensures.items in
    record {
      long = omega (arith, ap length texts_pushed, length_push texts text, long);
      held = strings-push f keys texts c.push.new.self.items text c.loop-index.index texts_pushed long (rw c.get.ensures at c.in-Some.ensures.held f c.requires.ranks) c.loop-index.invariant.held;
      indices = indices-push rows c.push-in-loop-index.new.self.items row c.loop-index.index rows_pushed index c.loop-index.invariant.indices;
      ranked = ranked-push c.args.ranks.now texts c.push.new.self.items text rows c.push-in-loop-index.new.self.items row c.loop-index.index texts_pushed long rows_pushed index refl c.in-Some.ensures.ranked c.loop-index.invariant.ranked;
    }

pub returns-clause-texts : goal.returns-clause-texts
returns-clause-texts c = record {
  long = omega (arith, c.loop-index.invariant.long, c.len-index-end.ensures);
  held = λ k h. c.loop-index.invariant.held k (omega (arith, h, c.len-index-end.ensures));
}

pub returns-clause-rows : goal.returns-clause-rows
returns-clause-rows c =
    AreRows-ranked (octets_of c.args.file.now) c.loop-index.index c.args.ranks.now c.loop-index.texts.items c.loop-index.list.items c.requires.ranks c.loop-index.invariant.long c.loop-index.invariant.indices c.loop-index.invariant.ranked
