use Rattle.std.proofs.Common.{arith, ap, length}
use Rattle.std.proofs.lemmas.List.{length_push}
use Rattle.plist_object.specs.Views.{octets_of, numbers_of}
use Rattle.plist_keys.proofs.KeyOrders.{strings-push}
use Rattle.plist_keys.proofs.key_texts.texts_within.Goals as goal

pub text_of-text-requires : goal.text_of-text-requires
text_of-text-requires c = rw c.get.ensures (c.requires c.loop-index.index (omega arith))

pub loop-index-preserved : goal.loop-index-preserved
loop-index-preserved c =
    let texts = c.loop-index.texts.items in
    let long = c.loop-index.invariant.long in
    let pushed = c.in_ok-push.ensures.items in
    let more = length_push texts c.text_of-text.result in
    record {
      long = omega (arith, ap length pushed, more, long);
      held = strings-push (octets_of c.args.file.now) (numbers_of c.args.keys.now) texts c.push.new.self.items c.text_of-text.result c.loop-index.index pushed long (rw c.get.ensures at c.text_of-text.ensures) c.loop-index.invariant.held;
    }

pub returns : goal.returns
returns c = record {
  long = omega (arith, c.loop-index.invariant.long, c.len-index-end.ensures);
  held = λ k h. c.loop-index.invariant.held k (omega (arith, h, c.len-index-end.ensures));
}
