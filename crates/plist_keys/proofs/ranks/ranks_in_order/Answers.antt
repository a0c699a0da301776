use Rattle.std.proofs.Common.{◌∙◌, add-one, arith, sym, ap, refl, length}
use Rattle.std.proofs.lemmas.List.{length-set, get_or_default}
use Rattle.plist_object.specs.Views.{octets_of}
use Rattle.plist_keys.specs.declared.keys.Key.{Key}
use Rattle.plist_keys.proofs.Ranked.{object_within, ranked_first, ranked_above, ranked_level, at_last, all_none, some_key}
use Rattle.plist_keys.proofs.ranks.ranks_in_order.Goals.{then-lt+in_ok-push-2, else-lt}
use Rattle.plist_keys.proofs.ranks.ranks_in_order.Goals as goal

pub loop-key-preserved : goal.loop-key-preserved
loop-key-preserved c =
    let f = octets_of c.args.file.now in
    let numbers = c.loop-key.of_objects.items in
    let keys = c.args.keys.now in
    let i = c.loop-key.key-index in
    let before = c.loop-key.before in
    let key = c.key-item.result in
    let invariant = c.loop-key.invariant in
    record {
      counted = length-set numbers _ _ ∙ invariant.counted;
      small = elim c.if-lt.branch [
        | then-lt+in_ok-push-2 w ↦ omega (arith, w.rank-is, invariant.small)
        | else-lt w ↦ omega (arith, w.rank-is, invariant.small)
      ];
      at = λ d. at_last keys i key d c.key-item.is c.loop-key-test.true;
      ranked = elim c.if-lt.branch [
        | then-lt+in_ok-push-2 w ↦ ranked_above f numbers c.loop-key.texts.items c.if-lt.texts.items keys i c.loop-key.rank c.if-lt.rank _ before key c.lt.result c.key-item.is invariant.counted c.requires.held c.loop-key-test.true invariant.ranked c.lt.ensures w.if-lt.true w.rank-is (add-one c.if-lt.rank) (rw w.texts-is w.in_ok-push-2.ensures.items)
        | else-lt w ↦ ranked_level f numbers c.loop-key.texts.items c.if-lt.texts.items keys i c.loop-key.rank c.if-lt.rank _ before key c.lt.result c.key-item.is invariant.counted c.requires.held c.requires.sorted invariant.at c.loop-key-test.true invariant.ranked c.lt.ensures w.if-lt.false w.rank-is (add-one c.if-lt.rank) (rw w.texts-is refl)
      ];
    }

pub loop-key-init : goal.loop-key-init
loop-key-init c =
    let f = octets_of c.args.file.now in
    let keys = c.args.keys.now in
    let numbers = c.resize.new.self.items in
    let some = some_key (length keys) c.if-is_empty.ensures in
    record {
      counted = sym c.resize.new.self.ok.0 ∙ c.in_ok-resize.ensures.len ∙ c.count.ensures;
      small = omega arith;
      at = λ d. ap (λ (key : Key). key.text) (get_or_default keys 0 _ d some);
      ranked = ranked_first f numbers c.new-texts.result.items c.push.new.self.items _ c.in_ok-push.ensures.items c.new-texts.ensures.items (all_none numbers c.new-of_objects.result.items _ _ c.in_ok-resize.ensures.items c.new-of_objects.ensures.items);
    }

pub returns-then-is_empty : goal.returns-then-is_empty
returns-then-is_empty c = c.none.ensures (octets_of c.args.file.now)

pub index_mut-requires : goal.index_mut-requires
index_mut-requires c =
    object_within (octets_of c.args.file.now) c.loop-key.of_objects.items c.loop-key.of_objects.len c.args.keys.now c.loop-key.key-index c.key-item.result c.key-item.is c.loop-key.of_objects.ok.0 c.loop-key.invariant.counted c.requires.held c.loop-key-test.true
