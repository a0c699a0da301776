use Rattle.std.specs.List.{IsDistinct}
use Rattle.plist_object.specs.Views.{numbers_of}
use Rattle.plist_keys.proofs.Ascents.{same_key}
use Rattle.plist_binary.specs.Progress.{walked}
use Rattle.plist_binary.proofs.Beginning.{AreDue-ends}
use Rattle.plist_binary.proofs.Sorting.{NameTexts-read, RefusesKeys-twice, ascend_distinct, distinct_ascend}
use Rattle.plist_binary.proofs.walker.Walker.distinct_keys.Goals as goal

pub sort-requires-clause-names : goal.sort-requires-clause-names
sort-requires-clause-names c =
    NameTexts-read (walked c.args.self.now) (numbers_of c.args.refs) c.in_ok-string_keys.ensures.read.0 c.in_ok-string_keys.ensures.read.1.spell

pub returns-then-not-branch-clause-refused : goal.returns-then-not-branch-clause-refused
returns-then-not-branch-clause-refused c =
    let f = walked c.args.self.now in
    let refs = numbers_of c.args.refs in
    let read = c.in_ok-string_keys.ensures.read in
    let not_distinct : IsDistinct same_key read.0 → ⊥ = λ distinct.
    let told = c.in_ok-sort.ensures.distinct.1 (ascend_distinct f refs c.sort.new.self.last.indices.items read.0 read.1.spell c.in_ok-sort.ensures.order distinct) in
    let said = c.if-not-branch.true in
    cc in
    RefusesKeys-twice f refs _ _ _ c.string_keys.new.progress.left read.0 (AreDue-ends c.args.self.now.laid c.requires.due) c.requires.keys read.1 not_distinct

pub returns-clause-read : goal.returns-clause-read
returns-clause-read c =
    let f = walked c.args.self.now in
    let refs = numbers_of c.args.refs in
    let places = c.sort.new.self.last.indices.items in
    let read = c.in_ok-string_keys.ensures.read in
    let so_far = c.in_ok-string_keys.ensures.progress in
    record {
      read = record {
        keys = read.0;
        reads = read.1;
        distinct = distinct_ascend f refs places read.0 read.1.spell c.in_ok-sort.ensures.order (c.in_ok-sort.ensures.distinct.0 c.if-not-branch.false);
      };
      so_far = record {
        is = record { states = so_far.is.states; ready = c.sort.ensures.ready; within = so_far.is.within };
        writable = so_far.writable;
      };
    }
