use Rattle.std.proofs.Common.{◌≡◌, ◌+◌, ◌-◌, take, length, rules, subst, sym, ◌∙◌, arith}
use Rattle.std.proofs.lemmas.Grind.{pieces}
use Rattle.plist_value.specs.Plist.{IsScalar}
use Rattle.plist_value.specs.View.{items_of}
use Rattle.plist_value.specs.Scalars.{content_of}
use Rattle.plist_value.specs.Writable.{is_writable_scalar}
use Rattle.plist_object.specs.Objects.{holds_scalar, holds_list, holds_table}
use Rattle.plist_object.specs.Places.{Holds}
use Rattle.plist_object.specs.Views.{numbers_of}
use Rattle.plist_binary.specs.declared.fault.BinaryFault.TheVariants.{BadReference, TooMuchPayload}
use Rattle.plist_binary.specs.declared.states.ObjectState.{ObjectState}
use Rattle.plist_binary.specs.declared.states.ObjectState.TheVariants.{Passed}
use Rattle.plist_binary.specs.Progress.{PassesBelow, RefusesBelow, RefusesNode, walked}
use Rattle.plist_binary.specs.Readings.{texts}
use Rattle.plist_binary.specs.States.{IsRecorded}
use Rattle.plist_binary.proofs.Beginning.{AreDue-ends, AreNext-items, AreNext-keys, AreNext-values, Comes-refers, IsBegun-next}
use Rattle.plist_binary.proofs.ItemSteps.{Contains-at, RefusesItems-next, RefusesItems-none}
use Rattle.plist_binary.proofs.Making.{AreStates-but, AreStates-open, AreStates-visited, AreStates-weaker, IsProgress-last, IsWithinLimits-spent, Refuses-list, Refuses-payload, Refuses-table}
use Rattle.plist_binary.proofs.PassSteps.{IsValueSize-passed, Passes-scalar, Passes-list, Passes-table, PassesItems-next, PassesPairs-read}
use Rattle.plist_binary.proofs.TableSteps.{RefusesPairs-keys, RefusesPairs-values}
use Rattle.plist_binary.proofs.walker.Walker.+walk.Goals as goal

pub content_depth-returns-in_err-take_payload-in-Scalar-clause-refused : goal.content_depth-returns-in_err-take_payload-in-Scalar-clause-refused
content_depth-returns-in_err-take_payload-in-Scalar-clause-refused t c =
    let node = c.args.node.now in
    let holds : Holds (walked c.args.self.now) node.object (holds_scalar (content_of c.in-Scalar.scalar)) = rw c.in-Scalar.is at c.in_ok-scalar.ensures.held in
    let refused : RefusesNode (walked c.args.self.now) node c.args.progress.now (TooMuchPayload node.object) = Refuses-payload _ c.args.self.now.laid c.requires c.in_ok-scalar.ensures.taken holds c.in_err-take_payload-in-Scalar.ensures.over.1 in
    search rules

pub content_depth-returns-in_ok-take_payload-in-Scalar-clause-passed : goal.content_depth-returns-in_ok-take_payload-in-Scalar-clause-passed
content_depth-returns-in_ok-take_payload-in-Scalar-clause-passed t c =
    let s = content_of c.in-Scalar.scalar in
    let holds : Holds (walked c.args.self.now) c.args.node.now.object (holds_scalar s) = rw c.in-Scalar.is at c.in_ok-scalar.ensures.held in
    let valid : IsScalar s = rw c.in-Scalar.is at c.in_ok-scalar.ensures.valid in
    Passes-scalar c.take_payload.new.left s holds valid c.in_ok-scalar.ensures.taken c.in_ok-take_payload-in-Scalar.ensures.ok c.are_writable-progress.ensures

pub content_depth-returns-in_ok-take_payload-in-Scalar-clause-progress : goal.content_depth-returns-in_ok-take_payload-in-Scalar-clause-progress
content_depth-returns-in_ok-take_payload-in-Scalar-clause-progress t c =
    let taken = c.in_ok-scalar.ensures.taken in
    let so_far = taken.so_far.is in
    record {
      new = taken.new;
      states = rw c.are_writable-progress.ensures (AreStates-but c.args.node.now.object (AreStates-weaker (is_writable_scalar (content_of c.in-Scalar.scalar)) so_far.states));
      ready = so_far.ready;
      within = IsWithinLimits-spent so_far.within c.in_ok-take_payload-in-Scalar.ensures.ok;
    }

pub content_depth-items_depth-requires : goal.content_depth-items_depth-requires
content_depth-items_depth-requires t c =
    let refs = numbers_of c.in-List.items in
    let holds : Holds (walked c.args.self.now) c.args.node.now.object (holds_list refs) = rw c.in-List.is at c.in_ok-scalar.ensures.held in
    let taken = c.in_ok-scalar.ensures.taken in
    let so_far = taken.so_far.is in (
      search rules,
      record {
        next = AreNext-items refs c.requires taken holds;
        depth = c.requires.depth;
        so_far = record { states = AreStates-open c.args.node.now.object c.in_ok-mark-in-List.ensures so_far.states; ready = so_far.ready; within = so_far.within };
      },
    )

pub content_depth-returns-in_err-deep-in-List-clause-refused : goal.content_depth-returns-in_err-deep-in-List-clause-refused
content_depth-returns-in_err-deep-in-List-clause-refused t c =
    let refs = numbers_of c.in-List.items in
    let holds : Holds (walked c.args.self.now) c.args.node.now.object (holds_list refs) = rw c.in-List.is at c.in_ok-scalar.ensures.held in
    let refused : RefusesNode (walked c.args.self.now) c.args.node.now c.args.progress.now c.in_err-deep-in-List.field-0.0 = Refuses-list refs holds c.in_ok-scalar.ensures.taken c.in_err-deep-in-List.ensures.refused in
    search rules

pub content_depth-returns-in_ok-deep-in-List-clause-passed : goal.content_depth-returns-in_ok-deep-in-List-clause-passed
content_depth-returns-in_ok-deep-in-List-clause-passed t c =
    let refs = numbers_of c.in-List.items in
    let holds : Holds (walked c.args.self.now) c.args.node.now.object (holds_list refs) = rw c.in-List.is at c.in_ok-scalar.ensures.held in
    Passes-list refs holds c.in_ok-scalar.ensures.taken c.in_ok-deep-in-List.ensures.passed

pub content_depth-returns-in_ok-deep-in-List-clause-progress : goal.content_depth-returns-in_ok-deep-in-List-clause-progress
content_depth-returns-in_ok-deep-in-List-clause-progress t c =
    IsProgress-last c.in_ok-scalar.ensures.taken.new c.in_ok-deep-in-List.ensures.progress

pub content_depth-distinct_keys-requires-clause-due : goal.content_depth-distinct_keys-requires-clause-due
content_depth-distinct_keys-requires-clause-due t c =
    let keys = numbers_of c.in-Table.keys in
    let values = numbers_of c.in-Table.values in
    let holds : Holds (walked c.args.self.now) c.args.node.now.object (holds_table keys values) = rw c.in-Table.is at c.in_ok-scalar.ensures.held in
    let taken = c.in_ok-scalar.ensures.taken in
    let so_far = taken.so_far.is in
    record {
      next = AreNext-keys keys values c.requires taken holds;
      depth = c.requires.depth;
      so_far = record { states = AreStates-open c.args.node.now.object c.in_ok-mark-in-Table.ensures so_far.states; ready = so_far.ready; within = so_far.within };
    }

pub content_depth-returns-in_err-distinct_keys-in-Table-clause-refused : goal.content_depth-returns-in_err-distinct_keys-in-Table-clause-refused
content_depth-returns-in_err-distinct_keys-in-Table-clause-refused t c =
    let keys = numbers_of c.in-Table.keys in
    let values = numbers_of c.in-Table.values in
    let holds : Holds (walked c.args.self.now) c.args.node.now.object (holds_table keys values) = rw c.in-Table.is at c.in_ok-scalar.ensures.held in
    let long : length keys ≡ length values = rw c.in-Table.is at c.in_ok-scalar.ensures.valid in
    let refused : RefusesNode (walked c.args.self.now) c.args.node.now c.args.progress.now c.in_err-distinct_keys-in-Table.field-0.0 = Refuses-table keys values holds c.in_ok-scalar.ensures.taken (RefusesPairs-keys _ keys values _ _ _ long c.in_err-distinct_keys-in-Table.ensures.refused) in
    search rules

pub content_depth-items_depth-requires-in-Table : goal.content_depth-items_depth-requires-in-Table
content_depth-items_depth-requires-in-Table t c =
    let keys = numbers_of c.in-Table.keys in
    let values = numbers_of c.in-Table.values in
    let holds : Holds (walked c.args.self.now) c.args.node.now.object (holds_table keys values) = rw c.in-Table.is at c.in_ok-scalar.ensures.held in
    let both = c.in_ok-distinct_keys-in-Table.ensures.read in (
      search rules,
      record {
        next = AreNext-values keys values c.distinct_keys.new.progress.left (texts both.read.keys) c.requires c.in_ok-scalar.ensures.taken holds both.read.reads;
        depth = c.requires.depth;
        so_far = both.so_far.is;
      },
    )

pub content_depth-returns-in_err-deep-in-Table-clause-refused : goal.content_depth-returns-in_err-deep-in-Table-clause-refused
content_depth-returns-in_err-deep-in-Table-clause-refused t c =
    let keys = numbers_of c.in-Table.keys in
    let values = numbers_of c.in-Table.values in
    let holds : Holds (walked c.args.self.now) c.args.node.now.object (holds_table keys values) = rw c.in-Table.is at c.in_ok-scalar.ensures.held in
    let long : length keys ≡ length values = rw c.in-Table.is at c.in_ok-scalar.ensures.valid in
    let read = c.in_ok-distinct_keys-in-Table.ensures.read.read in
    let refused : RefusesNode (walked c.args.self.now) c.args.node.now c.args.progress.now c.in_err-deep-in-Table.field-0.0 = Refuses-table keys values holds c.in_ok-scalar.ensures.taken (RefusesPairs-values _ keys values _ _ _ read.keys _ long read.reads c.in_err-deep-in-Table.ensures.refused) in
    search rules

pub content_depth-returns-in_ok-deep-in-Table-clause-passed : goal.content_depth-returns-in_ok-deep-in-Table-clause-passed
content_depth-returns-in_ok-deep-in-Table-clause-passed t c =
    let keys = numbers_of c.in-Table.keys in
    let values = numbers_of c.in-Table.values in
    let holds : Holds (walked c.args.self.now) c.args.node.now.object (holds_table keys values) = rw c.in-Table.is at c.in_ok-scalar.ensures.held in
    let long : length keys ≡ length values = rw c.in-Table.is at c.in_ok-scalar.ensures.valid in
    let both = c.in_ok-distinct_keys-in-Table.ensures.read in
    let read = both.read in
    let pairs = PassesPairs-read _ keys values _ _ _ _ read.keys _ long read.reads c.in_ok-deep-in-Table.ensures.passed read.distinct in
    Passes-table keys values holds c.in_ok-scalar.ensures.taken both.so_far.writable pairs

pub content_depth-returns-in_ok-deep-in-Table-clause-progress : goal.content_depth-returns-in_ok-deep-in-Table-clause-progress
content_depth-returns-in_ok-deep-in-Table-clause-progress t c =
    IsProgress-last c.in_ok-scalar.ensures.taken.new c.in_ok-deep-in-Table.ensures.progress

pub items_depth-overflow_sub-levels : goal.items_depth-overflow_sub-levels
items_depth-overflow_sub-levels t c = omega (arith, c.requires.depth, c.requires.next.begins.deep)

pub items_depth-returns-in_err-object-clause-refused : goal.items_depth-returns-in_err-object-clause-refused
items_depth-returns-in_err-object-clause-refused t c =
    let refers = Comes-refers c.get.result c.requires.next.begins.comes (Contains-at _ c.loop-i.i c.get.result (omega arith) c.get.ensures) in
    let refused : RefusesBelow (walked c.args.self.now) c.args.container.now (numbers_of c.args.refs) c.args.progress.now (BadReference c.args.container.now.object) = RefusesItems-none _ _ _ c.loop-i.i _ _ _ (AreDue-ends c.args.self.now.laid c.requires) refers (omega arith) c.get.ensures c.in_err-object.ensures.above.1 in
    search rules

pub items_depth-validate-requires : goal.items_depth-validate-requires
items_depth-validate-requires t c =
    let due = c.requires in (
      search rules,
      record {
        listed = c.in_ok-object.ensures.below;
        begun = IsBegun-next c.loop-i.i c.in_ok-object.object c.loop-i.progress.left (items_of c.loop-i.invariant.passed.values) due (omega arith) (c.in_ok-object.ensures.same ∙ c.get.ensures) c.loop-i.invariant.passed.reads;
        depth = omega (arith, due.depth, due.next.begins.deep);
        so_far = c.loop-i.invariant.progress;
      },
    )

pub items_depth-returns-in_err-deep-clause-refused : goal.items_depth-returns-in_err-deep-clause-refused
items_depth-returns-in_err-deep-clause-refused t c =
    let refused : RefusesBelow (walked c.args.self.now) c.args.container.now (numbers_of c.args.refs) c.args.progress.now c.in_err-deep.field-0.0 = RefusesItems-next _ _ c.loop-i.i c.in_ok-object.object _ _ c.loop-i.progress.left (items_of c.loop-i.invariant.passed.values) _ (omega arith) (c.in_ok-object.ensures.same ∙ c.get.ensures) c.in_ok-object.ensures.below c.loop-i.invariant.passed.reads c.in_err-deep.ensures.refused in
    search rules

pub items_depth-loop-i-preserved : goal.items_depth-loop-i-preserved
items_depth-loop-i-preserved t c =
    let container = c.args.container.now in
    let refs = numbers_of c.args.refs in
    let before = c.args.progress.now in
    let after = c.validate.new.progress in
    let passed = PassesItems-next (walked c.args.self.now) refs c.loop-i.i c.in_ok-object.object (container.levels - 1) before.left c.loop-i.progress.left after.left c.loop-i.deepest c.in_ok-deep.deep (omega arith) (c.in_ok-object.ensures.same ∙ c.get.ensures) c.in_ok-object.ensures.below c.loop-i.invariant.passed c.in_ok-deep.ensures.passed in
    record {
      passed = subst (PassesBelow (walked c.args.self.now) container (take (c.loop-i.i + 1) refs) before after) (sym c.deeper-deepest.ensures) passed;
      progress = c.in_ok-deep.ensures.progress;
    }

pub validate-returns-clause-progress : goal.validate-returns-clause-progress
validate-returns-clause-progress t c =
    let object = c.args.node.now.object in
    let size = c.of-size.result in
    let known = IsValueSize-passed size c.in_ok-deep.ensures.passed c.of-size.ensures.nodes c.of-size.ensures.payload c.of-size.ensures.depth in
    let so_far = c.in_ok-deep.ensures.progress in
    let mark = subst (λ (state : ObjectState). IsRecorded c.content_depth.new.progress.states.items object state c.mark.new.states.items) c.passed.ensures c.in_ok-mark.ensures in
    record {
      states = AreStates-visited object (Passed size.depth size.nodes size.payload) mark known so_far.new so_far.states;
      ready = so_far.ready;
      within = so_far.within;
    }

pub validate-of-size-requires-clause-nodes_left : goal.validate-of-size-requires-clause-nodes_left
validate-of-size-requires-clause-nodes_left t c = omega (arith, c.in_ok-deep.ensures.passed.reads.spent.nodes_left)

pub validate-of-size-requires-clause-payload_left : goal.validate-of-size-requires-clause-payload_left
validate-of-size-requires-clause-payload_left t c = omega (arith, c.in_ok-deep.ensures.passed.reads.spent.payload_left)

pub validate-returns-clause-passed : goal.validate-returns-clause-passed
validate-returns-clause-passed t c = c.in_ok-deep.ensures.passed

pub validate-returns-in_err-mark-clause-refused : goal.validate-returns-in_err-mark-clause-refused
validate-returns-in_err-mark-clause-refused t c = search (pieces, arith)

pub validate-content_depth-requires : goal.validate-content_depth-requires
validate-content_depth-requires t c = (search rules, c.requires)
