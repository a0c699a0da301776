use Rattle.std.proofs.Common.{◌∷◌, ◌++◌, [], rules, refl, ◌∙◌, arith}
use Rattle.plist_object.specs.Views.{numbers_of}
use Rattle.plist_binary.specs.declared.fault.BinaryFault.TheVariants.{BadReference}
use Rattle.plist_binary.specs.Progress.{RefusesDistinct, walked}
use Rattle.plist_binary.specs.Readings.{texts}
use Rattle.plist_binary.proofs.Beginning.{AreDue-ends, Comes-refers, IsBegun-next}
use Rattle.plist_binary.proofs.ItemSteps.{Contains-at, ReadsKeys-next, RefusesItems-none, RefusesKeys-items, RefusesKeys-next, Spends-none}
use Rattle.plist_binary.proofs.walker.Walker.string_keys.Goals as goal

pub overflow_sub-levels : goal.overflow_sub-levels
overflow_sub-levels c = omega (arith, c.requires.due.depth, c.requires.due.next.begins.deep)

pub returns-in_err-object-clause-refused : goal.returns-in_err-object-clause-refused
returns-in_err-object-clause-refused c =
    let due = c.requires.due in
    let refers = Comes-refers c.get.result due.next.begins.comes (Contains-at _ c.loop-i.i c.get.result (omega arith) c.get.ensures) in
    let refused : RefusesDistinct (walked c.args.self.now) c.args.table.now (numbers_of c.args.refs) c.args.progress.now (BadReference c.args.table.now.object) = RefusesKeys-items _ _ _ _ _ (RefusesItems-none _ _ _ c.loop-i.i _ _ _ (AreDue-ends c.args.self.now.laid due) refers (omega arith) c.get.ensures c.in_err-object.ensures.above.1) in
    search rules

pub returns-in_err-string_key-clause-refused : goal.returns-in_err-string_key-clause-refused
returns-in_err-string_key-clause-refused c =
    let refused : RefusesDistinct (walked c.args.self.now) c.args.table.now (numbers_of c.args.refs) c.args.progress.now c.in_err-string_key.field-0.0 = RefusesKeys-next _ _ c.loop-i.i c.in_ok-object.object _ _ c.loop-i.progress.left (texts c.loop-i.invariant.keys) _ (omega arith) (c.in_ok-object.ensures.same ∙ c.get.ensures) c.in_ok-object.ensures.below c.loop-i.invariant.read c.in_err-string_key.ensures.refused in
    search rules

pub string_key-requires-clause-due : goal.string_key-requires-clause-due
string_key-requires-clause-due c =
    let due = c.requires.due in
    record {
      listed = c.in_ok-object.ensures.below;
      begun = IsBegun-next c.loop-i.i c.in_ok-object.object c.loop-i.progress.left (texts c.loop-i.invariant.keys) due (omega arith) (c.in_ok-object.ensures.same ∙ c.get.ensures) c.loop-i.invariant.read;
      depth = omega (arith, due.depth, due.next.begins.deep);
      so_far = c.loop-i.invariant.progress.is;
    }

pub string_key-requires-clause-key : goal.string_key-requires-clause-key
string_key-requires-clause-key c = record {
  ends = AreDue-ends c.args.self.now.laid c.requires.due;
  keys = numbers_of c.args.refs;
  table = c.requires.keys;
  among = Contains-at _ c.loop-i.i _ (omega arith) (c.in_ok-object.ensures.same ∙ c.get.ensures);
}

pub loop-i-preserved : goal.loop-i-preserved
loop-i-preserved c =
    let so_far = c.in_ok-string_key.ensures.progress in
    record {
      keys = c.loop-i.invariant.keys ++ c.in_ok-string_key.ensures.read.units ∷ [];
      read = ReadsKeys-next (walked c.args.self.now) (numbers_of c.args.refs) c.loop-i.i c.in_ok-object.object _ _ c.loop-i.progress.left c.string_key.new.progress.left c.loop-i.invariant.keys c.in_ok-string_key.ensures.read.units (omega arith) (c.in_ok-object.ensures.same ∙ c.get.ensures) c.in_ok-object.ensures.below c.loop-i.invariant.read c.in_ok-string_key.ensures.read.reads;
      progress = record { is = so_far.is; writable = so_far.writable ∙ c.loop-i.invariant.progress.writable };
    }

pub loop-i-init : goal.loop-i-init
loop-i-init c = record {
  keys = [];
  read = record { spell = refl; valid = tt; deep = omega arith; spent = Spends-none c.args.progress.now.left };
  progress = record { is = c.requires.due.so_far; writable = refl };
}
