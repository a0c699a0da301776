use Rattle.std.proofs.Common.{sym, ◌∙◌, ◌<◌, ◌*◌, arith, refl, rules, subst, length}
use Rattle.std.proofs.lemmas.Grind.{pieces}
use Rattle.plist_value.specs.Plist.{text}
use Rattle.plist_value.specs.Texts.{units_of}
use Rattle.plist_object.specs.Objects.{IsContent}
use Rattle.plist_object.specs.Places.{Holds}
use Rattle.plist_binary.specs.declared.states.ObjectState.TheVariants.{Key}
use Rattle.plist_binary.specs.declared.fault.BinaryFault.TheVariants.{TooMuchPayload}
use Rattle.plist_binary.specs.Progress.{above, walked}
use Rattle.plist_binary.specs.Readings.{RefusesKey}
use Rattle.plist_binary.specs.States.{IsState}
use Rattle.plist_binary.proofs.ItemSteps.{RefusesKey-value, RefusesKey-other}
use Rattle.plist_binary.proofs.Making.{IsWithinLimits-spent, AreStates-but, AreStates-visited, Reads-scalar, Refuses-payload}
use Rattle.plist_binary.proofs.PassSteps.{IsKey-read, ReadsKey-known}
use Rattle.plist_binary.proofs.walker.Walker.string_key.Goals as goal

pub returns-in_err-enter-clause-refused : goal.returns-in_err-enter-clause-refused
returns-in_err-enter-clause-refused c =
    let node = c.args.key.now in
    let refused : RefusesKey (walked c.args.self.now) node.object node.levels c.args.progress.now.left c.in_err-enter.field-0.0 = RefusesKey-value _ _ _ _ _ c.in_err-enter.ensures.refused in
    search rules

pub returns-in_default-text_in-clause-refused : goal.returns-in_default-text_in-clause-refused
returns-in_default-text_in-clause-refused c =
    RefusesKey-other _ _ _ _ _ _ c.requires.key c.in_ok-enter.ensures.held c.in_default-text_in.ensures.other

pub returns-in_err-take_payload-clause-refused : goal.returns-in_err-take_payload-clause-refused
returns-in_err-take_payload-clause-refused c =
    let f = walked c.args.self.now in
    let node = c.args.key.now in
    let units = units_of c.in-Some-text_in.text in
    let holds = subst (Holds f node.object) c.in-Some-text_in.ensures.text c.in_ok-enter.ensures.held in
    let over : c.enter.new.progress.left.payload < 2 * length units = c.in_err-take_payload.ensures.over.1 in
    let refused : RefusesKey f node.object node.levels c.args.progress.now.left (TooMuchPayload node.object) = RefusesKey-value _ _ _ _ _ (Refuses-payload (text units) c.args.self.now.laid c.requires.due c.in_ok-enter.ensures.taken holds over) in
    search rules

pub returns-in-Some-clause-read : goal.returns-in-Some-clause-read
returns-in-Some-clause-read c =
    let f = walked c.args.self.now in
    let so_far = c.requires.due.so_far in
    let known = subst (IsState f (above c.args.key.now) c.args.progress.now.writable c.args.key.now.object) (sym c.state_at.ensures ∙ c.in-Key.is) (so_far.states.each c.args.key.now.object) in
    ReadsKey-known known (c.in-Some.ensures f (above c.args.key.now) so_far)

pub returns-in-Some-clause-progress : goal.returns-in-Some-clause-progress
returns-in-Some-clause-progress c =
    let so_far = c.requires.due.so_far in
    let spent = (returns-in-Some-clause-read c).reads.spent in
    record {
      is = record { states = so_far.states; ready = so_far.ready; within = IsWithinLimits-spent so_far.within spent };
      writable = refl;
    }

pub returns-clause-read : goal.returns-clause-read
returns-clause-read c =
    let holds = subst (Holds (walked c.args.self.now) c.args.key.now.object) c.in-Some-text_in.ensures.text c.in_ok-enter.ensures.held in
    let valid = subst IsContent c.in-Some-text_in.ensures.text c.in_ok-enter.ensures.valid in
    record {
      units = units_of c.in-Some-text_in.text;
      reads = Reads-scalar c.take_payload.new.left (text (units_of c.in-Some-text_in.text)) holds valid c.in_ok-enter.ensures.taken c.in_ok-take_payload.ensures.ok;
    }

pub returns-clause-progress : goal.returns-clause-progress
returns-clause-progress c =
    let object = c.args.key.now.object in
    let taken = c.in_ok-enter.ensures.taken in
    let so_far = taken.so_far.is in
    let read = returns-clause-read c in
    let size = c.of-payload.result.payload in
    let known = IsKey-read (walked c.args.self.now) object c.args.key.now.levels c.args.progress.now.left c.take_payload.new.left read.units size read.reads c.of-payload.ensures.payload in
    record {
      is = record {
        states = AreStates-visited object (Key size) c.in_ok-mark.ensures known taken.new (AreStates-but object so_far.states);
        ready = so_far.ready;
        within = IsWithinLimits-spent so_far.within c.in_ok-take_payload.ensures.ok;
      };
      writable = taken.so_far.writable;
    }

pub returns-in_err-mark-clause-refused : goal.returns-in_err-mark-clause-refused
returns-in_err-mark-clause-refused c = search (pieces, arith)
