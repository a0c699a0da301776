use Rattle.std.proofs.Common.{◌<◌, ◌≤◌, arith, length, refl}
use Rattle.std.specs.Prelude.{slice_index}
use Rattle.plist_object.specs.Views.{numbers_of}
use Rattle.plist_canon.specs.Preorders.{frame_group}
use Rattle.plist_canon.specs.Steps.{SkipsScalar}
use Rattle.plist_canon.proofs.Paths.{GoesOn-here, GoesOn-past, GoesOn-end}
use Rattle.plist_canon.proofs.preorder.first_other.Goals as goal

pub loop-index-init : goal.loop-index-init
loop-index-init c = λ outer f weighed stands. stands

pub returns-then-not-skip_scalar : goal.returns-then-not-skip_scalar
returns-then-not-skip_scalar c =
    let frame = c.args.frame.now in
    let refs = numbers_of frame.refs in
    let k = c.loop-index.index in
    let below : k < length refs = omega (arith, c.len-index-end.ensures) in
    let here = GoesOn-here c.args.weights.now (frame_group frame) frame.owner frame.levels refs k c.args.left.now c.loop-index.left c.loop-index.invariant below in
    rw (c.if-not-skip_scalar.ensures.stays refl)
    (record {
      goes = rw c.get-reference.ensures here;
      none = c.if-not-skip_scalar.ensures.none refl;
    })

pub loop-index-preserved : goal.loop-index-preserved
loop-index-preserved c =
    let frame = c.args.frame.now in
    let refs = numbers_of frame.refs in
    let k = c.loop-index.index in
    let below : k < length refs = omega (arith, c.len-index-end.ensures) in
    let passes : SkipsScalar c.args.weights.now frame.levels (slice_index refs k) c.loop-index.left c.skip_scalar.new.left = rw c.get-reference.ensures at (c.skip_scalar.ensures.passed c.if-not-skip_scalar.false) in
    GoesOn-past c.args.weights.now (frame_group frame) frame.owner frame.levels refs k c.args.left.now c.loop-index.left c.loop-index.invariant c.skip_scalar.new.left below passes

pub returns : goal.returns
returns c =
    let frame = c.args.frame.now in
    let refs = numbers_of frame.refs in
    let past : length refs ≤ c.loop-index.index = omega (arith, c.len-index-end.ensures) in
    record {
      goes = GoesOn-end c.args.weights.now (frame_group frame) frame.owner frame.levels refs c.loop-index.index c.args.left.now c.loop-index.left c.loop-index.invariant past;
      none = tt;
    }
