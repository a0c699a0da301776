use Rattle.std.proofs.Common.{◌≡◌, ◌&&◌, nat_lt, true, get_or, arith}
use Rattle.std.proofs.lemmas.List.{drop_more}
use Rattle.ostep_lex.specs.Stretch.{belongs}
use Rattle.ostep_lex.proofs.StretchLemmas.{stretch_none, stretch_more}
use Rattle.ostep_lex.proofs.stretch.after_stretch.Goals as goal

pub loop-count-init : goal.loop-count-init
loop-count-init c = record { within = omega arith; begins = stretch_none _ _ }

pub loop-count-preserved : goal.loop-count-preserved
loop-count-preserved c =
    let octets = c.args.octets.now in
    let count = c.loop-count.count in
    let belonging : (nat_lt (get_or octets count 0) 128 && belongs c.args.class (get_or octets count 0)) ≡ true = cc in
    record { within = omega arith; begins = stretch_more c.loop-count.invariant.begins (drop_more octets count 0 (omega arith)) belonging }
