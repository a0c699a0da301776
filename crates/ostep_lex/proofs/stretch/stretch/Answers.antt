use Rattle.ostep_lex.specs.Stretch.{BeginsWithStretch}
use Rattle.ostep_lex.proofs.StretchLemmas.{cut}
use Rattle.ostep_lex.proofs.stretch.stretch.Goals as goal

pub split_at-requires : goal.split_at-requires
split_at-requires c =
    let s : BeginsWithStretch c.args.class c.args.text.now c.after_stretch-after.result.now = rw c.as_bytes.ensures.value at c.after_stretch-after.ensures in
    (cut s c.utf8.text).boundary

pub returns-clause-stretch : goal.returns-clause-stretch
returns-clause-stretch c =
    let s : BeginsWithStretch c.args.class c.args.text.now c.after_stretch-after.result.now = rw c.as_bytes.ensures.value at c.after_stretch-after.ensures in
    rw (c.as_bytes-2.ensures.value, c.split_at.ensures.front) (cut s c.utf8.text).stretch

pub returns-clause-chars : goal.returns-clause-chars
returns-clause-chars c =
    let s : BeginsWithStretch c.args.class c.args.text.now c.after_stretch-after.result.now = rw c.as_bytes.ensures.value at c.after_stretch-after.ensures in
    rw (c.as_bytes-2.ensures.value, c.split_at.ensures.front, c.split_at.ensures.back) (cut s c.utf8.text).characters
