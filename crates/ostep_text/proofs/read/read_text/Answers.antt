use Rattle.std.proofs.Common.{subst}
use Rattle.plist_value.specs.View.{view}
use Rattle.plist_object.specs.Spelled.{IsBinary}
use Rattle.ostep_text.specs.Text.{IsText}
use Rattle.ostep_text.proofs.read.read_text.Goals as goal

-- the file encodes one value
pub returns-in-Ok-clause-read : goal.returns-in-Ok-clause-read
returns-in-Ok-clause-read c =
    let d = c.in_ok-file.ensures.drafted in
    let b : IsBinary c.in_ok-file.file.items (view c.in-Ok.value) = rw c.deref.ensures.value at c.in-Ok.ensures.read in
    subst (λ v. IsText c.args.octets.now v) (c.one_value_at_top.ensures c.in_ok-file.file.items d.0 (view c.in-Ok.value) d.1.1.valid b.valid d.1.1.spells b.spells) d.1.0

pub unreachable-requires : goal.unreachable-requires
unreachable-requires c =
    let d = c.in_ok-file.ensures.drafted in
    c.in-Err.ensures.refused c.in_default.not-OutOfMemory d.0 (rw c.deref.ensures.value d.1.1)
