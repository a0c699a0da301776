use Rattle.std.proofs.Common.{refl}
use Rattle.plist_value.proofs.text_ref.TextRefPartialOrd.partial_cmp.Goals as goal

pub returns : goal.returns
returns c = rw c.cmp.ensures refl
