use Rattle.std.proofs.Common.{refl}
use Rattle.plist_value.proofs.text_ref.TextRef.of_units.Goals as goal

pub returns-clause-text : goal.returns-clause-text
returns-clause-text c = refl
