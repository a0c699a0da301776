use Rattle.std.proofs.Common.{refl}
use Rattle.plist_explain.specs.Topics.{rule_entries}
use Rattle.plist_explain.proofs.explaining.rules.Goals as goal

pub returns : goal.returns
unfolding rule_entries
returns c = refl
