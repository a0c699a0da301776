use Rattle.std.proofs.Common.{refl}
use Rattle.plist_explain.specs.Topics.{refusal_entries}
use Rattle.plist_explain.proofs.explaining.refusals.Goals as goal

pub returns : goal.returns
unfolding refusal_entries
returns c = refl
