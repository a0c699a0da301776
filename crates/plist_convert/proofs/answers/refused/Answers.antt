use Rattle.std.proofs.Common.{rules}
use Rattle.plist_convert.proofs.answers.refused.Goals as goal

pub returns : goal.returns
returns c = search rules
