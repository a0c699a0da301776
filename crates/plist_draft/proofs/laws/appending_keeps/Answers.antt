use Rattle.plist_draft.proofs.Telling.{appending_keeps}
use Rattle.plist_draft.proofs.laws.appending_keeps.Goals as goal

pub returns : goal.returns
returns c = appending_keeps
