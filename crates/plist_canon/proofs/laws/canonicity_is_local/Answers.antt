use Rattle.plist_canon.proofs.Followed.{canonicity-local}
use Rattle.plist_canon.proofs.laws.canonicity_is_local.Goals as goal

pub returns : goal.returns
returns c = canonicity-local
