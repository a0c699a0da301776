use Rattle.std.proofs.Common.{rules}
use Rattle.plist_value.proofs.utf16.Utf16PartialEq.eq.Goals as goal

pub returns : goal.returns
returns c = search rules
