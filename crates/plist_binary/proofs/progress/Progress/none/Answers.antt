use Rattle.std.proofs.Common.{rules}
use Rattle.plist_binary.proofs.progress.Progress.none.Goals as goal

pub returns-clause-progress : goal.returns-clause-progress
returns-clause-progress c f =
    let ready = c.new-2.ensures f in
    search rules
