use Rattle.std.proofs.Common.{◌∙◌, []}
use Rattle.std.proofs.lemmas.List.{append-nil}
use Rattle.plist_forms.proofs.taken.Taken.unless_known.Goals as goal

pub returns-in-Other-clause-other : goal.returns-in-Other-clause-other
returns-in-Other-clause-other c same =
    let apart = rw c.in-Other.is at c.requires in apart [] (append-nil _ ∙ same)
