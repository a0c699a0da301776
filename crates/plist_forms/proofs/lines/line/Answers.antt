use Rattle.plist_forms.proofs.lines.line.Goals as goal

pub returns : goal.returns
returns c = c.format.ensures.ok
