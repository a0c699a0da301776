use Rattle.plist_forms.proofs.canonicals.begins_as_binary.Goals as goal

pub returns : goal.returns
returns c = c.starts_with.ensures.value
