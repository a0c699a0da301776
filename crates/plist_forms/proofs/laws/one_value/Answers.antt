use Rattle.plist_forms.proofs.Accepting as accepting
use Rattle.plist_forms.proofs.laws.one_value.Goals as goal

pub returns : goal.returns
returns c = accepting.one_value c.one_value_at_top.ensures c.one_value.ensures
