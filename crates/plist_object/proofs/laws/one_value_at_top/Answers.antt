use Rattle.plist_object.specs.Layout.{trailer_of}
use Rattle.plist_object.proofs.Uniqueness.{same_value}
use Rattle.plist_object.proofs.laws.one_value_at_top.Goals as goal

pub returns : goal.returns
returns c = λ f. same_value f (trailer_of f).top
