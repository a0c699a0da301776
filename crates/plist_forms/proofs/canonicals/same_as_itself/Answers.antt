use Rattle.std.proofs.Common.{refl}
use Rattle.plist_forms.proofs.canonicals.same_as_itself.Goals as goal

pub returns-in-Ok-clause-same : goal.returns-in-Ok-clause-same
returns-in-Ok-clause-same c = record {
  first = c.in-Ok.ensures.ok.0;
  second = c.in-Ok.ensures.ok.0;
  first_accepted = c.in-Ok.ensures.ok.1;
  second_accepted = c.in-Ok.ensures.ok.1;
  values = (λ _. refl, λ _. refl);
  files = (λ _. refl, λ _. refl);
}
