use Rattle.std.proofs.Common.{ℕ, [], ◌∷◌, ap, ◌∙◌, take}
use Rattle.plist_object.specs.Shortest.{no, yes, octet, short, long, date}
use Rattle.plist_object.proofs.shortest.fixed_size.Goals as goal

pub returns-in-8-clause-size : goal.returns-in-8-clause-size
returns-in-8-clause-size c = record { marker = 8; fixed = no; begins = ap (take 1) c.in_ok-marker.ensures.cases.0 ∙ ap (λ (m : ℕ). m ∷ []) c.in-8.is }

pub returns-in-9-clause-size : goal.returns-in-9-clause-size
returns-in-9-clause-size c = record { marker = 9; fixed = yes; begins = ap (take 1) c.in_ok-marker.ensures.cases.0 ∙ ap (λ (m : ℕ). m ∷ []) c.in-9.is }

pub returns-in-16-clause-size : goal.returns-in-16-clause-size
returns-in-16-clause-size c = record { marker = 16; fixed = octet; begins = ap (take 1) c.in_ok-marker.ensures.cases.0 ∙ ap (λ (m : ℕ). m ∷ []) c.in-16.is }

pub returns-in-34-clause-size : goal.returns-in-34-clause-size
returns-in-34-clause-size c = record { marker = 34; fixed = short; begins = ap (take 1) c.in_ok-marker.ensures.cases.0 ∙ ap (λ (m : ℕ). m ∷ []) c.in-34.is }

pub returns-in-35-clause-size : goal.returns-in-35-clause-size
returns-in-35-clause-size c = record { marker = 35; fixed = long; begins = ap (take 1) c.in_ok-marker.ensures.cases.0 ∙ ap (λ (m : ℕ). m ∷ []) c.in-35.is }

pub returns-in-51-clause-size : goal.returns-in-51-clause-size
returns-in-51-clause-size c = record { marker = 51; fixed = date; begins = ap (take 1) c.in_ok-marker.ensures.cases.0 ∙ ap (λ (m : ℕ). m ∷ []) c.in-51.is }
