use Rattle.std.proofs.Common.{◌≡◌, sym, ap, subst, ◌∙◌}
use Rattle.ostep_text.specs.Text.{lexemes}
use Rattle.ostep_text.specs.Phrase.{TopPhrase}
use Rattle.ostep_text.proofs.Places.{placed}
use Rattle.ostep_text.proofs.PhraseLemmas.{TopPhrase-same}
use Rattle.ostep_text.proofs.laws.one_value.Goals as goal

pub returns : goal.returns
returns c = λ octets v w t u.
    let p = placed t in
    let q = placed u in
    let same : t.tokens ≡ u.tokens = sym p.are ∙ (ap lexemes (c.one_lexing.ensures octets p.tokens q.tokens p.has q.has) ∙ q.are) in
    TopPhrase-same (subst (λ x. TopPhrase x v) same t.phrase) u.phrase
