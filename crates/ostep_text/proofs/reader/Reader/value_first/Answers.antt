use Rattle.std.proofs.Common.{◌≡◌, ◌∷◌, [], true, false, refl, sym, ap, ◌∙◌}
use Rattle.ostep_lex.specs.Lexeme.{located, lexeme_of}
use Rattle.ostep_text.specs.Begun.{nothing, begins_value}
use Rattle.ostep_text.specs.Stands.{Stands}
use Rattle.ostep_text.specs.Machine
use Rattle.ostep_text.specs.Machine.{runs}
use Rattle.ostep_lex.proofs.Exits.{passed_on}
use Rattle.ostep_text.proofs.MachineLemmas.{stays-dead, none-begins}
use Rattle.ostep_text.proofs.Standing.{expected-front}
use Rattle.ostep_text.proofs.BareSteps.{whole-fits, front-due}
use Rattle.ostep_text.proofs.reader.Reader.value_first.Goals as goal

pub returns-then-not-begins_value-clause-stands : goal.returns-then-not-begins_value-clause-stands
returns-then-not-begins_value-clause-stands c octets h i f =
    let first = located c.args.first in
    let none : begins_value (first.lexeme ∷ []) ≡ false = sym c.begins_value.ensures ∙ c.if-not-begins_value.true in
    c.refuse.ensures octets (first ∷ []) h
    (expected-front first h (λ rest. ap (λ s. runs s rest) (f ∙ none-begins Machine.top c.args.first.kind none) ∙ stays-dead rest))

pub returns-in_err-value-clause-stands : goal.returns-in_err-value-clause-stands
returns-in_err-value-clause-stands c octets h i f =
    let begins : begins_value (lexeme_of c.args.first.kind ∷ []) ≡ true = sym c.begins_value.ensures ∙ c.if-not-begins_value.false in
    passed_on (Stands octets) c.in_err-value.field-0.0 c.from_residual.result c.from_residual.ensures.1
    (c.in_err-value.ensures.stands octets [] (λ rest. rest) nothing Machine.top (λ rest. refl) h (front-due (lexeme_of c.args.first.kind) f begins) i)

pub returns-clause-read : goal.returns-clause-read
returns-clause-read c octets h i =
    let b = c.in_ok-value.ensures.built in
    c.finish.ensures.read octets (lexeme_of c.args.first.kind) b.meant b.means_it (b.read octets [] h) b.taken.valid (whole-fits i b.taken)

pub returns-clause-stands : goal.returns-clause-stands
returns-clause-stands c octets h i f =
    let b = c.in_ok-value.ensures.built in
    c.finish.ensures.stands octets (lexeme_of c.args.first.kind) b.meant (b.read octets [] h) f
