use Rattle.std.proofs.Common.{◌≡◌, ◌∷◌, [], refl, sym, ap, ◌∙◌, ℕ, List}
use Rattle.std.proofs.lemmas.Result.{IfOk-weaker}
use Rattle.plist_value.specs.Plist.{table, no_pairs}
use Rattle.plist_draft.specs.View.{objects}
use Rattle.ostep_lex.specs.Lexeme.{located, lexeme_of, text as string}
use Rattle.ostep_lex.specs.Lexing.{HasTokens}
use Rattle.ostep_text.specs.Stands.{Stands}
use Rattle.ostep_text.specs.Reading.{HasRead}
use Rattle.ostep_lex.proofs.Exits.{passed_on}
use Rattle.ostep_text.proofs.MachineLemmas.{front-begun}
use Rattle.ostep_text.proofs.BareSteps.{empty-text}
use Rattle.ostep_text.proofs.DraftSteps.{rows-none, no-memory}
use Rattle.ostep_text.proofs.reader.Reader.whole.Goals as goal
use Rattle.ostep_text.proofs.reader.Reader.whole.Goals.{In-Some}

-- the first token is read
one-read : (c : In-Some) (octets : List ℕ) → HasRead octets [] c.args.self.now.tokens → HasRead octets (located c.in-Some.first ∷ []) c.next.new.self
one-read c octets h = rw c.in-Some.is at (c.in_ok-first.ensures.read octets [] h)

pub returns-in_err-first-clause-stands : goal.returns-in_err-first-clause-stands
returns-in_err-first-clause-stands c octets h i =
    passed_on (Stands octets) c.in_err-first.field-0.0 c.from_residual.result c.from_residual.ensures.1 (c.in_err-first.ensures.stands octets [] h)

pub returns-in_default-clause-read : goal.returns-in_default-clause-read
returns-in_default-clause-read c octets h i =
    let all : HasTokens octets [] = rw c.in_default.is at (c.in_ok-first.ensures.read octets [] h) in
    let none = rows-none (objects c.args.self.now.draft) c.new-rows.result c.new-rows.ensures.keys c.new-rows.ensures.values in
    IfOk-weaker c.put_table.result _ _ (λ number s. (table no_pairs, s no_pairs none, empty-text all)) c.put_table.ensures.spells

pub returns-in_default-clause-stands : goal.returns-in_default-clause-stands
returns-in_default-clause-stands c octets h i = no-memory octets c.put_table.result c.put_table.ensures.memory

pub returns-in-Text-clause-read : goal.returns-in-Text-clause-read
returns-in-Text-clause-read c octets h i =
    let is : c.owned.result ≡ c.in-Text.text = rw c.in-Text.is at c.owned.ensures in
    c.string_first.ensures.read octets (located c.in-Some.first) (ap lexeme_of c.in-Text.is ∙ ap string (sym is)) refl (one-read (goal.at.returns-in-Text-clause-read c).In-Some octets h) i

pub returns-in-Text-clause-stands : goal.returns-in-Text-clause-stands
returns-in-Text-clause-stands c octets h i =
    let is : c.owned.result ≡ c.in-Text.text = rw c.in-Text.is at c.owned.ensures in
    c.string_first.ensures.stands octets (located c.in-Some.first) (ap lexeme_of c.in-Text.is ∙ ap string (sym is)) refl (one-read (goal.at.returns-in-Text-clause-stands c).In-Some octets h) i

-- if the first token is not a string
pub returns-in_default-kind-clause-read : goal.returns-in_default-kind-clause-read
returns-in_default-kind-clause-read c octets h i =
    c.value_first.ensures.read octets (one-read (goal.at.returns-in_default-kind-clause-read c).In-Some octets h) i

pub returns-in_default-kind-clause-stands : goal.returns-in_default-kind-clause-stands
returns-in_default-kind-clause-stands c octets h i =
    c.value_first.ensures.stands octets (one-read (goal.at.returns-in_default-kind-clause-stands c).In-Some octets h) i (front-begun c.in-Some.first.kind c.in_default-kind.not-Text)
