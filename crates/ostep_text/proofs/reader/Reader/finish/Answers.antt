use Rattle.std.proofs.Common.{◌∷◌, ◌++◌, [], refl}
use Rattle.ostep_lex.specs.Lexeme.{located}
use Rattle.ostep_lex.specs.Lexing.{HasTokens}
use Rattle.ostep_text.specs.Phrase.{a_value}
use Rattle.ostep_text.specs.Stands.{Stands}
use Rattle.ostep_text.specs.Reading.{HasRead}
use Rattle.ostep_lex.proofs.Exits.{passed_on}
use Rattle.ostep_text.proofs.Places.{is-text}
use Rattle.ostep_text.proofs.Standing.{junk-at, value-ends}
use Rattle.ostep_text.proofs.ReadSteps.{whole-phrase}
use Rattle.ostep_text.proofs.reader.Reader.finish.Goals as goal

pub returns-in_err-next-clause-stands : goal.returns-in_err-next-clause-stands
returns-in_err-next-clause-stands c octets first v r e =
    passed_on (Stands octets) c.in_err-next.field-0.0 c.from_residual.result c.from_residual.ensures.1 (c.in_err-next.ensures.stands octets r.reads.all r.reads.has)

pub returns-in-None-clause-read : goal.returns-in-None-clause-read
returns-in-None-clause-read c octets first v m r p f =
    let all : HasTokens octets r.reads.all = rw c.in-None.is at (c.in_ok-next.ensures.read octets r.reads.all r.reads.has) in
    (v, m, is-text v r.reads.all all (whole-phrase r) p f)

pub returns-in-Some-clause-stands : goal.returns-in-Some-clause-stands
returns-in-Some-clause-stands c octets first v r e =
    let token = located c.in-Some.token in
    let read : HasRead octets (r.reads.all ++ token ∷ []) c.next.new.self = rw c.in-Some.is at (c.in_ok-next.ensures.read octets r.reads.all r.reads.has) in
    c.refuse.ensures octets (r.reads.all ++ token ∷ []) read
    (junk-at r.reads.all token (λ rest. first ∷ r.inside rest) (r.reads.follow (λ rest. rest) (λ rest. refl)) read (λ n. cc n) (v, a_value (r.spells []))
    (λ rest. value-ends r e token.lexeme rest))
