use Rattle.std.proofs.Common.{sym}
use Rattle.ostep_lex.specs.Lexing.{HasNoTokens}
use Rattle.ostep_lex.specs.Stands.{HasXml}
use Rattle.ostep_lex.proofs.Exits.{passed_on}
use Rattle.ostep_lex.proofs.LawProofs.{faulty_has_none, HasXml-none}
use Rattle.ostep_lex.proofs.LexerSteps.{opens_after, opens_other, opens_xml}
use Rattle.ostep_lex.proofs.opening.open.Goals as goal
use Rattle.ostep_lex.proofs.opening.open.Goals.{After-offset}

-- an XML property list begins
xml : (c : After-offset) → HasXml c.args.octets.now c.offset.result
xml c = opens_xml _ _ c.in_ok-cursor.ensures.ok c.after_white-text.ensures.white c.after_white-text.ensures.input (sym c.if-begins_xml.ensures) c.offset.ensures

pub returns-in_err-cursor-clause-refused : goal.returns-in_err-cursor-clause-refused
returns-in_err-cursor-clause-refused c =
    passed_on (λ fault. HasNoTokens c.args.octets.now) _ c.from_residual.result c.from_residual.ensures.1
    (faulty_has_none c.args.octets.now _ c.in_err-cursor.ensures.err c.in_err-cursor.ensures.memory)

pub returns-then-begins_xml-clause-stands : goal.returns-then-begins_xml-clause-stands
returns-then-begins_xml-clause-stands c = xml (goal.at.returns-then-begins_xml-clause-stands c).After-offset

pub returns-then-begins_xml-clause-refused : goal.returns-then-begins_xml-clause-refused
returns-then-begins_xml-clause-refused c = HasXml-none (xml (goal.at.returns-then-begins_xml-clause-refused c).After-offset)

pub returns-clause-ok : goal.returns-clause-ok
returns-clause-ok c = opens_after c.in_ok-cursor.ensures.ok

pub returns-clause-other : goal.returns-clause-other
returns-clause-other c =
    opens_other _ _ c.in_ok-cursor.ensures.ok c.after_white-text.ensures.white c.after_white-text.ensures.all
    (sym c.if-begins_xml.ensures)
