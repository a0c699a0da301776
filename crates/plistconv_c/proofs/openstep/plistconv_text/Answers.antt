use Rattle.plistconv_c.proofs.Outputs.{made, unmade}
use Rattle.plistconv_c.proofs.openstep.plistconv_text.Goals as goal

pub returns-clause-given : goal.returns-clause-given
returns-clause-given c =
    made _ _ _ _ _ _ c.written_text.result _ _ c.written_text.ensures.within c.written_text.ensures.text
    c.give_output.ensures.given c.give_output.ensures.none c.give_output.ensures.refused

pub returns-clause-refused : goal.returns-clause-refused
returns-clause-refused c =
    unmade _ _ _ _ _ c.written_text.result _ c.written_text.ensures.refused c.give_output.ensures.none c.give_output.ensures.refused
