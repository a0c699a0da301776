use Rattle.plistconv_c.proofs.Outputs.{made, unmade}
use Rattle.plistconv_c.proofs.prints.plistconv_print.Goals as goal

pub returns-clause-given : goal.returns-clause-given
returns-clause-given c =
    made _ _ _ _ _ _ c.printed_text.result _ _ c.printed_text.ensures.within c.printed_text.ensures.text
    c.give_output.ensures.given c.give_output.ensures.none c.give_output.ensures.refused

pub returns-clause-refused : goal.returns-clause-refused
returns-clause-refused c =
    unmade _ _ _ _ _ c.printed_text.result _ c.printed_text.ensures.refused c.give_output.ensures.none c.give_output.ensures.refused
