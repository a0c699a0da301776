use Rattle.plistconv_c.proofs.Outputs.{made, unmade}
use Rattle.plistconv_c.proofs.files.plistconv_canonical.Goals as goal

pub returns-clause-given : goal.returns-clause-given
returns-clause-given c =
    made _ _ _ _ _ _ c.canonical_file.result _ _ c.canonical_file.ensures.within c.canonical_file.ensures.canonical
    c.give_output.ensures.given c.give_output.ensures.none c.give_output.ensures.refused

pub returns-clause-refused : goal.returns-clause-refused
returns-clause-refused c =
    unmade _ _ _ _ _ c.canonical_file.result _ c.canonical_file.ensures.refused c.give_output.ensures.none c.give_output.ensures.refused
