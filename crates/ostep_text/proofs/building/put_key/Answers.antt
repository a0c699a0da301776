use Rattle.std.proofs.Common.{subst}
use Rattle.std.proofs.lemmas.Result.{IfOk-weaker}
use Rattle.plist_value.specs.Plist.{scalar, text}
use Rattle.plist_draft.specs.Encoded.{SpellsIn}
use Rattle.plist_draft.specs.View.{objects}
use Rattle.ostep_text.proofs.building.put_key.Goals as goal

pub returns-clause-spells : goal.returns-clause-spells
returns-clause-spells c =
    IfOk-weaker c.put_text.result _ _ (λ number s. subst (λ us. SpellsIn (objects c.put_text.new.draft) number (scalar (text us))) c.text.ensures.text s) c.put_text.ensures.spells
