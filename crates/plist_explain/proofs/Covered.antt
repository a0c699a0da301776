-- Looks up the names and numbers of all refusals and rules in the table.
use Rattle.std.proofs.Common.{arith, refl, suc}
use Rattle.std.specs.Fmt.{digits}
use Rattle.plist_value.specs.declared.refusals.Refusal.TheVariants.{TooShort}
use Rattle.plist_explain.specs.Topics.{ExplainsLines, ExplainsRefusals, ExplainsRules, refusal_entries, rule_entries}

pub explains_refusals : ExplainsRefusals
unfolding digits refusal_entries rule_entries
explains_refusals TooShort = (refl, refl, refl)
explains_refusals _ = (refl, refl, refl)

pub explains_rules : ExplainsRules
unfolding digits refusal_entries rule_entries
explains_rules (suc (suc (suc (suc (suc (suc (suc (suc rule)))))))) below = absurd (omega (arith, below))
explains_rules _ below = (refl, refl)

pub explains_lines : ExplainsLines
unfolding digits refusal_entries rule_entries
explains_lines = refl
