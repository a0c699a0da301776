use Rattle.std.proofs.Common.{ap, map, Some, ◌∙◌}
use Rattle.clap.specs.Words.{found_of}
use Rattle.clap.proofs.WalkLemmas.{raw_values-rows}
use Rattle.plist_convert.proofs.arguments.values.Goals as goal

pub returns-in_ok-from_slice-in-Some : goal.returns-in_ok-from_slice-in-Some
returns-in_ok-from_slice-in-Some c =
    ap (λ items. Some (map (λ text. text.now) items)) c.in_ok-from_slice-in-Some.ensures.items ∙ c.in-Some.ensures
    ∙ raw_values-rows (found_of c.args.given.now) c.args.id.now

pub returns-in-None : goal.returns-in-None
returns-in-None c = c.in-None.ensures ∙ raw_values-rows (found_of c.args.given.now) c.args.id.now
