use Rattle.std.proofs.Common.{rules, tests, ◌≡◌}
use Rattle.std.specs.Prelude.{find, option_map}
use Rattle.std.proofs.lemmas.Iterator.{YieldsList-from_slice}
use Rattle.std.proofs.lemmas.Iterator.Search.{find_from_yields_List}
use Rattle.plist_explain.specs.Topics.{is_named}
use Rattle.plist_explain.proofs.Found.{found_entry}
use Rattle.plist_explain.proofs.explaining.find_in.Goals as goal

pub returns : goal.returns
returns c =
    let word = c.args.word.now in
    let rows = c.args.topics.now in
    let found : option_map (λ row. row.now) c.find.result ≡ find (λ row. is_named row.0 word) rows = find_from_yields_List (λ row. is_named row.0 word) _ _ c.find.result c.find.ensures.ran (YieldsList-from_slice _ c.iter.ensures.rest) (λ x b q k. search (rules, tests)) in
    found_entry word rows c.find.result found
