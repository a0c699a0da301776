use Rattle.std.proofs.Common.{ap, sym, ◌∙◌, ◌≡◌, List, Option}
use Rattle.std.specs.Prelude.{find, option_map}
use Rattle.std.specs.Option.{option_or}
use Rattle.std.proofs.lemmas.List.Folds.{find-append}
use Rattle.plist_explain.specs.Topics.{Entry, entry_of, is_named, refusal_entries, rule_entries}
use Rattle.plist_explain.proofs.Found.{first_found}
use Rattle.plist_explain.proofs.explaining.find.Goals as goal

pub returns : goal.returns
returns c =
    let among : List Entry → Option Entry = find (λ entry. is_named entry.subject c.args.word.now) in
    let a = c.find_in.result in
    let b = c.find_in-2.result in
    let first : option_map (λ row. entry_of row.now) a ≡ among refusal_entries = c.find_in.ensures ∙ ap among c.refusals.ensures in
    let second : option_map (λ row. entry_of row.now) b ≡ among rule_entries = c.find_in-2.ensures ∙ ap among c.rules.ensures in
    ap (option_map (λ row. entry_of row.now)) c.or.ensures
    ∙ first_found (λ row. entry_of row.now) a b
    ∙ ap (λ o. option_or o (option_map (λ row. entry_of row.now) b)) first
    ∙ ap (option_or (among refusal_entries)) second
    ∙ sym (find-append (λ entry. is_named entry.subject c.args.word.now) refusal_entries rule_entries)
