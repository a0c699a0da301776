use Rattle.std.proofs.Common.{◌≡◌, Some, sym, ◌∙◌}
use Rattle.std.proofs.lemmas.Bool.Decides.{Decides-ltb}
use Rattle.plist_object.specs.Views.{octets_of}
use Rattle.plist_keys.specs.Ranks.{rank_of}
use Rattle.plist_keys.proofs.KeysInTurn.{ranked_in_order, in_order_ranked}
use Rattle.plist_keys.proofs.in_order.are_in_order.Goals as goal

pub returns-in-Some-Some : goal.returns-in-Some-Some
returns-in-Some-Some c =
    let f = octets_of c.args.file.now in
    let ranks = c.args.ranks.now in
    let lower = c.in-Some-Some.lower in
    let higher = c.in-Some-Some.higher in
    let first : rank_of ranks c.args.first ≡ Some lower = sym c.get.ensures ∙ c.in-Some-Some.is-0 in
    let second : rank_of ranks c.args.second ≡ Some higher = sym c.get-2.ensures ∙ c.in-Some-Some.is-1 in
    let test = Decides-ltb lower higher in (
      λ b. ranked_in_order f ranks c.args.first c.args.second lower higher c.requires first second (test.0 b),
      λ ordered. test.1 (in_order_ranked f ranks c.args.first c.args.second lower higher c.requires first second ordered),
    )
