use Rattle.std.proofs.Common.{◌≡◌, ◌∙◌, ◌++◌, ◌<◌, ◌∷◌, [], arith, length, refl}
use Rattle.std.proofs.lemmas.List.Elements.{All-from_get_or}
use Rattle.plist_object.specs.Objects.{holds_table}
use Rattle.plist_draft.proofs.Storing.{PutsHeld, puts_held, spells-table}
use Rattle.plist_draft.proofs.draft.Draft.put_table.Goals as goal
use Rattle.plist_draft.proofs.draft.Draft.put_table.Goals.{After-push_reserved}

puts : (c : After-push_reserved) → PutsHeld c.args.self.now.octets.items c.args.self.now.offsets.items c.put_short_table.new.out.items c.push_reserved.new.self.items (holds_table c.args.keys.now c.args.values.now)
puts c =
    let placed : c.push_reserved.new.self.items ≡ c.args.self.now.offsets.items ++ (length c.args.self.now.octets.items ∷ []) = cc (c.push_reserved.ensures.items, c.begin.ensures.offsets, c.in_ok-number.ensures.offset) in
    let spelled = rw c.begin.ensures.octets at c.in_ok-put_short_table.ensures.ok in
    puts_held _ _ _ _ (holds_table c.args.keys.now c.args.values.now) c.args.self.now.laid (c.requires, c.in_ok-are_kept.ensures.0 refl, c.in_ok-are_kept-2.ensures.0 refl) spelled placed

pub invariant_of-self-2 : goal.invariant_of-self-2
invariant_of-self-2 c = record { laid = (puts (goal.at.invariant_of-self-2 c).After-push_reserved).stored }

pub returns-clause-number : goal.returns-clause-number
returns-clause-number c =
    c.in_ok-number.ensures.next ∙ (puts (goal.at.returns-clause-number c).After-push_reserved).number

pub returns-clause-put : goal.returns-clause-put
returns-clause-put c = (puts (goal.at.returns-clause-put c).After-push_reserved).put

pub returns-clause-spells : goal.returns-clause-spells
returns-clause-spells c =
    λ rows ps moved encoded. spells-table _ _ _ _ c.in_ok-number.number c.in_ok-number.ensures.next c.args.keys.now c.args.values.now rows ps (puts (goal.at.returns-clause-spells c).After-push_reserved) moved encoded

pub returns-clause-kept : goal.returns-clause-kept
returns-clause-kept c = (puts (goal.at.returns-clause-kept c).After-push_reserved).keeps

pub put_short_table-requires-clause-keys_fit : goal.put_short_table-requires-clause-keys_fit
put_short_table-requires-clause-keys_fit c =
    All-from_get_or (λ n. n < 4294967296) c.args.keys.now 0 (λ k below. omega (arith, c.type_inv.keys k))

pub put_short_table-requires-clause-values_fit : goal.put_short_table-requires-clause-values_fit
put_short_table-requires-clause-values_fit c =
    All-from_get_or (λ n. n < 4294967296) c.args.values.now 0 (λ k below. omega (arith, c.type_inv.values k))
