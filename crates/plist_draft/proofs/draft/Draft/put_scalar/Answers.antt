use Rattle.std.proofs.Common.{◌≡◌, ◌∙◌, ◌++◌, ◌∷◌, [], length}
use Rattle.plist_object.specs.Objects.{holds_scalar}
use Rattle.plist_draft.proofs.Storing.{PutsHeld, puts_held, spells-scalar}
use Rattle.plist_value.specs.Scalars.{content_of}
use Rattle.plist_draft.proofs.draft.Draft.put_scalar.Goals as goal
use Rattle.plist_draft.proofs.draft.Draft.put_scalar.Goals.{After-push_reserved}

puts : (c : After-push_reserved) → PutsHeld c.args.self.now.octets.items c.args.self.now.offsets.items c.spell.new.octets.items c.push_reserved.new.self.items (holds_scalar (content_of c.args.scalar.now))
puts c =
    let placed : c.push_reserved.new.self.items ≡ c.args.self.now.offsets.items ++ (length c.args.self.now.octets.items ∷ []) = cc (c.push_reserved.ensures.items, c.begin.ensures.offsets, c.in_ok-number.ensures.offset) in
    let spelled = rw c.begin.ensures.octets at c.in_ok-spell.ensures.ok in
    puts_held _ _ _ _ (holds_scalar (content_of c.args.scalar.now)) c.args.self.now.laid (c.requires, c.in_ok-spell.ensures.small) spelled placed

pub invariant_of-self-2 : goal.invariant_of-self-2
invariant_of-self-2 c = record { laid = (puts (goal.at.invariant_of-self-2 c).After-push_reserved).stored }

pub returns-clause-number : goal.returns-clause-number
returns-clause-number c =
    c.in_ok-number.ensures.next ∙ (puts (goal.at.returns-clause-number c).After-push_reserved).number

pub returns-clause-put : goal.returns-clause-put
returns-clause-put c = (puts (goal.at.returns-clause-put c).After-push_reserved).put

pub returns-clause-spells : goal.returns-clause-spells
returns-clause-spells c =
    spells-scalar _ _ _ _ c.in_ok-number.number c.in_ok-number.ensures.next (content_of c.args.scalar.now) (puts (goal.at.returns-clause-spells c).After-push_reserved)

pub returns-clause-kept : goal.returns-clause-kept
returns-clause-kept c = (puts (goal.at.returns-clause-kept c).After-push_reserved).keeps
