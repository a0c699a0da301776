use Rattle.std.proofs.Common.{◌≡◌, ◌∙◌, ◌++◌, ◌∷◌, [], length, inr, take, drop, refl, ap, sym, subst}
use Rattle.std.proofs.lemmas.List.{take_at, drop_at}
use Rattle.plist_object.specs.Objects.{holds_scalar}
use Rattle.plist_object.specs.Spelling.{scalar_spelling}
use Rattle.plist_value.specs.Scalars.{content_of}
use Rattle.plist_draft.specs.Stored.{StandsAgain, helds_at}
use Rattle.plist_draft.specs.Encoded.{HasContent}
use Rattle.plist_draft.proofs.Storing.{PutsHeld, puts_held, spells-scalar, held-again}
use Rattle.plist_draft.proofs.draft.Draft.share_scalar.Goals as goal
use Rattle.plist_draft.proofs.draft.Draft.share_scalar.Goals.{After-push_reserved}

puts : (c : After-push_reserved) → PutsHeld c.args.self.now.octets.items c.args.self.now.offsets.items c.spell.new.octets.items c.push_reserved.new.self.items (holds_scalar (content_of c.args.scalar.now))
puts c =
    let placed : c.push_reserved.new.self.items ≡ c.args.self.now.offsets.items ++ (length c.args.self.now.octets.items ∷ []) = rw (c.push_reserved.ensures.items, c.begin.ensures.offsets, c.in_ok-number.ensures.offset) refl in
    let spelled = rw c.begin.ensures.octets at c.in_ok-spell.ensures.ok in
    puts_held _ _ _ _ (holds_scalar (content_of c.args.scalar.now)) c.args.self.now.laid (c.requires, c.in_ok-spell.ensures.small) spelled placed

pub returns-in-Some-clause-spells : goal.returns-in-Some-clause-spells
returns-in-Some-clause-spells c =
    let octets = c.args.self.now.octets.items in
    let spelled = scalar_spelling (content_of c.args.scalar.now) in
    let whole : c.spell.new.octets.items ≡ octets ++ spelled = rw c.begin.ensures.octets at c.in_ok-spell.ensures.ok in
    let front : take c.in_ok-number.offset c.spell.new.octets.items ≡ octets = rw (whole, c.in_ok-number.ensures.offset) (take_at octets spelled (length octets) refl) in
    let back : drop c.in_ok-number.offset c.spell.new.octets.items ≡ spelled = rw (whole, c.in_ok-number.ensures.offset) (drop_at octets spelled (length octets) refl) in
    let before : c.split_at.result.0.now ≡ octets = c.split_at.ensures.front ∙ ap (take c.in_ok-number.offset) c.deref.ensures.value ∙ front in
    let behind : c.split_at.result.1.now ≡ spelled = c.split_at.ensures.back ∙ ap (drop c.in_ok-number.offset) c.deref.ensures.value ∙ back in
    let again : StandsAgain octets c.begin.new.self.offsets.items c.in-Some.known spelled = rw (before, behind, c.deref-2.ensures.value) at c.in-Some.ensures in
    let kept : c.truncate.new.self.items ≡ octets = c.truncate.ensures.items ∙ front in
    subst (λ xs. HasContent (helds_at xs c.begin.new.self.offsets.items) c.in-Some.known (holds_scalar (content_of c.args.scalar.now))) (sym kept)
    (held-again octets c.begin.new.self.offsets.items c.in-Some.known (content_of c.args.scalar.now) c.requires c.in_ok-spell.ensures.small again)

pub invariant_of-self-2 : goal.invariant_of-self-2
invariant_of-self-2 c = record { laid = (puts (goal.at.invariant_of-self-2 c).After-push_reserved).stored }

pub returns-clause-put : goal.returns-clause-put
returns-clause-put c = inr (puts (goal.at.returns-clause-put c).After-push_reserved).put

pub returns-clause-spells : goal.returns-clause-spells
returns-clause-spells c =
    spells-scalar _ _ _ _ c.in_ok-number.number c.in_ok-number.ensures.next (content_of c.args.scalar.now) (puts (goal.at.returns-clause-spells c).After-push_reserved)

pub returns-clause-kept : goal.returns-clause-kept
returns-clause-kept c = (puts (goal.at.returns-clause-kept c).After-push_reserved).keeps
