use Rattle.std.proofs.Common.{refl}
use Rattle.plist_value.specs.Scalars.{content_of}
use Rattle.plist_object.specs.Views.{octets_of}
use Rattle.plist_write.specs.declared.plan.Plan.{Plan}
use Rattle.plist_write.specs.declared.object_numbers.ObjectNumbers.{ObjectNumbers}
use Rattle.plist_write.proofs.Remembering.{seen-at-place, had-entered, had-seen, new-entered, new-seen, knows-again, knows-more, unseen-searched}
use Rattle.plist_write.proofs.Storing.{entered-kept}
use Rattle.plist_write.proofs.Walking.{Walks-known, Walks-new}
use Rattle.plist_write.proofs.plan.Plan.scalar.Goals as goal

-- the plan with another memo
abbrev with_memo : {S H : Type 0} → Plan S H → ObjectNumbers → Plan S H
with_memo plan memo = record plan { memo = memo }

pub returns-in-Some-clause-numbers : goal.returns-in-Some-clause-numbers
returns-in-Some-clause-numbers g c =
    let f = octets_of c.args.input.now.file in
    let old = c.args.self.now in
    record {
      walks = λ unseen. Walks-known f (content_of c.args.scalar) old _ c.in-Some.number (seen-at-place f c.args.object (content_of c.args.scalar) old _ unseen (rw c.in-Some.is at c.number_at.ensures)) refl refl;
      references_kept = refl;
    }

pub returns-in-Some-clause-knows : goal.returns-in-Some-clause-knows
returns-in-Some-clause-knows g c = λ unseen.
    let f = octets_of c.args.input.now.file in
    let r = c.args.scalar in
    let i = c.args.object in
    let old = c.args.self.now in
    let n = c.in-Some.number in
    let at = rw c.in-Some.is at c.number_at.ensures in
    knows-again f i r old unseen n _ at.some c.keep.ensures (seen-at-place f i (content_of r) old n unseen at) unseen.knows.numbered (λ q. refl) refl

pub returns-in-Some-2-clause-numbers : goal.returns-in-Some-2-clause-numbers
returns-in-Some-2-clause-numbers g c =
    let f = octets_of c.args.input.now.file in
    let r = c.args.scalar in
    let i = c.args.object in
    let old = c.args.self.now in
    let mid = with_memo old c.find_unique.new.self in
    let next = c.in_ok-next.next in
    let n = c.in-Some-2.number in
    let scalars = c.meet.new.scalars in
    record {
      walks = λ unseen.
          let sifted = unseen-searched f i (content_of r) old mid refl refl c.in_ok-find_unique.ensures unseen in
          Walks-known f (content_of r) old _ n (had-seen f i r mid sifted next n scalars (had-entered f i r mid sifted next n scalars (rw c.in-Some-2.is at c.in_ok-number.ensures))) refl refl;
      references_kept = refl;
    }

pub returns-in-Some-2-clause-knows : goal.returns-in-Some-2-clause-knows
returns-in-Some-2-clause-knows g c = λ unseen.
    let f = octets_of c.args.input.now.file in
    let r = c.args.scalar in
    let i = c.args.object in
    let old = c.args.self.now in
    let mid = with_memo old c.find_unique.new.self in
    let next = c.in_ok-next.next in
    let n = c.in-Some-2.number in
    let scalars = c.meet.new.scalars in
    let sifted = unseen-searched f i (content_of r) old mid refl refl c.in_ok-find_unique.ensures unseen in
    let entered = had-entered f i r mid sifted next n scalars (rw c.in-Some-2.is at c.in_ok-number.ensures) in
    let had = had-seen f i r mid sifted next n scalars entered in
    let seen = sifted.knows.seen (content_of r) n had in
    knows-again f i r mid sifted n _ seen.some c.in_ok-keep_scalar.ensures had entered.numbered (entered-kept r next n mid.scalars scalars entered) refl

pub returns-clause-numbers : goal.returns-clause-numbers
returns-clause-numbers g c =
    let f = octets_of c.args.input.now.file in
    let r = c.args.scalar in
    let i = c.args.object in
    let old = c.args.self.now in
    let mid = with_memo old c.find_unique.new.self in
    let next = c.in_ok-next.next in
    let scalars = c.meet.new.scalars in
    record {
      walks = λ unseen.
          let sifted = unseen-searched f i (content_of r) old mid refl refl c.in_ok-find_unique.ensures unseen in
          Walks-new f (content_of r) i old _ next unseen.holds (new-seen f i r mid sifted next scalars (new-entered f i r mid sifted next scalars (rw c.in_default-2.is at c.in_ok-number.ensures))) c.in_ok-next.ensures.is (rw c.in_ok-original.ensures.value at c.in_ok-push.ensures.items) refl;
      references_kept = refl;
    }

pub returns-clause-knows : goal.returns-clause-knows
returns-clause-knows g c = λ unseen.
    let f = octets_of c.args.input.now.file in
    let r = c.args.scalar in
    let i = c.args.object in
    let old = c.args.self.now in
    let mid = with_memo old c.find_unique.new.self in
    let next = c.in_ok-next.next in
    let scalars = c.meet.new.scalars in
    let sifted = unseen-searched f i (content_of r) old mid refl refl c.in_ok-find_unique.ensures unseen in
    knows-more f i r mid sifted next _ c.in_ok-next.ensures.some c.in_ok-keep_scalar-2.ensures c.in_ok-next.ensures.is (rw c.in_ok-original.ensures.value at c.in_ok-push.ensures.items) (new-entered f i r mid sifted next scalars (rw c.in_default-2.is at c.in_ok-number.ensures))
