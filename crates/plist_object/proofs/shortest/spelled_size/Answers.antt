use Rattle.std.specs.Prelude.{IfSome, IsOk}
use Rattle.std.proofs.Common.{◌≡◌, ℕ, ◌+◌, ◌*◌, List, arith, Option, None, Some}
use Rattle.plist_value.specs.Plist.{AreOctets}
use Rattle.plist_object.specs.Objects.{object_in}
use Rattle.plist_object.specs.Shortest.{BeginsShort, BeginsWhole, HasWideUnit, LeadsScalar}
use Rattle.plist_object.specs.Sizes.{head_size}
use Rattle.plist_object.proofs.Copies.{plain-leads, wide-leads}
use Rattle.plist_object.proofs.Fixed.{fixed-leads}
use Rattle.plist_object.proofs.Wholes.{whole-leads}
use Rattle.plist_object.proofs.shortest.spelled_size.Goals as goal

pub returns-in-Some : goal.returns-in-Some
returns-in-Some c = fixed-leads c.in-Some.size c.args.octets.now c.in-Some.ensures.octets c.in-Some.ensures.size

by_whole : (octets : List ℕ) (answer : Option ℕ) → IfSome answer (λ size. BeginsWhole size octets) → IfSome answer (λ size. (width : ℕ) → IsOk (object_in width octets) → LeadsScalar width size octets)
by_whole octets None begins = tt
by_whole octets (Some size) begins = whole-leads size octets begins

pub returns-in-1 : goal.returns-in-1
returns-in-1 c = by_whole c.args.octets.now c.whole_size.result c.whole_size.ensures

by_wide : (n : ℕ) (octets : List ℕ) → AreOctets octets → BeginsShort 6 n octets → (answer : Option ℕ) → IfSome answer (λ size. size ≡ head_size n + 2 * n) → IfSome answer (λ size. HasWideUnit n octets) → IfSome answer (λ size. (width : ℕ) → IsOk (object_in width octets) → LeadsScalar width size octets)
by_wide n octets are begins None is_size has_wide = tt
by_wide n octets are begins (Some size) is_size has_wide = rw is_size (wide-leads n octets are begins has_wide)

pub returns-in-6 : goal.returns-in-6
returns-in-6 c =
    by_wide c.in_ok-kind.count c.args.octets.now c.short_head.ensures.octets (rw c.in-6.is at c.in_ok-kind.ensures.head) c.wide_size.result c.wide_size.ensures.size c.wide_size.ensures.wide

pub returns-in-4 : goal.returns-in-4
returns-in-4 c =
    rw c.head_length.ensures.size (plain-leads c.in_ok-kind.kind c.in_ok-kind.count c.args.octets.now c.short_head.ensures.octets c.in_ok-kind.ensures.head (omega arith) (omega arith))
