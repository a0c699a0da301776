use Rattle.std.proofs.Common.{length}
use Rattle.plist_object.specs.Views.{octets_of}
use Rattle.plist_canon.proofs.Firsts.{alone_first, earlier_first}
use Rattle.plist_canon.proofs.object_rules.first_flaw.Goals as goal

pub returns-in-Err-clause-first : goal.returns-in-Err-clause-first
returns-in-Err-clause-first g c = λ checked at.
    rw c.or_earlier.ensures (earlier_first (octets_of c.args.file.now) (length c.args.builder.bits.items) c.args.flaw c.in-Err.repeat checked at c.in-Err.ensures.first)

pub returns-in-Ok-clause-first : goal.returns-in-Ok-clause-first
returns-in-Ok-clause-first g c = λ checked at.
    alone_first (octets_of c.args.file.now) (length c.args.builder.bits.items) c.args.flaw
    (λ j below. record { checked = checked j below; single = c.in-Ok.ensures.ok j below }) at
