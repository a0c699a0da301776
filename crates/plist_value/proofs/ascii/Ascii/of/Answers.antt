use Rattle.std.proofs.Common.{refl, arith}
use Rattle.std.proofs.lemmas.List.{get_or_default}
use Rattle.std.proofs.lemmas.Str.{IsUtf8-from_ascii}
use Rattle.plist_value.proofs.BelowAscii.{all-ascii}
use Rattle.plist_value.proofs.ascii.Ascii.of.Goals as goal

pub from_utf8_unchecked-text-requires : goal.from_utf8_unchecked-text-requires
from_utf8_unchecked-text-requires c =
    IsUtf8-from_ascii c.args.octets.now c.if-not-is_ascii.ensures.cases

pub invariant_of-result : goal.invariant_of-result
invariant_of-result c = record { ascii = rw c.from_utf8_unchecked-text.ensures (all-ascii c.args.octets.now c.if-not-is_ascii.ensures.cases) }

pub returns-clause-ascii : goal.returns-clause-ascii
returns-clause-ascii c = (λ e k d h. let same = get_or_default c.args.octets.now k d 0 h in let below = c.if-not-is_ascii.ensures.cases k in omega (arith, same, below), λ h. refl)
