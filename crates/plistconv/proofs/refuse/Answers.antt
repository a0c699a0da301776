use Rattle.std.proofs.Common.{rules, ap, inr, List, Option, ℕ, ◌≡◌}
use Rattle.std.specs.Prelude.{◌<◌, ◌+◌, ◌-◌, ◌^◌, length, min, take}
use Rattle.std.specs.Io.KnownBytes.{Appends}
use Rattle.plist_convert.specs.Ending.{Prints}
use Rattle.plistconv.proofs.refuse.Goals as goal

-- only a prefix was printed
cut : (old start now seen : Option (List ℕ)) (text octets : List ℕ) (taken before after wanted status : ℕ) → octets ≡ text → start ≡ old → before ≡ 0
    → now ≡ seen → status ≡ 4 → (taken < length octets) × Appends start now (take taken octets) × (after ≡ min (before + 1) (2 ^ 64 - 1))
    → (failures : ℕ) × Prints old seen 0 failures (record { text = text; status = wanted }) status
cut old start now seen text octets taken before after wanted status same begins none ends failed front =
    (after, inr (failed, (taken, rw same at front.0, rw (begins, ends, same) at front.1), rw none at front.2))

pub returns-in-Err : goal.returns-in-Err
returns-in-Err g c =
    cut _ _ _ _ _ _ _ _ _ _ _ c.as_bytes.ensures.value (ap g.O.Write.contents c.new.ensures.now) c.new.ensures.failures (search rules) c.code.ensures.code c.in-Err.ensures.front
