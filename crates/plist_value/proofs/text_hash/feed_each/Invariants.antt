use Rattle.std.proofs.Common.{◌≡◌, ◌*◌, drop, fold}
use Rattle.plist_value.specs.Texts.{units_of}
use Rattle.plist_value.specs.Hashes.{fed_units}
use Rattle.plist_value.proofs.text_hash.feed_each.Given as goal

-- feeding the remaining units gives the same result as feeding all of them
abbrev pub invariant-loop-i : goal.invariant-loop-i
invariant-loop-i g l =
    fold g.H.Hasher.write l.state (fed_units (drop (4 * l.i) (units_of l.text))) ≡ fold g.H.Hasher.write l.initial.state (fed_units (units_of l.text))
