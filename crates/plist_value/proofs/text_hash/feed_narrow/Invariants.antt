use Rattle.std.proofs.Common.{◌≡◌, ◌*◌, drop, fold}
use Rattle.plist_value.specs.Texts.{units_of}
use Rattle.plist_value.specs.Hashes.{fed_narrow}
use Rattle.plist_value.proofs.text_hash.feed_narrow.Given as goal

-- feeding the remaining units gives the same result as feeding all of them
abbrev pub invariant-loop-i : goal.invariant-loop-i
invariant-loop-i g l =
    fold g.H.Hasher.write l.state (fed_narrow (drop (8 * l.i) (units_of l.text))) ≡ fold g.H.Hasher.write l.initial.state (fed_narrow (units_of l.text))
