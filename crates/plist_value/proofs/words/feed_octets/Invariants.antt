use Rattle.std.proofs.Common.{◌≡◌, fold, length}
use Rattle.plist_value.specs.Hashes.{fed_narrow}
use Rattle.plist_value.proofs.words.feed_octets.Given as goal

-- feeding the remaining units gives the same result as feeding all of them
abbrev pub invariant-loop-rest : goal.invariant-loop-rest
invariant-loop-rest g l = fold g.H.Hasher.write l.state (fed_narrow l.rest) ≡ fold g.H.Hasher.write l.initial.state (fed_narrow l.octets)

abbrev pub decreases-loop-rest : goal.decreases-loop-rest
decreases-loop-rest g l = length l.rest
