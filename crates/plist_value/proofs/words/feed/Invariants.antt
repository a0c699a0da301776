use Rattle.std.proofs.Common.{◌≡◌, fold, length}
use Rattle.plist_value.specs.Hashes.{fed_units}
use Rattle.plist_value.proofs.words.feed.Given as goal

-- feeding the remaining units gives the same result as feeding all of them
abbrev pub invariant-loop-rest : goal.invariant-loop-rest
invariant-loop-rest g l = fold g.H.Hasher.write l.state (fed_units l.rest) ≡ fold g.H.Hasher.write l.initial.state (fed_units l.units)

abbrev pub decreases-loop-rest : goal.decreases-loop-rest
decreases-loop-rest g l = length l.rest
