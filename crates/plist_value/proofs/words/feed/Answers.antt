use Rattle.std.proofs.Common.{arith}
use Rattle.std.proofs.lemmas.Grind.{common_steps, elements}
use Rattle.plist_value.proofs.words.feed.Goals as goal

pub bounds-rest-2 : goal.bounds-rest-2
bounds-rest-2 g c = grind (arith, elements)

pub bounds-rest-3 : goal.bounds-rest-3
bounds-rest-3 g c = grind (arith, elements)

pub loop-rest-preserved : goal.loop-rest-preserved
loop-rest-preserved g c = grind (arith, common_steps)

pub returns-in-len1 : goal.returns-in-len1
returns-in-len1 g c = grind (arith, common_steps)

pub returns-in-len2 : goal.returns-in-len2
returns-in-len2 g c = grind (arith, elements)

pub returns-in-len3-up : goal.returns-in-len3-up
returns-in-len3-up g c = grind (arith, common_steps)
