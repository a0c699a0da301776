use Rattle.std.proofs.Common.{rules, string_bytes}
use Rattle.std.proofs.lemmas.Iterator.{YieldsList-from_map_by, YieldsList-from_slice}
use Rattle.std.proofs.lemmas.Iterator.Consumers.{map_from_collect}
use Rattle.plistconv.proofs.borrowed.Goals as goal

pub returns : goal.returns
returns c =
    map_from_collect _ c.collect.ensures.ran
    (YieldsList-from_map_by _ (λ word. word.now) (λ text. string_bytes text) (YieldsList-from_slice c.args.texts.now cc)
    c.map.ensures.closure (λ x r q k. search rules))
