use Rattle.std.proofs.Common.{map, rules, ap}
use Rattle.plist_convert.proofs.Begun.{begun}
use Rattle.plist_convert.proofs.entry.run_on_host.Goals as goal

pub returns : goal.returns
returns g c =
    begun (map (λ word. word.now) c.args.words.now) _ _ _ _ _ _ _ _ _ _ _ _ _ _ _
    (ap g.I.Read.remaining c.new-source.ensures.now) c.new-source.ensures.failures (search rules) c.requires (ap g.O.Write.contents c.new-sink.ensures.now) c.new-sink.ensures.failures (search rules) c.run_on.ensures.run
