use Rattle.std.proofs.lemmas.Result.{IfOk-weaker}
use Rattle.plist_value.specs.View.{view}
use Rattle.plist_canon.proofs.writing.binary_of.Goals as goal

pub returns : goal.returns
returns c =
    IfOk-weaker c.finish.result _ _ (λ octets told. told (view c.args.value.now) c.in_ok-top.ensures.valid c.requires c.in_ok-top.ensures.spells) c.finish.ensures.spells
