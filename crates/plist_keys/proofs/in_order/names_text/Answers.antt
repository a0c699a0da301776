use Rattle.plist_object.specs.Views.{octets_of}
use Rattle.plist_keys.proofs.KeysInTurn.{some_ranked}
use Rattle.plist_keys.proofs.in_order.names_text.Goals as goal

pub returns-then-is_some : goal.returns-then-is_some
returns-then-is_some c = (
  λ _. some_ranked (octets_of c.args.file.now) c.args.ranks.now c.args.key c.get.result c.requires c.get.ensures c.if-is_some.ensures,
  λ _. c.if-is_some.true,
)
