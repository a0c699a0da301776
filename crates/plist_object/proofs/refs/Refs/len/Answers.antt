use Rattle.std.proofs.Common.{sym}
use Rattle.plist_object.proofs.Listed.{length-numbers}
use Rattle.plist_object.proofs.refs.Refs.len.Goals as goal

pub returns : goal.returns
returns c = sym (length-numbers c.args.self.now.width c.args.self.now.count c.args.self.now.octets.now)
