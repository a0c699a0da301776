use Rattle.std.proofs.Common.{◌≡◌, ◌+◌, ◌-◌, length, arith}
use Rattle.plist_object.proofs.layout.BinFile.slack.Goals as goal

pub returns : goal.returns
returns c =
    let start = length c.args.self.now.octets.now - 32 in
    let six : (start + 6) - start ≡ 6 = omega arith in
    rw six at c.copy_from_slice.ensures.after
