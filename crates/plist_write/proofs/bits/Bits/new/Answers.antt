use Rattle.std.proofs.Common.{◌≡◌, ◌/◌, ◌+◌, replicate, arith, rules}
use Rattle.plist_write.proofs.SetBits.{no_bit}
use Rattle.plist_write.proofs.bits.Bits.new.Goals as goal

pub returns : goal.returns
returns c = λ n below is.
    let mask = c.args.mask in
    let zeros : c.resize.new.self.items ≡ replicate (mask / 64 + 1) 0 = search rules in
    no_bit n (mask / 64 + 1) (omega (arith, below)) (rw zeros at is)
