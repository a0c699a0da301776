use Rattle.std.proofs.Common.{◌<◌, arith}
use Rattle.ostep_text.proofs.reader.Reader.charge.Goals as goal

pub returns-in_default-clause-stands : goal.returns-in_default-clause-stands
returns-in_default-clause-stands c octets tokens h m = c.refuse.ensures octets tokens h (m.many c.in_default.ensures.over)

pub returns-then-levels-eq0-clause-stands : goal.returns-then-levels-eq0-clause-stands
returns-then-levels-eq0-clause-stands c octets tokens h m = c.refuse-then-levels-eq0.ensures octets tokens h (m.deep c.if-levels-eq0.true)

pub returns-in_default-take_payload-clause-stands : goal.returns-in_default-take_payload-clause-stands
returns-in_default-take_payload-clause-stands c octets tokens h m =
    let past : c.args.self.now.left.payload < c.args.payload = omega (arith, c.in_default-take_payload.ensures.over, c.in-Some.ensures.left.payload_left) in
    c.refuse-in_default-take_payload.ensures octets tokens h (m.much past)
