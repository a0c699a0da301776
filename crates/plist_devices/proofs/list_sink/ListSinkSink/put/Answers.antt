use Rattle.std.proofs.Common.{◌≡◌, ◌≤◌, length, rules, refl, inl, inr, arith}
use Rattle.std.proofs.lemmas.Bool.{iff_false}
use Rattle.plist_devices.specs.ListSink.{FailsAt}
use Rattle.plist_devices.proofs.list_sink.ListSinkSink.put.Goals as goal

pub returns-clause-put : goal.returns-clause-put
returns-clause-put c =
    let sink = c.args.self.now in
    let piece = c.args.piece.now in
    let works : FailsAt sink piece → ⊥ = iff_false c.fails_at.ensures c.if-fails_at.false in
    record {
      within = omega (arith, c.min.ensures, c.min-taken.ensures);
      some = λ h.
          let room : length sink.octets.items ≡ sink.room → ⊥ = λ (e : length sink.octets.items ≡ sink.room). works (inl (e, h)) in
          omega (arith, c.min.ensures, c.min-taken.ensures, c.len.ensures, sink.forward, sink.within, sink.octets.ok.0);
      octets = search rules;
      count = (let low : 18446744073709551615 ≤ sink.failures → ⊥ = λ (e : 18446744073709551615 ≤ sink.failures). works (inr e) in omega arith, refl);
    }
