use Rattle.std.proofs.Common.{◌∙◌, ◌<◌, length, drop, true, refl, sym, arith}
use Rattle.std.proofs.lemmas.Bool.{OnTrue_from}
use Rattle.std.proofs.lemmas.Bool.Decides.{Decides-eqb, nat_tests}
use Rattle.std.proofs.lemmas.Option.{slice_get_read}
use Rattle.std.proofs.lemmas.Slice.Eq.{starts_is}
use Rattle.plist_draft.specs.Stored.{StandsAgain}
use Rattle.plist_draft.proofs.recent.stands_again.Goals as goal

pub returns : goal.returns
returns c =
    let octets = c.args.octets.now in
    let offsets = c.args.offsets.now in
    let spelled = c.args.spelled.now in
    let behind = c.split_at.result.1.now in
    let inside = c.in-Some.ensures.lookup.0 in
    let within : c.args.number < length offsets = grind (arith, nat_tests) in
    OnTrue_from c.starts_with.result (StandsAgain octets offsets c.args.number spelled) (λ met. record {
      offset = c.in-Some.offset.now;
      behind = drop (length spelled) behind;
      placed = slice_get_read offsets _ c.args.number c.in-Some.offset.now refl within c.in-Some.ensures.lookup.1;
      stands = sym c.split_at.ensures.back ∙ (starts_is Decides-eqb behind spelled true (sym met ∙ c.starts_with.ensures.value)).0 refl;
    })
