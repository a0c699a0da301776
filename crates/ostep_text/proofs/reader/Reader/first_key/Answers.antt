use Rattle.std.proofs.Common.{◌∷◌, [], ◌*◌, ◌≤◌, length, arith}
use Rattle.plist_value.specs.Plist.{no_pairs}
use Rattle.plist_value.specs.declared.TheConstants.{MAX_DEPTH}
use Rattle.ostep_text.specs.Begun.{nothing, opened, with_rows}
use Rattle.ostep_text.specs.Stands.{Stands}
use Rattle.ostep_text.specs.Reading.{HasRead, IsLeft}
use Rattle.ostep_lex.proofs.Exits.{passed_on}
use Rattle.ostep_text.proofs.Standing.{same-read, front-refuses, first_key-refuses}
use Rattle.ostep_text.proofs.TakeSteps.{left-after}
use Rattle.ostep_text.proofs.reader.Reader.first_key.Goals as goal

pub returns-in_err-charge-clause-stands : goal.returns-in_err-charge-clause-stands
returns-in_err-charge-clause-stands c octets at after l s h i =
    passed_on (Stands octets) c.in_err-charge.field-0.0 c.from_residual.result c.from_residual.ensures.1
    (c.in_err-charge.ensures.stands octets (at ∷ after ∷ []) h (front-refuses (after ∷ []) at c.args.octet c.args.key.now MAX_DEPTH 0 c.args.self.now.left l s h (omega arith) i))

pub returns-clause-stands : goal.returns-clause-stands
returns-clause-stands c octets at after l s h i =
    let read : HasRead octets (at ∷ after ∷ []) c.charge.new.self.tokens = same-read h c.in_ok-charge.ensures.tokens in
    let few : c.payload.result ≤ 2 * length c.args.key.now = omega (arith, c.payload.ensures.payload) in
    let left : IsLeft c.charge.new.self.left 511 (with_rows no_pairs (opened nothing)) = left-after i c.in_ok-charge.ensures.spent (omega arith) (omega arith) (omega arith) in
    c.charge-2.ensures.stands octets (at ∷ after ∷ []) read (first_key-refuses (after ∷ []) at c.args.octet c.args.key.now 511 c.payload.result c.charge.new.self.left l s read few left)
