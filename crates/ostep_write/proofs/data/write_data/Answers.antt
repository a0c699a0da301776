use Rattle.std.proofs.Common.{[], ◌∷◌, refl}
use Rattle.std.specs.Prelude.{flat_map}
use Rattle.plist_value.specs.Digits.{two_digits}
use Rattle.plist_write.proofs.Steps.{refused, brackets_unopened, brackets_unfilled, brackets_closed}
use Rattle.ostep_text.specs.Written.{written_data}
use Rattle.ostep_write.proofs.data.write_data.Goals as goal

pub returns-in_err-put : goal.returns-in_err-put
returns-in_err-put g c =
    let xs = c.args.octets.now in
    record { emits = refused c.from_residual.result c.from_residual.ensures.1 (brackets_unopened (60 ∷ []) (flat_map two_digits xs) (62 ∷ []) (written_data xs) refl _ _ _ c.in_err-put.ensures.emits) }

pub returns-in_err-write_digits : goal.returns-in_err-write_digits
returns-in_err-write_digits g c =
    let xs = c.args.octets.now in
    record { emits = refused c.from_residual-in_err-write_digits.result c.from_residual-in_err-write_digits.ensures.1 (brackets_unfilled (60 ∷ []) (flat_map two_digits xs) (62 ∷ []) (written_data xs) refl _ _ _ _ _ c.in_ok-put.ensures.emits c.in_err-write_digits.ensures.emits) }

pub returns : goal.returns
returns g c =
    let xs = c.args.octets.now in
    record { emits = brackets_closed (60 ∷ []) (flat_map two_digits xs) (62 ∷ []) (written_data xs) refl _ _ _ _ _ _ _ c.in_ok-put.ensures.emits c.in_ok-write_digits.ensures.emits c.put-2.ensures.emits }
