use Rattle.std.proofs.Common.{◌++◌, take, sym, ap, ◌∙◌, arith}
use Rattle.plist_print.proofs.Encoded.{encode-two, encode-three, take-two, take-three}
use Rattle.plist_print.proofs.strings.encode_unit.Goals as goal

pub returns-then-unit-lt2048-clause-octets : goal.returns-then-unit-lt2048-clause-octets
returns-then-unit-lt2048-clause-octets c =
    let xs = c.args.into.now in
    take-two xs c.args.at _ _ (omega arith) ∙ ap (λ os. take c.args.at xs ++ os) (sym (encode-two c.args.unit (omega arith) (omega arith)))

pub returns-clause-octets : goal.returns-clause-octets
returns-clause-octets c =
    let xs = c.args.into.now in
    take-three xs c.args.at _ _ _ (omega arith) ∙ ap (λ os. take c.args.at xs ++ os) (sym (encode-three c.args.unit (omega arith) (omega arith)))
