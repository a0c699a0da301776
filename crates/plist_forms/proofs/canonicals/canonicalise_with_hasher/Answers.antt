use Rattle.plist_forms.proofs.Refusing.{refused_as}
use Rattle.plist_forms.proofs.canonicals.canonicalise_with_hasher.Goals as goal

pub returns-in_err-binary-clause-refused : goal.returns-in_err-binary-clause-refused
returns-in_err-binary-clause-refused g c =
    refused_as c.args.octets.now _ c.from_residual.result c.from_residual.ensures.1 c.in_err-binary.ensures.refused

pub returns-in_err-judged-clause-refused : goal.returns-in_err-judged-clause-refused
returns-in_err-judged-clause-refused g c =
    refused_as c.args.octets.now _ c.from_residual-in_err-judged.result c.from_residual-in_err-judged.ensures.1 (c.in_err-judged.ensures.refused c.args.octets.now c.in_ok-binary.ensures.read)

pub judged-requires : goal.judged-requires
judged-requires g c = (c.args.octets.now, c.in_ok-binary.ensures.read)

pub canonical_of-requires-clause-binary : goal.canonical_of-requires-clause-binary
canonical_of-requires-clause-binary g c =
    let encoded = c.in_ok-judged.ensures.encodes c.args.octets.now c.in_ok-binary.ensures.read in
    (encoded.value, encoded.binary)

pub returns-clause-canonical : goal.returns-clause-canonical
returns-clause-canonical g c =
    let encoded = c.in_ok-judged.ensures.encodes c.args.octets.now c.in_ok-binary.ensures.read in
    record {
      value = encoded.value;
      accepted = encoded.accepted;
      canonical = c.in_ok-canonical_of.ensures encoded.value encoded.binary;
    }
