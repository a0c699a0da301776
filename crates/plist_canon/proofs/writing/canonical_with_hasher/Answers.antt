use Rattle.std.proofs.Common.{◌≡◌, ℕ, List, rules, subst}
use Rattle.std.proofs.lemmas.Result.{IfOk-weaker}
use Rattle.plist_object.specs.Spelled.{IsBinary}
use Rattle.plist_object.specs.Views.{octets_of}
use Rattle.plist_value.specs.View.{view}
use Rattle.plist_canon.proofs.writing.canonical_with_hasher.Goals as goal

pub canonical_of-requires-clause-ready : goal.canonical_of-requires-clause-ready
canonical_of-requires-clause-ready g c = c.of_draft.ensures.ready _

pub returns : goal.returns
returns g c =
    let v = view c.args.value.now in
    let same : c.in_ok-octets.octets.items ≡ octets_of c.of_draft.result.file = search rules in
    let binary : IsBinary (octets_of c.of_draft.result.file) v = subst (λ (os : List ℕ). IsBinary os v) same c.in_ok-octets.ensures in
    IfOk-weaker c.canonical_of.result _ _ (λ octets told. told v binary) c.canonical_of.ensures
