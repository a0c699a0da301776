use Rattle.std.proofs.Common.{◌≡◌, ℕ, List, rules, refl, subst, arith}
use Rattle.std.proofs.KnownBytes.{Appends-nil}
use Rattle.std.proofs.lemmas.Result.{err_from_is_err_and}
use Rattle.plist_object.specs.Spelled.{IsBinary}
use Rattle.plist_object.specs.Views.{octets_of}
use Rattle.plist_value.specs.View.{view}
use Rattle.plist_write.proofs.FileSteps.{canon-some}
use Rattle.plist_canon.proofs.writing.write_canonical_with_hasher.Goals as goal

pub write_canonical_of-requires-clause-ready : goal.write_canonical_of-requires-clause-ready
write_canonical_of-requires-clause-ready g c = c.of_draft.ensures.ready _

pub returns-clause-written : goal.returns-clause-written
returns-clause-written g c =
    let v = view c.args.value.now in
    let same : c.in_ok-octets.octets.items ≡ octets_of c.of_draft.result.file = search rules in
    let binary : IsBinary (octets_of c.of_draft.result.file) v = subst (λ (os : List ℕ). IsBinary os v) same c.in_ok-octets.ensures in
    c.write_canonical_of.ensures.written v binary

pub returns-clause-pieces : goal.returns-clause-pieces
returns-clause-pieces g c =
    let v = view c.args.value.now in
    let same : c.in_ok-octets.octets.items ≡ octets_of c.of_draft.result.file = search rules in
    let binary : IsBinary (octets_of c.of_draft.result.file) v = subst (λ (os : List ℕ). IsBinary os v) same c.in_ok-octets.ensures in
    c.write_canonical_of.ensures.pieces v binary

pub returns-in_err-octets-clause-written : goal.returns-in_err-octets-clause-written
returns-in_err-octets-clause-written g c =
    let e = err_from_is_err_and c.from_residual.result c.from_residual.ensures.1 in
    rw (e.1, e.2) (record { count = tt; whole = tt; within = omega (arith, canon-some (view c.args.value.now)); front = (Appends-nil (g.W.Sink.taken c.args.out.now), refl) })
