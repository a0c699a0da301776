use Rattle.std.proofs.Common.{◌≡◌, ◌∙◌, ap, sym}
use Rattle.std.proofs.lemmas.Bool.Decides.{Decides-eqb}
use Rattle.std.proofs.lemmas.Slice.Eq.{slice_eq-Decides}
use Rattle.plist_write.specs.Canonical.{canon}
use Rattle.plist_write.proofs.Binary.{canon-injective}
use Rattle.plist_forms.proofs.Accepting.{accepted_fits, accepted_valid}
use Rattle.plist_forms.proofs.canonicals.same_files_with_hasher.Goals as goal

pub returns-clause-same : goal.returns-clause-same
returns-clause-same g c =
    let a = c.args.a.now in
    let b = c.args.b.now in
    let first = c.in-Ok.ensures.canonical in
    let second = c.in-Ok-canonicalise_with_hasher.ensures.canonical in
    let v = first.value in
    let w = second.value in
    let octets = slice_eq-Decides Decides-eqb c.in-Ok.file.items c.in-Ok-canonicalise_with_hasher.file.items c.eq-2.result c.eq-2.ensures in
    let equal : c.in-Ok.file.items ≡ c.in-Ok-canonicalise_with_hasher.file.items → canon v ≡ canon w =
    λ e. sym first.canonical ∙ e ∙ second.canonical in
    let apart : canon v ≡ canon w → c.in-Ok.file.items ≡ c.in-Ok-canonicalise_with_hasher.file.items =
    λ e. first.canonical ∙ e ∙ sym second.canonical in
    record {
      first = v;
      second = w;
      first_accepted = first.accepted;
      second_accepted = second.accepted;
      values = (
        λ yes. canon-injective v w (accepted_valid a v first.accepted) (accepted_fits a v first.accepted) (accepted_valid b w second.accepted) (accepted_fits b w second.accepted) (equal (octets.0 yes)),
        λ same. octets.1 (apart (ap canon same)),
      );
      files = (λ yes. equal (octets.0 yes), λ same. octets.1 (apart same));
    }
