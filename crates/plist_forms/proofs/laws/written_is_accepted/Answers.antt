use Rattle.plist_forms.proofs.Accepting.{as_text}
use Rattle.plist_forms.proofs.laws.written_is_accepted.Goals as goal

pub returns : goal.returns
returns c = λ v octets valid fits is.
    let written = c.written_is_text.ensures v octets valid fits is in
    as_text octets v written.not_binary written.is_text
