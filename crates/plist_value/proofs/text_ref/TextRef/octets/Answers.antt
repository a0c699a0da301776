use Rattle.std.proofs.Common.{refl}
use Rattle.plist_value.proofs.text_ref.TextRef.octets.Goals as goal

pub returns-in-Ascii-clause-text : goal.returns-in-Ascii-clause-text
returns-in-Ascii-clause-text c = rw (c.in-Ascii.is, c.as_bytes.ensures.value) refl
