use Rattle.std.proofs.Common.{◌≡◌, ◌∙◌, ◌++◌, ap, sym, take}
use Rattle.std.proofs.lemmas.List.{take_rest}
use Rattle.plist_forms.proofs.Besides.{goes_apart, goes_on}
use Rattle.plist_forms.proofs.taken.then_after.Goals as goal

pub returns-then-starts_with-clause-octets : goal.returns-then-starts_with-clause-octets
returns-then-starts_with-clause-octets c =
    let starts = rw (take_rest c.args.known.now c.args.count) at c.if-starts_with.ensures.value in
    goes_on c.args.known.now c.args.piece.now c.args.count (sym starts)

pub returns-clause-beside : goal.returns-clause-beside
returns-clause-beside c rest same =
    let starts = rw (take_rest c.args.known.now c.args.count) at c.if-starts_with.ensures.value in
    let octets : c.extend_from_slice.new.self.items ≡ take c.args.count c.args.known.now ++ c.args.piece.now =
    c.in_ok-extend_from_slice.ensures.items ∙ ap (λ l. l ++ c.args.piece.now) c.in_ok-octets.ensures.items in
    goes_apart c.args.known.now c.args.piece.now c.args.count c.requires (sym starts) rest (ap (λ l. l ++ rest) (sym octets) ∙ same)
