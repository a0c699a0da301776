use Rattle.std.proofs.Common.{◌≡◌, ◌<◌, length, ap, arith}
use Rattle.plist_draft.specs.Stored.{draft_file}
use Rattle.plist_draft.specs.View.{objects}
use Rattle.plist_draft.proofs.Finishing.{file-parts, finished, shows}
use Rattle.plist_draft.proofs.draft.Draft.finish.Goals as goal
use Rattle.plist_draft.proofs.draft.Draft.finish.Goals.{After-are_octets}

is_file : (c : After-are_octets) → c.put_trailer.new.out.items ≡ draft_file c.args.top (objects c.args.self)
is_file c =
    let entries = rw (c.deref.ensures.value, c.reserve_exact.ensures.items) at c.in_ok-put_offsets.ensures.put in
    let ended = rw (c.len-count.ensures, c.len-offset.ensures, c.from.ensures, c.args.self.offsets.ok.0, c.args.self.octets.ok.0) at c.in_ok-put_trailer.ensures.ok in
    file-parts _ _ _ _ c.args.top c.args.self.laid entries ended

pub returns-clause-file : goal.returns-clause-file
returns-clause-file c = is_file (goal.at.returns-clause-file c).After-are_octets

pub returns-clause-spells : goal.returns-clause-spells
returns-clause-spells c = λ v valid fits encoded.
    let short = rw c.deref.ensures.value at c.in_ok-put_offsets.ensures.fit in
    let whole = ap length c.deref-2.ensures.value in
    let octets = rw c.deref-2.ensures.value at c.are_octets.ensures in
    let long : length c.put_trailer.new.out.items < 18446744073709551616 = omega (arith, c.deref-2.type_inv, whole) in
    finished _ _ _ c.args.top v c.args.self.laid short long (is_file (goal.at.returns-clause-spells c).After-are_octets) octets valid fits encoded

pub returns-clause-shows : goal.returns-clause-shows
returns-clause-shows c = λ within.
    let short = rw c.deref.ensures.value at c.in_ok-put_offsets.ensures.fit in
    let whole = ap length c.deref-2.ensures.value in
    let long : length c.put_trailer.new.out.items < 18446744073709551616 = omega (arith, c.deref-2.type_inv, whole) in
    shows _ _ _ c.args.top c.args.self.laid short long (is_file (goal.at.returns-clause-shows c).After-are_octets) within
