use Rattle.std.proofs.Common.{append_assoc, refl}
use Rattle.plist_object.proofs.puts.put_short_list.Goals as goal

pub push_short_references-requires-clause-room : goal.push_short_references-requires-clause-room
push_short_references-requires-clause-room c = c.in_ok-begin_list.ensures.room c.args.refs.now refl

pub returns-clause-ok : goal.returns-clause-ok
returns-clause-ok c =
    rw (c.push_short_references.ensures.items, c.in_ok-begin_list.ensures.begun) (simp append_assoc refl)
