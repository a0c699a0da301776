use Rattle.std.proofs.Common.{append_assoc, refl}
use Rattle.plist_object.proofs.puts.put_list.Goals as goal

pub push_references-requires-clause-room : goal.push_references-requires-clause-room
push_references-requires-clause-room c = c.in_ok-begin_list.ensures.room c.args.refs.now refl

pub returns-clause-ok : goal.returns-clause-ok
returns-clause-ok c =
    rw (c.push_references.ensures.items, c.in_ok-begin_list.ensures.begun) (simp append_assoc refl)
