use Rattle.std.proofs.Common.{◌≡◌, ◌<◌, ◌≤◌, ◌++◌, length, take, drop, rules, arith, sym}
use Rattle.std.proofs.lemmas.List.{take_at, take-append-drop, length-append, length-take, length-drop, drop_all}
use Rattle.plist_devices.proofs.list_source.ListSourceSource.take.Goals as goal

pub returns-clause-take : goal.returns-clause-take
returns-clause-take c =
    let n = c.min-given.result in
    let into = c.args.into.now in
    let piece = c.copy_from_slice.new.self in
    let rest = c.args.self.now.rest.now in
    let long : length piece ≡ n = omega (arith, c.copy_from_slice.ensures.len, length-take n into) in
    let front : take n (piece ++ drop n into) ≡ piece = take_at piece (drop n into) n long in
    let room : n ≤ length (piece ++ drop n into) = simp length-append (omega arith) in
    let whole : rest ≡ piece ++ drop n rest = rw (c.copy_from_slice.ensures.after, c.split_at.ensures.front) (sym (take-append-drop n rest)) in
    let same : length (piece ++ drop n into) ≡ length into = simp (length-append, length-drop) (omega arith) in
    let end : n ≡ 0 → 0 < length (piece ++ drop n into) → length rest ≤ n = λ none some. omega (arith, c.args.self.now.forward) in
    record {
      within = (room, rw front (sym long));
      octets = (rw (front, c.split_at.ensures.back) whole, λ none some. rw c.split_at.ensures.back (drop_all n rest (end none some)));
      count = search rules;
    }
