use Rattle.std.proofs.Common.{◌≡◌, ◌++◌, ℕ, List, append_assoc}
use Rattle.plist_object.proofs.puts.put_trailer.Goals as goal

four_pieces : (a w x y z p q r s : List ℕ) → p ≡ a ++ w → q ≡ p ++ x → r ≡ q ++ y → s ≡ r ++ z → s ≡ a ++ (w ++ (x ++ (y ++ z)))
four_pieces a w x y z p q r s first second third fourth = rw (fourth, third, second, first) (simp append_assoc)

pub returns-clause-ok : goal.returns-clause-ok
returns-clause-ok c =
    let first = rw c.in_ok-reserve.ensures.items at c.push_octets.ensures.items in
    four_pieces _ _ _ _ _ _ _ _ _ first c.push_number.ensures.items c.push_number-2.ensures.items c.push_number-3.ensures.items
