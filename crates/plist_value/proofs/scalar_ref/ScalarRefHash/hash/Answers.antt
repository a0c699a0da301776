use Rattle.plist_value.proofs.scalar_ref.ScalarRefHash.hash.Goals as goal

pub returns-in-Moment : goal.returns-in-Moment
returns-in-Moment g c = rw c.in-Moment.is c.hash_octets-in-Moment.ensures
