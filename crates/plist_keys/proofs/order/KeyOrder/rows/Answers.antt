use Rattle.plist_keys.proofs.order.KeyOrder.rows.Goals as goal
use Rattle.plist_keys.proofs.order.KeyOrder.rows.Goals.{in-Some+in_ok-texts+in_default-2+in_ok-of_reached+in_ok-self, in_default}

pub ranked_rows-requires-clause-ranks : goal.ranked_rows-requires-clause-ranks
ranked_rows-requires-clause-ranks c =
    elim c.match-self.branch [
      | in-Some+in_ok-texts+in_default-2+in_ok-of_reached+in_ok-self w ↦ rw w.self-is w.in_ok-self.ensures.ranks
      | in_default w ↦ rw w.self-is c.requires.ready.ranks
    ]

pub returns-clause-ready : goal.returns-clause-ready
returns-clause-ready c =
    elim c.match-self.branch [
      | in-Some+in_ok-texts+in_default-2+in_ok-of_reached+in_ok-self w ↦ rw w.self-is record {
        last = c.requires.ready.last;
        longest = c.requires.ready.longest;
        ascending = c.requires.ready.ascending;
        ranks = w.in_ok-self.ensures.ranks;
      }
      | in_default w ↦ rw w.self-is c.requires.ready
    ]
