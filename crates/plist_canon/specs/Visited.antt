-- Visiting the objects of a file in the order of their numbers.
use Rattle.std.specs.Prelude.{ℕ, List}
use Rattle.plist_write.specs.RepeatFilter.{AreAdded}
use Rattle.plist_canon.specs.Checking.{IsEndBefore}
use Rattle.plist_canon.specs.Steps.{Walked}
use Rattle.plist_canon.specs.declared.visited.Visited.{Visited}

-- the objects before i were recorded and walked, and the last of them ends at `end`
pub record AreVisited (f : List ℕ) (i : ℕ) (visited : Visited) : Type 0 where
  pub added : AreAdded f i visited.builder
  pub walked : Walked f i visited.walk
  pub ends : IsEndBefore f i visited.end
