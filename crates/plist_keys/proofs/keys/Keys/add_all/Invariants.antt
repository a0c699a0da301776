use Rattle.std.proofs.Common.{◌≡◌, ℕ, List, Ok, suc}
use Rattle.plist_object.specs.Objects.{holds_table}
use Rattle.plist_object.specs.Places.{what_holds}
use Rattle.plist_object.specs.Views.{numbers_of, octets_of}
use Rattle.plist_keys.specs.Overlap.{AreCounted}
use Rattle.plist_keys.specs.Ranks.{AreKeys}
use Rattle.plist_keys.proofs.keys.Keys.add_all.Given as goal

abbrev pub invariant-loop-k : goal.invariant-loop-k
invariant-loop-k l =
    let f = octets_of l.file in
    record {
      keys : AreKeys f l.self;
      counted : (i : ℕ) (values : List ℕ) → what_holds f i ≡ Ok (holds_table (numbers_of l.keys) values)
          → AreCounted f (suc i) l.initial.self → AreCounted f (suc i) l.self;
    }
