use Rattle.plist_object.specs.Views.{octets_of}
use Rattle.plist_write.proofs.RepeatFilters.{marked-singles}
use Rattle.plist_write.proofs.object_numbers.ObjectNumbers.search.Goals as goal

pub returns-in-Some : goal.returns-in-Some
returns-in-Some g c =
    marked-singles (octets_of c.args.file.now) c.in-Some.filter (rw c.in-Some.is at c.in_ok-filter.ensures) c.args.self.now _ c.mark_unique.ensures
