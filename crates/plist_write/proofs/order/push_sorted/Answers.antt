use Rattle.std.proofs.Common.{refl}
use Rattle.plist_object.specs.Views.{octets_of, numbers_of}
use Rattle.plist_write.proofs.Ordering.{sorted_references-indices, names_texts, places_within}
use Rattle.plist_write.proofs.order.push_sorted.Goals as goal

pub sort-requires-clause-names : goal.sort-requires-clause-names
sort-requires-clause-names c =
    names_texts (octets_of c.args.input.now.file) (numbers_of c.args.table.now.keys) (numbers_of c.args.table.now.values) c.requires.table

pub push_at-requires : goal.push_at-requires
push_at-requires c =
    rw c.indices.ensures (places_within (octets_of c.args.input.now.file) (numbers_of c.args.table.now.keys) c.sort.new.self.last.indices.items _ refl c.in_ok-sort.ensures.order)

pub push_at-requires-2 : goal.push_at-requires-2
push_at-requires-2 c =
    rw c.indices-2.ensures (places_within (octets_of c.args.input.now.file) (numbers_of c.args.table.now.keys) c.sort.new.self.last.indices.items _ c.requires.table.as_many c.in_ok-sort.ensures.order)

pub returns-clause-pushed : goal.returns-clause-pushed
returns-clause-pushed c =
    let f = octets_of c.args.input.now.file in
    let keys = numbers_of c.args.table.now.keys in
    let values = numbers_of c.args.table.now.values in
    let indices = c.sort.new.self.last.indices.items in
    λ rows ps spell. sorted_references-indices f keys values indices rows ps c.args.references.now.items c.push_at.new.references.items c.push_at-2.new.references.items c.requires.table.as_many c.in_ok-sort.ensures.order spell (rw (c.indices.ensures, c.reserve.ensures.items) at c.in_ok-push_at.ensures) (rw c.indices-2.ensures at c.in_ok-push_at-2.ensures)
