use Rattle.std.proofs.Common.{rules, arith}
use Rattle.plist_object.specs.Views.{octets_of}
use Rattle.plist_keys.proofs.Counting.{none_marked}
use Rattle.plist_keys.proofs.keys.Keys.none.Goals as goal

pub returns-clause-keys : goal.returns-clause-keys
returns-clause-keys c = search rules

pub returns-clause-counted : goal.returns-clause-counted
returns-clause-counted c = record {
  counted = omega (arith, c.table-2.ensures.value);
  keys = none_marked (octets_of c.args.file.now) _ _ _ _ c.in_ok-resize.ensures.items c.new-seen.ensures.items;
  read = omega (arith, c.table.ensures.value);
}
