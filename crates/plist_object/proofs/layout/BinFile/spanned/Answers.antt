use Rattle.std.proofs.Common.{rules}
use Rattle.plist_object.specs.Places.{what_holds, span_of, object_at, octets_at}
use Rattle.plist_object.proofs.layout.BinFile.spanned.Goals as goal

pub returns-in_err-octets-clause-read : goal.returns-in_err-octets-clause-read
unfolding what_holds object_at octets_at
returns-in_err-octets-clause-read c = search rules

pub returns-in_err-octets-clause-span : goal.returns-in_err-octets-clause-span
unfolding span_of object_at octets_at
returns-in_err-octets-clause-span c = search rules

pub returns-in_err-object-clause-read : goal.returns-in_err-object-clause-read
unfolding what_holds object_at octets_at
returns-in_err-object-clause-read c = search rules

pub returns-in_err-object-clause-span : goal.returns-in_err-object-clause-span
unfolding span_of object_at octets_at
returns-in_err-object-clause-span c = search rules

pub returns-clause-read : goal.returns-clause-read
unfolding what_holds object_at octets_at
returns-clause-read c = search rules

pub returns-clause-span : goal.returns-clause-span
unfolding span_of object_at octets_at
returns-clause-span c = search rules
