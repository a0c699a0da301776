-- The trailer as the code reads it, as the definitions have it.
use Rattle.plist_object.specs.Layout.{Trailer}
use Rattle.plist_object.specs.declared.trailer.Trailer as read

abbrev pub trailer_in : read.Trailer → Trailer
trailer_in x = record {
  offset_width = x.offset_width;
  reference_width = x.reference_width;
  count = x.count;
  top = x.top;
  table = x.table;
}
