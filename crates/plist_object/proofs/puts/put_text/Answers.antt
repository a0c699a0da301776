use Rattle.std.proofs.Common.{arith}
use Rattle.plist_value.specs.Texts.{units_of}
use Rattle.plist_object.proofs.Counts.{length-head, length-references}
use Rattle.plist_object.proofs.puts.put_text.Goals as goal

pub push_wide-requires : goal.push_wide-requires
push_wide-requires c =
    let pushed = c.push_head-else-is_ascii.ensures in
    let begun = length-head 6 c.len-count.result in
    let wide = length-references 2 (units_of c.args.text.now) in
    omega (arith, pushed.len, pushed.room, c.in_ok-reserve-2.ensures.ok, c.in_ok-reserve-2.ensures.len, c.head_length-else-is_ascii.ensures.size, c.len-count.ensures, begun, wide)
