use Rattle.std.proofs.Common.{ℕ, ◌<◌}
use Rattle.std.specs.Prelude.{slice_index}
use Rattle.plist_write.specs.Bits.{HasBit}
use Rattle.plist_write.specs.RepeatFilter.{AreSeenAgain}
use Rattle.plist_write.proofs.repeat_filter.seen_again.Given as goal

-- the bits so far are set in `once`, and those that were there before in `again` too
abbrev pub invariant-loop-bit : goal.invariant-loop-bit
invariant-loop-bit l = record {
  once : (k : ℕ) → k < l.bit-index → HasBit l.once (slice_index l.bits k);
  again : AreSeenAgain l.bit-index l.bits l.again;
}
