use Rattle.std.proofs.Common.{◌≡◌, ◌/◌, ◌<◌, ◌∙◌, length, get_or, arith}
use Rattle.std.proofs.lemmas.List.{get_or_default}
use Rattle.plist_write.proofs.SetBits.{bit_set, bits_kept, bit_behind}
use Rattle.plist_write.proofs.bits.Bits.set.Goals as goal

pub returns-then-index-len-clause-set : goal.returns-then-index-len-clause-set
returns-then-index-len-clause-set c =
    let words = c.args.self.now.words.items in
    let n = c.args.bit in
    let inside : n / 64 < length words = omega (arith, c.if-index-len.true, c.len.ensures) in
    let word : c.index_mut.result.now ≡ get_or words (n / 64) 0 = c.index_mut.ensures.value ∙ get_or_default words (n / 64) c.index_mut.result.now 0 inside in
    rw word (bit_set words n inside)

pub returns-then-index-len-clause-kept : goal.returns-then-index-len-clause-kept
returns-then-index-len-clause-kept c =
    let words = c.args.self.now.words.items in
    let n = c.args.bit in
    let inside : n / 64 < length words = omega (arith, c.if-index-len.true, c.len.ensures) in
    let word : c.index_mut.result.now ≡ get_or words (n / 64) 0 = c.index_mut.ensures.value ∙ get_or_default words (n / 64) c.index_mut.result.now 0 inside in
    rw word (bits_kept words n inside)

pub returns-else-index-len-clause-set : goal.returns-else-index-len-clause-set
returns-else-index-len-clause-set c =
    bit_behind c.args.self.now.words.items c.args.bit (omega (arith, c.if-index-len.false, c.len.ensures))
