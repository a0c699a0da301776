use Rattle.std.proofs.Common.{◌≡◌, ◌/◌, ◌<◌, ◌∙◌, length, get_or, refl, arith}
use Rattle.std.proofs.lemmas.List.{get_or_default}
use Rattle.plist_write.proofs.SetBits.{bit_in_word, bit_behind}
use Rattle.plist_write.proofs.bits.Bits.has.Goals as goal

pub returns-then-index-len : goal.returns-then-index-len
returns-then-index-len c =
    (λ _. bit_behind c.args.self.now.words.items c.args.bit (omega (arith, c.if-index-len.true, c.len.ensures)), λ _. refl)

pub returns : goal.returns
returns c =
    let words = c.args.self.now.words.items in
    let n = c.args.bit in
    let within : n / 64 < length words = omega (arith, c.if-index-len.false, c.len.ensures) in
    let word : c.index.result.now ≡ get_or words (n / 64) 0 = c.index.ensures ∙ get_or_default words (n / 64) c.index.result.now 0 within in
    rw word (bit_in_word words n within)
