use Rattle.std.proofs.Common.{rules, ap, sym, [], ◌∙◌, ◌≡◌, true}
use Rattle.std.specs.Prelude.{if◌then◌else◌}
use Rattle.std.specs.Str.Iter.{split_ascii_whitespace_text}
use Rattle.plist_explain.specs.Topics.{words}
use Rattle.plist_explain.proofs.Words.{left, left_none, left_on, no_words, words_on}
use Rattle.plist_explain.proofs.naming.word_in.Goals.{then-is_next, else-is_next}
use Rattle.plist_explain.proofs.naming.word_in.Goals as goal

pub loop-word-init : goal.loop-word-init
loop-word-init c =
    let all : split_ascii_whitespace_text c.into_iter-word-iterator.result ≡ c.args.text.now =
    ap split_ascii_whitespace_text c.into_iter-word-iterator.ensures.into_iter_gives ∙ c.split_ascii_whitespace-word-items.ensures.text in
    record { text = search rules; ends = ap (λ text. left [] true (words text)) all }

pub loop-word-preserved : goal.loop-word-preserved
loop-word-preserved c =
    let word = c.in-Some.word in
    let rest = words (split_ascii_whitespace_text c.next.new.self) in
    let before = c.loop-word.invariant in
    let more = words_on (split_ascii_whitespace_text c.loop-word.word-iterator) word (split_ascii_whitespace_text c.next.new.self) c.in-Some.ensures.steps in
    let named : c.if-is_next.named.now ≡ (if c.loop-word.is_next then word.now else c.loop-word.named.now) = elim c.if-is_next.branch [
      | then-is_next w ↦ rw w.if-is_next.true (ap (λ s. s.now) w.named-is)
      | else-is_next w ↦ rw w.if-is_next.false (ap (λ s. s.now) w.named-is)
    ] in record {
      text = search rules;
      ends = ap (λ text. left text c.is_mark-is_next.result rest) named
          ∙ ap (λ mark. left (if c.loop-word.is_next then word.now else c.loop-word.named.now) mark rest) c.is_mark-is_next.ensures
          ∙ sym (left_on c.loop-word.named.now c.loop-word.is_next word.now rest)
          ∙ sym (ap (left c.loop-word.named.now c.loop-word.is_next) more)
          ∙ before.ends;
    }

pub returns : goal.returns
returns c =
    let before = c.loop-word.invariant.ends in
    let none = no_words (split_ascii_whitespace_text c.loop-word.word-iterator) c.in-None.ensures.steps.0 in
    sym (ap (left c.loop-word.named.now c.loop-word.is_next) none ∙ left_none c.loop-word.named.now c.loop-word.is_next) ∙ before
