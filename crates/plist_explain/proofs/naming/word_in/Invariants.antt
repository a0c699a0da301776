use denote.Shadow.{shadow}
use denote.Text.{Utf8}
use Rattle.std.specs.Prelude.{◌≡◌}
use Rattle.std.specs.Str.Iter.{split_ascii_whitespace_text}
use Rattle.plist_explain.specs.Topics.{word_in, words}
use Rattle.plist_explain.proofs.Words.{left}
use Rattle.plist_explain.proofs.naming.word_in.Given as goal

abbrev pub invariant-loop-word : goal.invariant-loop-word
invariant-loop-word l = record {
  text : shadow (Utf8 l.named);
  ends : left l.named l.is_next (words (split_ascii_whitespace_text l.word-iterator)) ≡ word_in l.text;
}
