use Rattle.std.proofs.Common.{◌≡◌, ◌++◌, drop, string_bytes, map}
use Rattle.std.specs.Prelude.{flat_map}
use Rattle.plist_explain.specs.Topics.{entry_of, line_of}
use Rattle.plist_explain.proofs.explaining.push_lines.Given as goal

abbrev pub invariant-loop-topic : goal.invariant-loop-topic
invariant-loop-topic l =
    string_bytes l.text ++ flat_map line_of (map entry_of (drop l.topic-index l.topics))
    ≡ string_bytes l.fn.text ++ flat_map line_of (map entry_of l.fn.topics)
