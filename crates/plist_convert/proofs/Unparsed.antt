-- Arguments that are not parsed, and those that are.
use Rattle.std.proofs.Common.{refl, List, None, Ok, Option, Some, ◌≡◌}
use Rattle.std.specs.Prelude.{IfSome}
use Rattle.clap.specs.Words.{Text}
use Rattle.plist_convert.specs.Asked.{Asked, asked_by, asked_unparsed}
use Rattle.plist_convert.specs.Program.{AskFor}
use Rattle.plist_convert.specs.Reading.{IsReading}
use Rattle.plist_convert.specs.declared.request.Request.{Request}

pub is_parsed : (words : List Text) → IfSome (asked_unparsed words) (λ _. ⊥) → asked_unparsed words ≡ None
is_parsed words none = go (asked_unparsed words) none
  where
    go : (asked : Option Asked) → IfSome asked (λ _. ⊥) → asked ≡ None
    go None none = refl
    go (Some it) none = absurd none

-- the request that was read is that of the arguments
pub asked_for : (words : List Text) (request : Request) → IfSome (asked_unparsed words) (λ it. asked_by request ≡ it)
    → (asked_unparsed words ≡ None → IsReading words (Ok request)) → AskFor words (asked_by request)
asked_for words request unparsed reads = record {
  unparsed = unparsed;
  parsed = λ none. record {
    kinds = (reads none).kinds;
    asked = (reads none).asked;
    parse = (reads none).parse;
    taken = (reads none).taken.0;
    is = (reads none).taken.1;
  };
}
