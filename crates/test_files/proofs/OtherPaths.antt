-- The files beside the one that is written.
use Rattle.std.proofs.Common.{ap, sym, List, Option, ℕ, ◌∙◌, ◌≡◌}
use Rattle.std.specs.Prelude.{◌≢◌, cond, false, option_map}
use Rattle.std.specs.Str.{bytes_eq}
use Rattle.std.proofs.lemmas.Bool.{cond-false, false_from_ne_true}
use Rattle.std.proofs.lemmas.Slice.Eq.{bytes_eq-Decides}

-- the value of another key is unchanged if a map is updated at one key
pub other_value : {X Z : Type 0} (f : X → Z) (old new : Option X) (key path other : List ℕ) (value : Option X)
    → new ≡ cond (bytes_eq key other) value old → key ≡ path → other ≢ path → option_map f new ≡ option_map f old
other_value f old new key path other value sets key_is differs =
    let is_other : bytes_eq key other ≡ false = false_from_ne_true _ (λ same. differs (sym ((bytes_eq-Decides key other).0 same) ∙ key_is)) in
    ap (option_map f) (sets ∙ cond-false _ _ _ is_other)
