use Rattle.std.proofs.Common.{List, ℕ, drop, subst, sym, refl}
use Rattle.plist_keys.specs.Prefixes.{IsNarrow}
use Rattle.plist_keys.proofs.prefixes.is_narrow.Goals as goal

pub returns-in-Some : goal.returns-in-Some
returns-in-Some c = (
  λ _. subst (λ (units : List ℕ). IsNarrow (drop c.args.front units)) (sym c.in-Some.ensures.text) c.bytes_are_narrow.ensures,
  λ _. refl,
)
