-- Equality, order and hash of a type depend on its content alone.
use Rattle.std.specs.Prelude.{◌≡◌, ◌↔◌, ℕ, List, Bool, IsTrue}
use Rattle.std.specs.declared.cmp.Ordering.{Ordering}

-- values are equal if and only if their contents are
abbrev pub IsEqualityOf : {A B : Type 0} → (A → B) → (A → A → Bool) → Type 0
IsEqualityOf {A} content eq = (x y : A) → IsTrue (eq x y) ↔ content x ≡ content y

-- values have the order of their contents
abbrev pub IsOrderOf : {A B : Type 0} → (A → B) → (B → B → Ordering) → (A → A → Ordering) → Type 0
IsOrderOf {A} content order cmp = (x y : A) → cmp x y ≡ order (content x) (content y)

-- values with equal contents feed a hasher alike
abbrev pub IsHashOf : {A B : Type 0} → (A → B) → (A → List (List ℕ)) → Type 0
IsHashOf {A} content fed = (x y : A) → content x ≡ content y → fed x ≡ fed y
