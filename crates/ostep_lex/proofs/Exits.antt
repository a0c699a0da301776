-- Errors returned with `?`.
use Rattle.std.proofs.Common.{◌≡◌, Result}
use Rattle.std.specs.Prelude.{IfOk, IfErr, IsErrAnd, Ok, Err}
use Rattle.std.specs.Result.{OnOk}
use Rattle.std.proofs.lemmas.Result.{err_from_is_err_and}

-- the fault of a callee is returned unchanged
pub passed_on : {T E : Type 0} (P : E → Type 0) (fault : E) (r : Result T E) → IsErrAnd r (λ y. y ≡ fault) → P fault → IfErr r P
passed_on P fault r h p = let e = err_from_is_err_and r h in rw (e.1, e.2) p

pub on_ok : {T E : Type 0} (P : Type 0) (r : Result T E) → P → OnOk r P
on_ok P (Ok x) p = p
on_ok P (Err e) p = tt

pub both_ok : {T E : Type 0} (r : Result T E) (P : T → Type 0) (Q : Type 0) (R : T → Type 0) → ((x : T) → P x → Q → R x) → IfOk r P → OnOk r Q → IfOk r R
both_ok (Ok x) P Q R then p q = then x p q
both_ok (Err e) P Q R then p q = tt
