-- An object with content can be decoded, and that is what is decoded.
use Rattle.std.proofs.Common.{◌≡◌, ℕ, List, Result, Ok, Err, refl}
use Rattle.std.specs.Prelude.{IsOk}
use Rattle.plist_object.specs.declared.object.ObjectFault.{ObjectFault}
use Rattle.plist_object.specs.Objects.{Content, ◌>>=◌}
use Rattle.plist_object.specs.Places.{Holds, object_at, what_holds}

object_reads : (m : Result (Content × List ℕ) ObjectFault) (held : Content) → (m >>= λ read. Ok read.0) ≡ Ok held → IsOk m
object_reads (Ok read) held e = refl
object_reads (Err fault) held e = absurd (let no : Err fault ≡ Ok held = e in cc)

pub Holds-reads : (f : List ℕ) (i : ℕ) (held : Content) → Holds f i held → IsOk (object_at f i)
unfolding what_holds
Holds-reads f i held holds = object_reads (object_at f i) held holds.reads

pub what_holds-at : (f : List ℕ) (i : ℕ) (held : Content) (behind : List ℕ) → object_at f i ≡ Ok (held, behind) → what_holds f i ≡ Ok held
unfolding what_holds
what_holds-at f i held behind h = rw h refl
