-- Pieces are written one after another, and refusals are returned.
use Rattle.std.proofs.Common.{◌≡◌, ℕ, ◌+◌, ◌<◌, List, [], ◌++◌, length, Result, Ok, Err, ◌∷◌, sym, ap, subst, ◌∙◌, append_assoc, length-append, arith}
use Rattle.std.specs.Prelude.{IsErrAnd}
use Rattle.plist_write.specs.declared.faults.WriteFault.{WriteFault}
use Rattle.plist_write.specs.declared.faults.WriteFault.TheVariants.{OutOfMemory}
use Rattle.plist_write.specs.BufferedSink.{SinkState, Emits, PutsPiece}
use Rattle.plist_write.proofs.Going.{Emits_then, Emits_last, Emits_rest, Emits_same, Emits_stop, Emits_put, Emits_out}

-- one more piece is appended after others, before the buffer is flushed
module _ (done whole rest all items : List ℕ) (p q : SinkState) (split : done ++ whole ≡ all) (emits : Emits {T = Unit {0}} done p q (Ok tt)) (puts : PutsPiece q.waiting items whole rest) where
  pub piece-split : (done ++ puts.piece) ++ rest ≡ all
  piece-split = append_assoc done puts.piece rest ∙ ap (λ os. done ++ os) (sym puts.split) ∙ split

  pub piece-emits : Emits {T = Unit {0}} (done ++ puts.piece) p (record q { waiting = items }) (Ok tt)
  piece-emits = Emits_then done puts.piece p q (record q { waiting = items }) tt (Ok tt) emits (Emits_put puts.piece items q puts.put)

  pub piece-settled : {T : Type 0} (r : SinkState) (result : Result T WriteFault) → Emits [] (record q { waiting = items }) r result → Emits (done ++ puts.piece) p r result
  piece-settled r result settled = Emits_last (done ++ puts.piece) p (record q { waiting = items }) r tt result piece-emits settled

  pub piece-stops : {T U : Type 0} (r : SinkState) (fault : WriteFault) → Emits {T = T} [] (record q { waiting = items }) r (Err fault) → Emits {T = U} all p r (Err fault)
  piece-stops {T} {U} r fault stopped =
      Emits_rest (done ++ puts.piece) rest all p (record q { waiting = items }) r tt (Err fault) piece-split piece-emits (Emits_stop {T = T} {U = U} [] rest (record q { waiting = items }) r fault stopped)

-- out of memory for the next piece
pub no_piece : {T : Type 0} (done whole all items : List ℕ) (p q : SinkState) → 0 < length q.waiting + length whole → done ++ whole ≡ all → Emits {T = Unit {0}} done p q (Ok tt) → Emits {T = T} all p (record q { waiting = items }) (Err (OutOfMemory q.sent))
no_piece done whole all items p q some split emits =
    Emits_rest done whole all p q (record q { waiting = items }) tt (Err (OutOfMemory q.sent)) split emits (Emits_out whole items q some)

-- the call returns why another one failed
pub refused : {T : Type 0} {octets : List ℕ} {p r : SinkState} {fault : WriteFault} (result : Result T WriteFault) → IsErrAnd result (λ e. e ≡ fault) → Emits {T = T} octets p r (Err fault) → Emits octets p r result
refused (Ok value) is emits = absurd is
refused {T} {octets} {p} {r} (Err e) is emits = subst (λ (e : WriteFault). Emits {T = T} octets p r (Err e)) (sym is) emits

-- bytes between brackets: it failed at the first bracket, or between them, or all was written
module _ (left middle right all : List ℕ) (is : left ++ (middle ++ right) ≡ all) where
  pub brackets_unopened : {T U : Type 0} (p r : SinkState) (fault : WriteFault) → Emits {T = T} left p r (Err fault) → Emits {T = U} all p r (Err fault)
  brackets_unopened {T} {U} p r fault emits =
      Emits_same (left ++ (middle ++ right)) all p r (Err fault) is (Emits_stop {T = T} {U = U} left (middle ++ right) p r fault emits)

  pub brackets_unfilled : {T U V : Type 0} (p q r : SinkState) (value : T) (fault : WriteFault) → Emits left p q (Ok value) → Emits {T = U} middle q r (Err fault) → Emits {T = V} all p r (Err fault)
  brackets_unfilled {T} {U} {V} p q r value fault opened emits =
      Emits_rest left (middle ++ right) all p q r value (Err fault) is opened (Emits_stop {T = U} {U = V} middle right q r fault emits)

  pub brackets_closed : {T U V : Type 0} (p q r s : SinkState) (value : T) (done : U) (result : Result V WriteFault) → Emits left p q (Ok value) → Emits middle q r (Ok done) → Emits right r s result → Emits all p s result
  brackets_closed p q r s value done result opened filled emits =
      Emits_rest left (middle ++ right) all p q s value result is opened (Emits_then middle right q r s done result filled emits)

-- out of memory for bytes that were to be buffered
pub unbuffered : {T : Type 0} (octets items : List ℕ) (p : SinkState) (fault : WriteFault) (result : Result T WriteFault) → IsErrAnd result (λ e. e ≡ fault) → fault ≡ OutOfMemory p.sent → 0 < length octets → Emits octets p (record p { waiting = items }) result
unbuffered octets items p fault result is out some =
    refused result is (rw out (Emits_out octets items p (omega (arith, some))))

-- bytes that end with these are some
pub ended-some : (front : List ℕ) (octet : ℕ) (behind : List ℕ) → 0 < length (front ++ (octet ∷ behind))
ended-some front octet behind = omega (arith, length-append front (octet ∷ behind))
