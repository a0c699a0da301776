-- Sequences of calls that write.
use Rattle.std.proofs.Common.{◌≡◌, ℕ, ◌+◌, ◌<◌, ◌≤◌, List, [], ◌++◌, length, take, Option, Result, Ok, Err, refl, sym, ap, subst, ◌∙◌, arith, length-append, append_assoc}
use Rattle.std.proofs.KnownBytes.{Appends-nil, Appends-trans}
use Rattle.std.proofs.Math.Seq.{take-append-add}
use Rattle.std.proofs.lemmas.List.{append-nil, take-append-le}
use Rattle.std.specs.Io.KnownBytes.{Appends}
use Rattle.std.specs.Prelude.{IsErr, IfOk, IfErr, OnOk}
use Rattle.std.specs.declared.alloc.AllocError.{AllocError}
use Rattle.plist_devices.specs.Count.{one_more}
use Rattle.plist_write.specs.declared.faults.WriteFault.{WriteFault}
use Rattle.plist_write.specs.declared.faults.WriteFault.TheVariants.{OutOfMemory, WriteFailed}
use Rattle.plist_write.specs.Sending.{sent_of, Allows, IsBlamed, IsWritten}
use Rattle.plist_write.specs.BufferedSink.{SinkState, Stays, Gathers, Stops, Emits, KeepsShort}

-- a prefix is no longer than the whole
pub less_within : (out all : ℕ) → out < all → out ≤ all
less_within out all h = omega arith

pub Stays-trans : (p q r : SinkState) → Stays p q → Stays q r → Stays p r
Stays-trans p q r first second = record { sink = second.sink ∙ first.sink; device = second.device ∙ first.device }

joined : (w a b g v h x : List ℕ) → w ++ a ≡ g ++ v → v ++ b ≡ h ++ x → w ++ (a ++ b) ≡ (g ++ h) ++ x
joined w a b g v h x first second =
    sym (append_assoc w a b) ∙ ap (λ l. l ++ b) first ∙ append_assoc g v b ∙ ap (λ l. g ++ l) second ∙ sym (append_assoc g h x)

Gathers-then : (a b : List ℕ) (p q r : SinkState) → Gathers a p q → Gathers b q r → Gathers (a ++ b) p r
Gathers-then a b p q r first second = record {
  gone = first.gone ++ second.gone;
  whole = joined p.waiting a b first.gone q.waiting second.gone r.waiting first.whole second.whole;
  taken = Appends-trans p.taken q.taken r.taken first.gone second.gone first.taken second.taken;
  sent = let n = length-append first.gone second.gone in let x = first.sent in let y = second.sent in omega arith;
  failures = second.failures ∙ first.failures;
}

blamed-before : (fault : WriteFault) (x y z : ℕ) → y ≡ x → IsBlamed fault y z → IsBlamed fault x z
blamed-before (WriteFailed sent) x y z same blamed = blamed ∙ ap one_more same
blamed-before (OutOfMemory sent) x y z same blamed = blamed ∙ same

Stops-then : (a b : List ℕ) (p q r : SinkState) (fault : WriteFault) → Gathers a p q → Stops b q r fault → Stops (a ++ b) p r fault
Stops-then a b p q r fault first second =
    let front : p.waiting ++ (a ++ b) ≡ first.gone ++ (q.waiting ++ b) = sym (append_assoc p.waiting a b) ∙ ap (λ l. l ++ b) first.whole ∙ append_assoc first.gone q.waiting b in
    let cut : take (length first.gone + second.more) (p.waiting ++ (a ++ b)) ≡ first.gone ++ take second.more (q.waiting ++ b) = ap (take (length first.gone + second.more)) front ∙ take-append-add first.gone (q.waiting ++ b) second.more in
    let size : length first.gone + length (q.waiting ++ b) ≡ length (p.waiting ++ (a ++ b)) = (let n = ap length front ∙ length-append first.gone (q.waiting ++ b) in omega arith) in
    record {
      more = length first.gone + second.more;
      sent = let x = first.sent in let y = second.sent in omega arith;
      within = omega (arith, size, second.within);
      taken = subst (λ (l : List ℕ). Appends p.taken r.taken l) (sym cut) (Appends-trans p.taken q.taken r.taken first.gone _ first.taken second.taken);
      blamed = blamed-before fault p.failures q.failures r.failures first.failures second.blamed;
    }

Stops_front : (a b : List ℕ) (p q : SinkState) (fault : WriteFault) → Stops a p q fault → Stops (a ++ b) p q fault
Stops_front a b p q fault stops =
    let whole = append_assoc p.waiting a b in
    let size : length (p.waiting ++ a) + length b ≡ length (p.waiting ++ (a ++ b)) = (let n = ap length (sym whole) ∙ length-append (p.waiting ++ a) b in omega arith) in
    let within : stops.more ≤ length (p.waiting ++ a) = omega (arith, stops.within) in
    record {
      more = stops.more;
      sent = stops.sent;
      within = omega (arith, size, stops.within);
      taken = subst (λ (l : List ℕ). Appends p.taken q.taken l) (sym (ap (take stops.more) (sym whole) ∙ take-append-le stops.more (p.waiting ++ a) b within)) stops.taken;
      blamed = stops.blamed;
    }

-- a call that succeeded, and then another one
pub Emits_then : {T U : Type 0} (a b : List ℕ) (p q r : SinkState) (value : T) (result : Result U WriteFault) → Emits a p q (Ok value) → Emits b q r result → Emits (a ++ b) p r result
Emits_then a b p q r value (Ok x) first emits =
    record { stays = Stays-trans p q r first.stays emits.stays; done = Gathers-then a b p q r first.done emits.done; stopped = tt }
Emits_then a b p q r value (Err fault) first emits = record {
  stays = Stays-trans p q r first.stays emits.stays;
  done = tt;
  stopped = Stops-then a b p q r fault first.done emits.stopped;
}

-- a call that failed within the first part
pub Emits_stop : {T U : Type 0} (a b : List ℕ) (p r : SinkState) (fault : WriteFault) → Emits {T = T} a p r (Err fault) → Emits {T = U} (a ++ b) p r (Err fault)
Emits_stop a b p r fault emits = record { stays = emits.stays; done = tt; stopped = Stops_front a b p r fault emits.stopped }

pub Emits_same : {T : Type 0} (a b : List ℕ) (p r : SinkState) (result : Result T WriteFault) → a ≡ b → Emits a p r result → Emits b p r result
Emits_same a b p r result same emits = subst (λ (l : List ℕ). Emits l p r result) same emits

-- a call that succeeded, and then one without more bytes
pub Emits_last : {T U : Type 0} (a : List ℕ) (p q r : SinkState) (value : T) (result : Result U WriteFault) → Emits a p q (Ok value) → Emits [] q r result → Emits a p r result
Emits_last a p q r value result first emits =
    Emits_same (a ++ []) a p r result (append-nil a) (Emits_then a [] p q r value result first emits)

-- some of the bytes were written, and then the rest
pub Emits_rest : {T U : Type 0} (done rest all : List ℕ) (p q r : SinkState) (value : T) (result : Result U WriteFault) → done ++ rest ≡ all → Emits done p q (Ok value) → Emits rest q r result → Emits all p r result
Emits_rest done rest all p q r value result split first emits =
    Emits_same (done ++ rest) all p r result split (Emits_then done rest p q r value result first emits)

-- the bytes are only buffered
pub Emits_put : (octets items : List ℕ) (p : SinkState) → items ≡ p.waiting ++ octets → Emits {T = Unit {0}} octets p (record p { waiting = items }) (Ok tt)
Emits_put octets items p put = record {
  stays = record { sink = refl; device = refl };
  done = record { gone = []; whole = sym put; taken = Appends-nil p.taken; sent = omega arith; failures = refl };
  stopped = tt;
}

-- out of memory, with bytes left to send
pub Emits_out : {T : Type 0} (octets items : List ℕ) (p : SinkState) → 0 < length p.waiting + length octets → Emits {T = T} octets p (record p { waiting = items }) (Err (OutOfMemory p.sent))
Emits_out octets items p some = record {
  stays = record { sink = refl; device = refl };
  done = tt;
  stopped = record { more = 0; sent = omega arith; within = omega (arith, length-append p.waiting octets, some); taken = Appends-nil p.taken; blamed = refl };
}

-- the bytes are buffered, or there was no memory for them
pub Emits_grown : {T : Type 0} (octets items : List ℕ) (p : SinkState) (growth : Result T AllocError) (result : Result T WriteFault) → 0 < length p.waiting + length octets → OnOk growth (items ≡ p.waiting ++ octets) → IfOk result (λ value. growth ≡ Ok value) → IfErr result (λ fault. IsErr growth × (fault ≡ OutOfMemory p.sent)) → Emits octets p (record p { waiting = items }) result
Emits_grown octets items p growth (Ok value) some put is refused =
    let put = rw is at put in
    record {
      stays = record { sink = refl; device = refl };
      done = record { gone = []; whole = sym put; taken = Appends-nil p.taken; sent = omega arith; failures = refl };
      stopped = tt;
    }
Emits_grown octets items p growth (Err fault) some put is refused = rw (refused.1) (Emits_out octets items p some)

-- the remaining bytes fit if all did
pub room_then : {T : Type 0} (a b : List ℕ) (p q : SinkState) (value : T) (bound : ℕ) → Emits a p q (Ok value) → p.sent + (length p.waiting + length (a ++ b)) < bound → q.sent + (length q.waiting + length b) < bound
room_then a b p q value bound first room =
    let n = ap length first.done.whole ∙ length-append first.done.gone q.waiting in
    let m = length-append p.waiting a in
    let l = length-append a b in
    let s = first.done.sent in
    omega (arith, n, m, l, s, room)

pub count_then : {T : Type 0} (a : List ℕ) (p q : SinkState) (value : T) → Emits a p q (Ok value) → q.sent + length q.waiting ≡ p.sent + (length p.waiting + length a)
count_then a p q value first =
    let n = ap length first.done.whole ∙ length-append first.done.gone q.waiting in
    let m = length-append p.waiting a in
    let s = first.done.sent in
    omega (arith, n, m, s)

-- pieces of 4,096 bytes are always allowed
pub allows_none : (most : ℕ) (objects : List (List ℕ)) → Allows most objects → Allows most []
allows_none most objects allows = record { least = allows.least; each = tt }

pub put-length : (before after octets : List ℕ) → after ≡ before ++ octets → length after ≡ length before + length octets
put-length before after octets is = ap length is ∙ length-append before octets

-- no piece is too long in two calls if none is in each
pub short_then : {T U : Type 0} (objects : List (List ℕ)) (more : ℕ) (p q r : SinkState) (value : T) (result : Result U WriteFault) → KeepsShort [] 0 p q (Ok value) → KeepsShort objects more q r result → KeepsShort objects more p r result
short_then objects more p q r value result first next most allows fits before =
    let kept = first most (allows_none most objects allows) (omega arith) before in
    next most allows fits (record { waits = omega (arith, kept.waits); pieces = kept.pieces })

-- no piece is too long in a call that failed
pub short_stop : {T U : Type 0} (objects : List (List ℕ)) (more less : ℕ) (p q r : SinkState) (first : Result T WriteFault) (fault : WriteFault) → less ≤ 4096 → r.longest ≡ q.longest → KeepsShort [] less p q first → KeepsShort {T = U} objects more p r (Err fault)
short_stop objects more less p q r first fault small same keeps most allows fits before =
    let kept = keeps most (allows_none most objects allows) (omega (arith, small, allows.least)) before in
    record { waits = tt; pieces = omega (arith, kept.pieces, same) }

-- no piece is too long if the buffer had space for the bytes
pub short_put : {T : Type 0} (more : ℕ) (octets items : List ℕ) (p q : SinkState) (value : T) → more ≤ 4096 → length octets ≤ more → items ≡ q.waiting ++ octets → KeepsShort [] more p q (Ok value) → KeepsShort {T = Unit {0}} [] 0 p (record q { waiting = items }) (Ok tt)
short_put more octets items p q value small fit put keeps most allows fits before =
    let kept = keeps most allows (omega (arith, small, allows.least)) before in
    record { waits = omega (arith, kept.waits, fit, put-length q.waiting items octets put); pieces = kept.pieces }

-- a file that was written from its first byte on, or not completely
pub is_written : {T : Type 0} (file : List ℕ) (p r : SinkState) (value : T) → p.waiting ≡ [] → p.sent ≡ 0 → r.waiting ≡ [] → Emits file p r (Ok value) → IsWritten file p.taken r.taken p.failures r.failures (Ok r.sent)
is_written file p r value none begins none_left emits =
    let whole : file ≡ emits.done.gone = ap (λ l. l ++ file) (sym none) ∙ emits.done.whole ∙ ap (λ l. emits.done.gone ++ l) none_left ∙ append-nil emits.done.gone in
    record {
      count = let s = emits.done.sent in let n = ap length whole in omega (arith, s, n, begins);
      whole = (subst (λ (l : List ℕ). Appends p.taken r.taken l) (sym whole) emits.done.taken, emits.done.failures);
      within = tt;
      front = tt;
    }

pub is_refused : {T : Type 0} (file : List ℕ) (p r : SinkState) (fault : WriteFault) → p.waiting ≡ [] → p.sent ≡ 0 → Emits {T = T} file p r (Err fault) → IsWritten file p.taken r.taken p.failures r.failures (Err fault)
is_refused file p r fault none begins emits =
    let stops = emits.stopped in
    let all : p.waiting ++ file ≡ file = ap (λ l. l ++ file) none in
    let sent : stops.more ≡ sent_of fault = (let s = stops.sent in omega (arith, s, begins)) in
    record {
      count = tt;
      whole = tt;
      within = omega (arith, sent, ap length all, stops.within);
      front = (
        subst (λ (n : ℕ). Appends p.taken r.taken (take n file)) sent (subst (λ (l : List ℕ). Appends p.taken r.taken (take stops.more l)) all stops.taken),
        stops.blamed,
      );
    }

-- the bytes of a file under another name
pub same_written : (a b : List ℕ) (old new : Option (List ℕ)) (before after : ℕ) (result : Result ℕ WriteFault) → a ≡ b → IsWritten a old new before after result → IsWritten b old new before after result
same_written a b old new before after result same written =
    subst (λ (l : List ℕ). IsWritten l old new before after result) same written
