-- What a file with a maximum size takes.
use Rattle.std.proofs.Common.{arith, ap, refl, sym, Bool, Err, List, None, Ok, Option, Result, Some, [], ◌∷◌, ℕ, inl, inr, true, false, ◌∙◌, ◌≡◌}
use Rattle.std.specs.Prelude.{⊤, ◌≢◌, ◌<◌, ◌≤◌, ◌↔◌, IfErr, IfOk, IfSome, IsTrue, length}
use Rattle.std.specs.Io.KnownBytes.{Keeps}
use Rattle.std.specs.IoError.{error_kind}
use Rattle.std.specs.declared.io.Error.{Error}
use Rattle.std.specs.declared.io.ErrorKind.TheVariants as kind
use Rattle.std.proofs.lemmas.Bool.{true≢false}
use Rattle.std.proofs.lemmas.List.{length-take-le}
use Rattle.plist_forms.specs.declared.faults.Fault.{Fault}
use Rattle.plist_forms.specs.declared.faults.Fault.TheVariants.{OutOfMemory, WriteFailed}
use Rattle.plist_forms.specs.declared.forms.Form.{Form}
use Rattle.plist_write.specs.declared.faults.WriteFault.{WriteFault}
use Rattle.plist_write.specs.declared.faults.WriteFault.TheVariants as write
use Rattle.plist_write.specs.Sending.{IsWritten}
use Rattle.plist_forms.specs.Output.{IsOutput, IsOutputFault}
use Rattle.plist_forms.specs.Sent.{answer_of}
use Rattle.plist_forms.specs.Transfer.{Writes}
use Rattle.plist_convert.specs.FileDisk.{IsFull, IsFullAt, result_of}
use Rattle.plist_convert.specs.Files.{FileName, Files, SameFiles}
use Rattle.plist_convert.specs.Opens.{IsFilled, IsUnwritten, IsWithin, MayEmpty, StaysWithin, held_by, is_begun}

-- no refusal of the bytes is a failure of the device
no_device : (form : Form) (octets : List ℕ) (sent : ℕ) → IsOutputFault form octets (WriteFailed sent) → ⊥
no_device form octets sent (inl refused) = absurd refused.stands
no_device form octets sent (inr none) = absurd (let is = none.is in cc)

module _ (form : Form) (octets : List ℕ) (limit failures : ℕ) where
  -- it is full
  filled : (taken output : List ℕ) → length taken ≤ limit → (0 < failures → limit ≤ length taken) → IsOutput form octets output
      → (n : ℕ) (sent : Result ℕ WriteFault) → IsWritten output (Some []) (Some taken) 0 failures sent
      → Err (WriteFailed n) ≡ answer_of sent → IsFull form octets limit n
  filled taken output most reached of n (Err (write.WriteFailed m)) written is =
      let same : n ≡ m = cc in
      let short : m < length output = written.within in
      let once : failures ≡ 1 = written.front.1 in
      let whole : limit ≤ length taken = reached (omega (arith, once)) in
      let went : length taken ≡ m = ap length written.front.0 ∙ length-take-le m output (omega (arith, short)) in
      record { output = output; of = of; long = omega (arith, short, whole, went); filled = omega (arith, same, whole, went, most) }
  filled taken output most reached of n _ written is = absurd cc

  full_at : (taken : List ℕ) (n : ℕ) → length taken ≤ limit → (0 < failures → limit ≤ length taken)
      → Writes form octets (Some []) (Some taken) 0 failures (Err (WriteFailed n)) → IsFull form octets limit n
  full_at taken n most reached (inl unsent) =
      let same : unsent.fault ≡ WriteFailed n = (let is = unsent.is in cc) in
      absurd (no_device form octets n (rw same at unsent.cause))
  full_at taken n most reached (inr goes) = filled taken goes.output most reached goes.of n goes.sent goes.written goes.is

  -- nothing is known of what was sent to a file that does not know it
  lost : (output : List ℕ) (sent : Result ℕ WriteFault) → IsWritten output (Some []) None 0 failures sent → ⊥
  lost output (Ok n) written = absurd written.whole.0
  lost output (Err fault) written = absurd written.front.0

  lost_at : (sent : Result ℕ Fault) → Writes form octets (Some []) None 0 failures sent → ⊥
  lost_at sent (inl unsent) = absurd (let none = unsent.nothing in cc)
  lost_at sent (inr goes) = lost goes.output goes.sent goes.written

  full_now : (now : Option (List ℕ)) (n : ℕ) → IsWithin limit now → (0 < failures → IsFilled limit now)
      → Writes form octets (Some []) now 0 failures (Err (WriteFailed n)) → IsFull form octets limit n
  full_now None n within full writes = absurd (lost_at (Err (WriteFailed n)) writes)
  full_now (Some taken) n within full writes = full_at taken n within full writes

  -- a store fails only if the file is full, unless memory ran out
  pub is_full : (files : Option Files) (contents : Option (Option (List ℕ))) (sent : Result ℕ Fault) (needs_memory : Bool)
      → IsWithin limit (held_by files contents)
      → (0 < failures → needs_memory ≡ false → IsFilled limit (held_by files contents))
      → Writes form octets (held_by files None) (held_by files contents) 0 failures sent
      → IfErr (result_of sent needs_memory) (λ fault. IfSome files (λ _. IsFullAt form octets limit fault))
  is_full None contents sent needs_memory within full writes = untold (result_of sent needs_memory) where
    untold : (told : Result ℕ Fault) → IfErr told (λ _. ⊤)
    untold (Ok n) = tt
    untold (Err fault) = tt
  is_full (Some at) contents (Ok n) needs_memory within full writes = tt
  is_full (Some at) contents (Err (WriteFailed n)) true within full writes = tt
  is_full (Some at) contents (Err (WriteFailed n)) false within full writes =
      full_now (held_by (Some at) contents) n within (λ failed. full failed refl) writes
  is_full (Some at) contents (Err _) needs_memory within full writes = tt

  -- all of it was within the maximum size
  found_room : (taken output : List ℕ) (n : ℕ) (sent : Result ℕ WriteFault) → length taken ≤ limit
      → IsWritten output (Some []) (Some taken) 0 failures sent → Ok n ≡ answer_of sent → n ≤ limit
  found_room taken output n (Ok m) most written is =
      let same : n ≡ m = cc in
      let all = written.count in
      let went : length taken ≡ length output = ap length written.whole.0 in
      omega (arith, same, all, went, most)
  found_room taken output n (Err f) most written is = absurd cc

  fits_now : (now : Option (List ℕ)) (n : ℕ) → IsWithin limit now → Writes form octets (Some []) now 0 failures (Ok n) → n ≤ limit
  fits_now None n within writes = absurd (lost_at (Ok n) writes)
  fits_now (Some taken) n within (inl unsent) = absurd (let is = unsent.is in cc)
  fits_now (Some taken) n within (inr goes) = found_room taken goes.output n goes.sent within goes.written goes.is

  pub fits : (files : Option Files) (contents : Option (Option (List ℕ))) (sent : Result ℕ Fault) (needs_memory : Bool)
      → IsWithin limit (held_by files contents) → Writes form octets (held_by files None) (held_by files contents) 0 failures sent
      → IfOk (result_of sent needs_memory) (λ count. IfSome files (λ _. count ≤ limit))
  fits None contents sent needs_memory within writes = untold (result_of sent needs_memory) where
    untold : (told : Result ℕ Fault) → IfOk told (λ _. ⊤)
    untold (Ok n) = tt
    untold (Err fault) = tt
  fits (Some at) contents (Ok n) needs_memory within writes = fits_now (held_by (Some at) contents) n within writes
  fits (Some at) contents (Err (WriteFailed n)) true within writes = tt
  fits (Some at) contents (Err (WriteFailed n)) false within writes = tt
  fits (Some at) contents (Err _) needs_memory within writes = tt

-- no more was written than a file may have, by what is known of the files before the file was created
pub within_before : (path : FileName) (f m : Option Files) (limit place : ℕ) (contents : Option (List ℕ)) → MayEmpty path f m → limit ≡ place
    → StaysWithin m limit contents → IsWithin place (held_by f (Some contents))
within_before path None m limit place contents may same stays = tt
within_before path (Some old) None limit place contents may same stays = absurd may
within_before path (Some old) (Some mid) limit place contents may same stays = rw (← same) stays

pub within_same : (f m : Option Files) (limit place : ℕ) (contents : Option (List ℕ)) → SameFiles f m → limit ≡ place
    → StaysWithin m limit contents → IsWithin place (held_by f (Some contents))
within_same None m limit place contents same is stays = tt
within_same (Some old) None limit place contents same is stays = absurd same
within_same (Some old) (Some mid) limit place contents same is stays = rw (← is) stays

-- a write that fails leaves what the writer has written
pub kept_begun : (f : Option Files) (contents now : Option (List ℕ)) → is_begun f (Some contents) ≡ true → Keeps contents now
    → is_begun f (Some now) ≡ true
kept_begun None contents now begun keeps = refl
kept_begun (Some at) None now begun keeps = absurd (let no = begun in cc)
kept_begun (Some at) (Some []) now begun keeps = absurd (let no = begun in cc)
kept_begun (Some at) (Some (x ∷ xs)) None begun keeps = absurd keeps
kept_begun (Some at) (Some (x ∷ xs)) (Some ys) begun keeps = rw keeps refl

pub kept_within : (f : Option Files) (place : ℕ) (contents now : Option (List ℕ)) → is_begun f (Some contents) ≡ true
    → IsWithin place (held_by f (Some contents)) → Keeps contents now → IsWithin place (held_by f (Some now))
kept_within None place contents now begun within keeps = tt
kept_within (Some at) place None now begun within keeps = absurd (let no = begun in cc)
kept_within (Some at) place (Some xs) None begun within keeps = absurd keeps
kept_within (Some at) place (Some xs) (Some ys) begun within keeps = rw keeps within

-- why a write failed
pub other_kind : {P : Type 0} (needs_memory : Bool) → IsTrue needs_memory ↔ P → needs_memory ≡ false → ¬ P
other_kind needs_memory tells unneeded p = true≢false (sym (tells.1 p) ∙ unneeded)

-- memory did not run out
pub unneeded : {P : Type 0} (needs_memory : Bool) → IsTrue needs_memory ↔ P → ¬ P → needs_memory ≡ false
unneeded true tells other = absurd (other (tells.0 refl))
unneeded false tells other = refl

-- an opener that does not know the files did not know them before
pub unknown_before : (path : FileName) (f m : Option Files) → MayEmpty path f m → m ≡ None → f ≡ None
unknown_before path None m may unknown = refl
unknown_before path (Some old) None may unknown = absurd may
unknown_before path (Some old) (Some mid) may unknown = absurd cc

pub filled_same : (f m : Option Files) (limit place : ℕ) (error : Error) → SameFiles f m → limit ≡ place → IsUnwritten m limit (Some []) error
    → error_kind error ≢ kind.OutOfMemory → IsFilled place (held_by f None)
filled_same None m limit place error same is unwritten other = tt
filled_same (Some old) None limit place error same is unwritten other = absurd same
filled_same (Some old) (Some mid) limit place error same is unwritten other = rw (← is) (unwritten other)

pub filled_after : (path : FileName) (f m : Option Files) (limit place : ℕ) (contents now : Option (List ℕ)) (error : Error)
    → MayEmpty path f m → limit ≡ place → is_begun f (Some contents) ≡ true → Keeps contents now
    → IsUnwritten m limit contents error → error_kind error ≢ kind.OutOfMemory → IsFilled place (held_by f (Some now))
filled_after path None m limit place contents now error may same begun keeps unwritten other = tt
filled_after path (Some old) None limit place contents now error may same begun keeps unwritten other = absurd may
filled_after path (Some old) (Some mid) limit place None now error may same begun keeps unwritten other = absurd (let no = begun in cc)
filled_after path (Some old) (Some mid) limit place (Some xs) None error may same begun keeps unwritten other = absurd keeps
filled_after path (Some old) (Some mid) limit place (Some xs) (Some ys) error may same begun keeps unwritten other =
    rw (← same, keeps) (unwritten other)

-- out of memory is no failure of the device
pub unfilled : (form : Form) (octets : List ℕ) (limit : ℕ) (files : Option Files) (sent : ℕ)
    → IfSome files (λ _. IsFullAt form octets limit (OutOfMemory sent))
unfilled form octets limit None sent = tt
unfilled form octets limit (Some at) sent = tt
