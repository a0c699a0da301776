-- What a load finds at a path, from the contracts of the opener and the reader.
use Rattle.std.proofs.Common.{arith, refl, inl, inr, length-append, Err, List, None, Ok, Option, Result, Some, ℕ, ◌≡◌}
use Rattle.std.specs.Prelude.{◌<◌, IfErr, IfSome, OnOk, length}
use Rattle.std.specs.Io.KnownBytes.{Consumes}
use Rattle.plist_devices.specs.Count.{one_more}
use Rattle.plist_forms.specs.Load.{IsLoadFault, Loads}
use Rattle.plist_forms.specs.declared.faults.Fault.{Fault}
use Rattle.plist_forms.specs.declared.faults.Fault.TheVariants.{InputTooLarge, OutOfMemory, ReadFailed}
use Rattle.plist_forms.specs.declared.loading.TheConstants.{MAX_INPUT}
use Rattle.plist_convert.specs.Files.{CountsFailure, FileName, Files, IsUnloaded}
use Rattle.plist_convert.specs.Opens.{HasFailing, IsUnfound, ReadsAll}

-- the opened file is too large
large : (files : Option Files) (path : FileName) (to_come rest : Option (List ℕ)) (taken : List ℕ) → ReadsAll files path to_come
    → Consumes to_come rest taken → MAX_INPUT < length taken
    → IfSome files (λ at. (octets : List ℕ) × ((at path ≡ Some octets) × (MAX_INPUT < length octets)))
large None path to_come rest taken reads took most = tt
large (Some at) path None rest taken reads took most = absurd (let is = reads.1.1 in cc)
large (Some at) path (Some xs) None taken reads took most = absurd took
large (Some at) path (Some xs) (Some ys) taken reads took most =
    let same : reads.0 ≡ xs = (let is = reads.1.1 in cc) in
    (reads.0, (reads.1.0, rw (same, took, length-append taken ys) (omega (arith, most))))

pub unfound : {T R : Type 0} (files : Option Files) (path : FileName) (failures : R → ℕ) (old new : R) (to_come rest : Option (List ℕ)) (found : Result T Fault)
    → ReadsAll files path to_come → failures old ≡ 0
    → Loads to_come rest (failures old) (failures new) found
    → IfErr found IsLoadFault → IfErr found (IsUnfound files path (HasFailing failures))
unfound files path failures old new to_come rest (Ok octets) reads none loads is = tt
unfound files path failures old new to_come rest (Err ReadFailed) reads none loads is =
    let counts : failures new ≡ one_more 0 = rw none at (loads.at_once refl) in
    inr (new, omega (arith, counts))
unfound files path failures old new to_come rest (Err InputTooLarge) reads none loads is =
    let took = loads.too_large in large files path to_come rest took.0 reads took.1 (took.2.0 refl)
unfound files path failures old new to_come rest (Err (OutOfMemory sent)) reads none loads is = is
unfound files path failures old new to_come rest (Err _) reads none loads is = absurd is

-- no read fails if the opener knows the files
pub steady : {R : Type 0} (files : Option Files) (failures : R → ℕ) → IfSome files (λ _. (reader : R) → failures reader ≡ 0)
    → IfSome files (λ _. HasFailing failures → ⊥)
steady None failures none = tt
steady (Some at) failures none = λ failing. let zero = none failing.0 in let some = failing.1 in omega arith

pub unloaded : {T : Type 0} (files : Option Files) (path : FileName) (Failed : Type 0) (before after : ℕ) (found : Result T Fault)
    → IfErr found (IsUnfound files path Failed) → IfSome files (λ _. Failed → ⊥) → CountsFailure before after found
    → IfErr found (IsUnloaded files path before after)
unloaded files path Failed before after (Ok octets) cause none counts = tt
unloaded files path Failed before after (Err ReadFailed) (inl lacks) none counts = (lacks, counts)
unloaded None path Failed before after (Err ReadFailed) (inr failed) none counts = (tt, counts)
unloaded (Some at) path Failed before after (Err ReadFailed) (inr failed) none counts = absurd (none failed)
unloaded files path Failed before after (Err InputTooLarge) cause none counts = (cause, counts)
unloaded files path Failed before after (Err (OutOfMemory sent)) cause none counts = (cause, counts)
unloaded files path Failed before after (Err _) cause none counts = absurd cause

pub loaded : {T : Type 0} (before after : ℕ) (found : Result T Fault) → CountsFailure before after found → OnOk found (after ≡ before)
loaded before after (Ok octets) counts = counts
loaded before after (Err fault) counts = tt
