-- The result of a call that sends bytes to a sink.
use Rattle.std.specs.Prelude.{◌≡◌, ℕ, List, Option, Result, Err, Ok}
use Rattle.plist_write.specs.declared.faults.WriteFault.{WriteFault}
use Rattle.plist_forms.specs.Fault.{write_fault_for}
use Rattle.plist_forms.specs.declared.faults.Fault.{Fault}
use Rattle.plist_forms.specs.declared.faults.Fault.TheVariants.{OutOfMemory, WriteFailed}

-- the refusals that come before the first put, except out of memory
abbrev pub IsBeforePut : Fault → Type 0
IsBeforePut (WriteFailed sent) = ⊥
IsBeforePut (OutOfMemory sent) = ⊥
IsBeforePut _ = Unit {0}

-- the result of a call whose sending ended like this
abbrev pub answer_of : Result ℕ WriteFault → Result ℕ Fault
answer_of (Ok sent) = Ok sent
answer_of (Err fault) = Err (write_fault_for fault)

-- The call is refused for this cause before anything was sent, and the sink did not fail.
pub record IsUnsent (Cause : Fault → Type 0) (old new : Option (List ℕ)) (before after : ℕ)
    (result : Result ℕ Fault) : Type 0 where
  pub fault : Fault
  pub is : result ≡ Err fault
  pub cause : Cause fault
  pub nothing : new ≡ old
  pub unfailed : after ≡ before
