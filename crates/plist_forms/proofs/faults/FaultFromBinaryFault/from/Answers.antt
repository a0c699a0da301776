use Rattle.std.proofs.Common.{refl}
use Rattle.plist_forms.proofs.faults.FaultFromBinaryFault.from.Goals as goal

pub returns-in-OutOfMemory : goal.returns-in-OutOfMemory
returns-in-OutOfMemory c = rw c.in-OutOfMemory.is refl
