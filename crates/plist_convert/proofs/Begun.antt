-- A run on a disk and streams that were created for it.
use Rattle.std.proofs.Common.{ℕ, ◌≡◌, List, Option, None}
use Rattle.clap.specs.Words.{Text}
use Rattle.plist_convert.specs.Program.{IsHostRun, IsRun}
use Rattle.plist_convert.specs.State.{input_of, state}

pub begun : (words : List Text) (to_come at_first rest left : Option (List ℕ)) (takes takes_after disk disk_after : ℕ)
    (printed shown printed_after shown_after : Option (List ℕ)) (puts puts_after status : ℕ)
    → to_come ≡ at_first → takes ≡ 0 → rest ≡ left → disk ≡ 0 → printed ≡ shown → puts ≡ 0 → printed_after ≡ shown_after
    → IsRun words (input_of to_come takes) (input_of rest takes_after) (state None disk printed puts) (state None disk_after printed_after puts_after) status
    → IsHostRun words at_first left shown shown_after status
begun words to_come at_first rest left takes takes_after disk disk_after printed shown printed_after shown_after puts puts_after status
    input unread remains unloaded before unprinted after run =
    (takes_after, disk_after, puts_after, rw (input, unread, remains, unloaded, before, unprinted, after) at run)
