-- The printed line of a refusal.
use Rattle.std.specs.Prelude.{ℕ, List, ◌++◌, codes}
use Rattle.plist_forms.specs.Fault.{fault_text}
use Rattle.plist_forms.specs.declared.faults.Fault.{Fault}

-- the path, followed by the printed refusal
abbrev pub line_of : List ℕ → Fault → List ℕ
line_of path fault = path ++ (codes ": refused " ++ fault_text fault)
