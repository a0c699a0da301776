-- The printed line of a verdict, and its exit status.
use Rattle.std.specs.Prelude.{ℕ, Bool, true, false, List, ◌++◌, codes}
use Rattle.std.specs.Fmt.{decimal}
use Rattle.plist_canon.specs.declared.checking.Verdict.{Verdict}
use Rattle.plist_canon.specs.declared.checking.Verdict.TheVariants.{Canonical, Broken}
use Rattle.plist_value.specs.Refusals.{place_text}
use Rattle.plist_value.specs.declared.refusals.Place.TheVariants.{Object}

abbrev pub verdict_text : Verdict → List ℕ
verdict_text Canonical = codes "canonical"
verdict_text (Broken rule object) = codes "broken C" ++ (decimal rule ++ place_text (Object object))

-- the line of a verdict, with the path or without it
abbrev pub verdict_line_of : (named : Bool) → List ℕ → Verdict → List ℕ
verdict_line_of false path verdict = verdict_text verdict
verdict_line_of true path verdict = path ++ (codes ": " ++ verdict_text verdict)

-- 0 if the file is canonical, otherwise 1
abbrev pub verdict_status_for : Verdict → ℕ
verdict_status_for Canonical = 0
verdict_status_for (Broken _ _) = 1
