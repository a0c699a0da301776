-- The exit statuses.
use Rattle.std.specs.Prelude.{ℕ}
use Rattle.plist_forms.specs.declared.statuses.Status.{Status}
use Rattle.plist_forms.specs.declared.statuses.Status.TheVariants.{Done, Differs, Refused, BadWords}
use Rattle.plist_forms.specs.declared.statuses.Status.TheVariants.{DeviceFailed, NoMemory}

abbrev pub status_code : Status → ℕ
status_code Done = 0
status_code Differs = 1
status_code Refused = 2
status_code BadWords = 3
status_code DeviceFailed = 4
status_code NoMemory = 5
