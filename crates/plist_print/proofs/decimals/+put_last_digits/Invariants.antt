use Rattle.plist_print.proofs.decimals.+put_last_digits.Given as goal

abbrev pub decreases-put_last_digits : goal.decreases-put_last_digits
decreases-put_last_digits a = a.digits
