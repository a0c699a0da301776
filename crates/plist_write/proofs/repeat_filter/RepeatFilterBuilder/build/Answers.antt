use Rattle.std.proofs.Common.{ℕ, List, length, subst}
use Rattle.plist_write.specs.RepeatFilter.{AreSeenAgain}
use Rattle.plist_write.proofs.Added.{added-filter}
use Rattle.plist_write.proofs.repeat_filter.RepeatFilterBuilder.build.Goals as goal

pub returns : goal.returns
returns c = λ f i added.
    let again = c.in_ok-again.again in
    let seen = subst (λ (bits : List ℕ). AreSeenAgain (length bits) bits again) c.deref.ensures.value c.in_ok-again.ensures in
    added-filter f i c.args.self again added seen
