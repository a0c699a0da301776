use Rattle.plist_object.specs.Views.{octets_of}
use Rattle.plist_canon.specs.Rules.{HasPlainTrailer, HasLeastWidths, breaks_c1, breaks_c2}
use Rattle.plist_keys.proofs.KeysInTurn.{refuted}
use Rattle.plist_canon.specs.First.{first_c1, first_c2}
use Rattle.plist_canon.proofs.object_rules.check_trailer.Goals as goal

pub returns-then-not-has_plain_trailer-clause-err : goal.returns-then-not-has_plain_trailer-clause-err
returns-then-not-has_plain_trailer-clause-err c =
    rw c.at.ensures (breaks_c1 (refuted (HasPlainTrailer (octets_of c.args.file.now)) c.has_plain_trailer.result c.has_plain_trailer.ensures c.if-not-has_plain_trailer.true))

pub returns-then-not-has_least_widths-clause-err : goal.returns-then-not-has_least_widths-clause-err
returns-then-not-has_least_widths-clause-err c =
    rw c.at-then-not-has_least_widths.ensures (breaks_c2 (refuted (HasLeastWidths (octets_of c.args.file.now)) c.has_least_widths.result c.has_least_widths.ensures c.if-not-has_least_widths.true))

pub returns-then-not-has_plain_trailer-clause-first : goal.returns-then-not-has_plain_trailer-clause-first
returns-then-not-has_plain_trailer-clause-first c = rw c.at.ensures first_c1

pub returns-then-not-has_least_widths-clause-first : goal.returns-then-not-has_least_widths-clause-first
returns-then-not-has_least_widths-clause-first c =
    rw c.at-then-not-has_least_widths.ensures (first_c2 (c.has_plain_trailer.ensures.0 c.if-not-has_plain_trailer.false))
