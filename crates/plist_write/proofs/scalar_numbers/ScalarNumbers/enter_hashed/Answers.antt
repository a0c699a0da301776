use Rattle.std.proofs.Common.{◌≡◌, ℕ, List, Option, Some, None, cond, rules, sym, ap, ◌∙◌}
use Rattle.std.specs.Map.{lookup}
use Rattle.std.specs.Ordering.{on}
use Rattle.indexmap.specs.IndexMap.{set_value_at}
use Rattle.plist_value.specs.Equality.{scalar_eq}
use Rattle.plist_value.specs.Scalars.{content_of}
use Rattle.plist_value.specs.declared.scalar_ref.ScalarRef.{ScalarRef}
use Rattle.plist_write.proofs.Storing.{enters-added, enters-known, restored}
use Rattle.plist_write.proofs.scalar_numbers.ScalarNumbers.enter_hashed.Goals as goal

-- the number of a scalar in the entries of a hash map
abbrev number_among : List (ScalarRef × ℕ) → ScalarRef → Option ℕ
number_among entries r = lookup (on content_of scalar_eq r) entries

pub returns-in-Some-clause-entered : goal.returns-in-Some-clause-entered
returns-in-Some-clause-entered g c = λ unlisted.
    let old = c.args.self.now.hashed.entries in
    let grown = c.if-is_due.self.hashed.entries in
    let listed : c.if-is_due.self.listed ≡ c.args.self.now.listed = search rules in
    let same : grown ≡ old = search rules in
    let found : number_among grown c.args.scalar ≡ Some c.in-Some.number = sym c.in_ok-index.ensures.old ∙ c.in-Some.is in
    let back : set_value_at c.insert_full.new.self.entries c.in_ok-index.index c.in-Some.number ≡ grown =
    rw (c.in_ok-index.ensures.entries, c.in_ok-index.ensures.index) (restored (on content_of scalar_eq) grown c.args.scalar c.args.next c.in-Some.number found) in
    enters-known c.args.scalar c.args.next c.args.self.now _ unlisted listed c.in-Some.number
    (sym found ∙ ap (λ es. number_among es c.args.scalar) same)
    (λ r. ap (λ es. number_among es r) (back ∙ same))

pub returns-in_default-clause-entered : goal.returns-in_default-clause-entered
returns-in_default-clause-entered g c = λ unlisted.
    let old = c.args.self.now.hashed.entries in
    let grown = c.if-is_due.self.hashed.entries in
    let listed : c.if-is_due.self.listed ≡ c.args.self.now.listed = search rules in
    let same : grown ≡ old = search rules in
    let missed : None ≡ number_among grown c.args.scalar = sym c.in_default.is ∙ c.in_ok-index.ensures.old in
    rw c.in_default.is (enters-added c.args.scalar c.args.next c.args.self.now _ unlisted listed
    (missed ∙ ap (λ es. number_among es c.args.scalar) same)
    (λ r. c.in_ok-index.ensures.updates.0 r ∙ ap (λ es. cond (scalar_eq (content_of c.args.scalar) (content_of r)) (Some c.args.next) (number_among es r)) same))
