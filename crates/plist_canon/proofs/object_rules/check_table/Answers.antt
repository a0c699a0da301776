use Rattle.std.proofs.Common.{◌≡◌, ◌-◌, ℕ, ap, sym, subst, ◌∙◌, arith, refl}
use Rattle.plist_object.specs.Views.{octets_of}
use Rattle.plist_object.specs.Layout.{trailer_of}
use Rattle.plist_canon.specs.Rules.{breaks_c3}
use Rattle.plist_canon.specs.Checking.{IsEndBefore}
use Rattle.plist_canon.proofs.Checks.{all-adjoin, last-apart}
use Rattle.plist_canon.proofs.object_rules.check_table.Goals as goal

pub returns-then-end-table-clause-err : goal.returns-then-end-table-clause-err
returns-then-end-table-clause-err c =
    let f = octets_of c.args.file.now in
    let n = c.count.result in
    let end = c.args.end in
    let all : n ≡ (trailer_of f).count = c.count.ensures in
    let ends = subst (λ (k : ℕ). IsEndBefore f k end) (sym all) c.requires.ends in
    let other = rw c.table.ensures.value at c.if-end-table.true in
    let last = last-apart f n end all (omega (arith, c.args.file.now.laid.trailed.some_object)) ends other in
    rw c.at.ensures (breaks_c3 (n - 1) last.0 last.1)

pub returns-clause-adjoin : goal.returns-clause-adjoin
returns-clause-adjoin c =
    let f = octets_of c.args.file.now in
    all-adjoin f (trailer_of f).count c.args.end refl c.requires.ends (c.if-end-table.false ∙ c.table.ensures.value) c.requires.follows

pub returns-then-end-table-clause-table : goal.returns-then-end-table-clause-table
returns-then-end-table-clause-table c = rw c.at.ensures (refl, ap (λ (n : ℕ). n - 1) c.count.ensures)
