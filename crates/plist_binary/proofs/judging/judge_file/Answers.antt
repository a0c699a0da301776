use Rattle.std.proofs.Common.{◌≡◌, List, ℕ, Bool, rules, ap, sym, ◌∙◌, subst, arith}
use Rattle.plist_value.specs.Plist.{Plist, AreOctets}
use Rattle.plist_value.specs.Writable.{is_writable}
use Rattle.plist_object.specs.Layout.{IsLaid, trailer_of}
use Rattle.plist_object.specs.Spelled.{IsBinary}
use Rattle.plist_object.specs.Views.{octets_of}
use Rattle.plist_object.proofs.Uniqueness.{same_value}
use Rattle.plist_binary.specs.Passing.{PassesTop}
use Rattle.std.proofs.lemmas.Grind.{pieces}
use Rattle.plist_binary.proofs.judging.judge_file.Goals as goal

-- the value of a file that passes
spelled : (f : List ℕ) (writable : Bool) → AreOctets f → IsLaid f → PassesTop f writable → (v : Plist) × IsBinary f v
spelled f writable octets laid passed =
    let reads = passed.passes.reads in (
      passed.passes.value,
      record {
        octets = octets;
        laid = laid;
        spells = reads.spells;
        valid = reads.valid;
        fits = record {
          nodes_fit = omega (arith, reads.spent.nodes_left);
          depth_fits = reads.deep;
          payload_fits = omega (arith, reads.spent.payload_left);
        };
      },
    )

-- each value of the file is the one that passes
told : (f : List ℕ) (writable : Bool) → PassesTop f writable → (v : Plist) → IsBinary f v → is_writable v ≡ writable
told f writable passed v binary =
    let reads = passed.passes.reads in
    let same = same_value f (trailer_of f).top v passed.passes.value binary.valid reads.valid binary.spells reads.spells in
    ap is_writable same ∙ sym passed.passes.writable

pub invariant_of-walker : goal.invariant_of-walker
invariant_of-walker c =
    let octets : AreOctets c.args.octets.now = search rules in
    record { octets = subst AreOctets (sym c.in_ok-file.ensures.laid) octets; laid = subst IsLaid (sym c.in_ok-file.ensures.laid) c.in_ok-file.ensures.ok }

pub returns-clause-ok : goal.returns-clause-ok
returns-clause-ok c =
    let f = c.args.octets.now in
    let octets : AreOctets f = search rules in
    let writable = c.in_ok-known.known.writable in
    let passed : PassesTop (octets_of c.in_ok-file.file) writable = search rules in
    spelled f writable octets c.in_ok-file.ensures.ok (subst (λ (g : List ℕ). PassesTop g writable) c.in_ok-file.ensures.laid passed)

pub returns-clause-writable : goal.returns-clause-writable
returns-clause-writable c =
    let writable = c.in_ok-known.known.writable in
    let passed : PassesTop (octets_of c.in_ok-file.file) writable = search rules in
    told c.args.octets.now writable (subst (λ (g : List ℕ). PassesTop g writable) c.in_ok-file.ensures.laid passed)

pub returns-in_err-known-clause-refused : goal.returns-in_err-known-clause-refused
returns-in_err-known-clause-refused c = search (pieces, arith)
