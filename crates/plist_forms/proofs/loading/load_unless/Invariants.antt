use Rattle.std.proofs.Common.{◌≡◌, ◌≤◌, ◌-◌, length}
use Rattle.std.specs.Io.KnownBytes.{Consumes}
use Rattle.plist_forms.specs.Load.{ComparesWith, octets_taken}
use Rattle.plist_forms.specs.declared.loading.TheConstants.{MAX_INPUT}
use Rattle.plist_forms.proofs.loading.load_unless.Given as goal

abbrev pub invariant-takes : goal.invariant-takes
invariant-takes g l = record {
  taken : Consumes (g.S.Source.remaining l.fn.from) (g.S.Source.remaining l.from) (octets_taken l.known l.taken);
  beside : ComparesWith l.known l.taken;
  within : length (octets_taken l.known l.taken) ≤ MAX_INPUT;
  kept : g.S.Source.failures l.from ≡ g.S.Source.failures l.fn.from;
  device : g.S.Source.device l.from ≡ g.S.Source.device l.fn.from;
}

abbrev pub decreases-takes : goal.decreases-takes
decreases-takes g l = MAX_INPUT - length (octets_taken l.known l.taken)
