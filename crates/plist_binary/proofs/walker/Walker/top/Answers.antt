use Rattle.std.proofs.Common.{ℕ, Bool, refl, subst, sym, arith}
use Rattle.plist_value.specs.Budget.{Spends}
use Rattle.plist_value.specs.declared.budget.Budget.{Budget}
use Rattle.plist_value.specs.declared.TheConstants.{MAX_DEPTH}
use Rattle.plist_object.specs.Layout.{trailer_of}
use Rattle.plist_binary.specs.Budgets.{limits}
use Rattle.plist_binary.specs.Passing.{Passes}
use Rattle.plist_binary.specs.Progress.{walked}
use Rattle.plist_binary.proofs.ItemSteps.{Spends-none}
use Rattle.plist_binary.proofs.walker.Walker.top.Goals as goal

pub validate-requires : goal.validate-requires
validate-requires c = record {
  listed = c.top.ensures.below;
  begun = record {
    nodes = 0;
    payload = 0;
    begins = (c.top.ensures.value, refl, refl);
    spent = subst (Spends limits 0 0) (sym c.none-progress.ensures.left) (Spends-none limits);
  };
  depth = omega arith;
  so_far = c.none-progress.ensures.progress (walked c.args.self.now);
}

pub returns-clause-passed : goal.returns-clause-passed
returns-clause-passed c =
    let f = walked c.args.self.now in
    let deep = c.in_ok-validate.field-0 in
    let after = c.validate.new.progress.left in
    let writable = c.validate.new.progress.writable in
    let first = c.none-progress.result.writable in
    let from_top = subst (λ (top : ℕ). Passes f top MAX_DEPTH c.none-progress.result.left deep after first writable) c.top.ensures.value c.in_ok-validate.ensures.passed in
    let from_limits = subst (λ (left : Budget). Passes f (trailer_of f).top MAX_DEPTH left deep after first writable) c.none-progress.ensures.left from_top in
    record {
      deep = deep;
      after = after;
      passes = subst (λ (all : Bool). Passes f (trailer_of f).top MAX_DEPTH limits deep after all writable) c.none-progress.ensures.writable from_limits;
    }
