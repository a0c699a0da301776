use Rattle.std.proofs.Common.{ℕ, List, subst}
use Rattle.plist_value.specs.View.{view}
use Rattle.plist_object.specs.Layout.{trailer_of}
use Rattle.plist_object.specs.Views.{octets_of}
use Rattle.plist_binary.specs.Building.{IsSpelled}
use Rattle.plist_binary.proofs.BuildSteps.{IsBinary-built}
use Rattle.plist_binary.proofs.reader.read.Goals as goal

pub returns-clause-read : goal.returns-clause-read
returns-clause-read c =
    let f = octets_of c.in_ok-judged.judged.file in
    let value = view c.in_ok-value.field-0 in
    let judged = c.in_ok-judged.ensures in
    let at_top = subst (λ (i : ℕ). IsSpelled f i value) c.top.ensures.value c.in_ok-value.ensures in
    IsBinary-built c.args.octets.now value judged.ok.0 judged.ok.1 (subst (λ (g : List ℕ). IsSpelled g (trailer_of g).top value) judged.file at_top)
