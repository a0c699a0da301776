use Rattle.std.proofs.Common.{ap, ap₂, codes, rules, Some, ◌∙◌, ◌≡◌}
use Rattle.std.proofs.lemmas.Result.{IfOk-weaker}
use Rattle.clap.specs.Words.{Rule, rule_of, with_rule}
use Rattle.clap.specs.declared.builder.ValueParser.TheVariants.{Names}
use Rattle.plist_convert.specs.CommandLine.{file_word}
use Rattle.plist_convert.proofs.commands.convert.Goals as goal

pub returns : goal.returns
returns c =
    let forms = c.as_slice.result in
    let form = c.value_parser-form.result in
    let parser = c.value_parser-form.ensures.given.1 ∙ ap Some c.value_parser-form.ensures.given.2 in
    let rule : rule_of form ≡ record (file_word (codes "FORM")) { parser = Some (Names forms) } =
    ap rule_of c.value_parser-form.ensures.others ∙ ap₂ (λ (r : Rule) p. record r { parser = p }) c.required.ensures.rule parser in
    let unglobal = ap (λ a. a.global) c.value_parser-form.ensures.others ∙ c.required.ensures.local in
    let one = c.in_ok-arg.ensures.shape unglobal ∙ ap₂ with_rule c.described.ensures rule in
    let two = c.in_ok-arg-2.ensures.shape c.required-2.ensures.local ∙ ap₂ with_rule one c.required-2.ensures.rule in
    IfOk-weaker c.arg-3.result _ _ (λ command added. record {
      forms = forms;
      named = search rules;
      is = added.shape c.required-3.ensures.local ∙ ap₂ with_rule two c.required-3.ensures.rule;
    }) c.arg-3.ensures
