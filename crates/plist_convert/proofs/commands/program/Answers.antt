use Rattle.std.proofs.Common.{ap, codes, refl, ◌∙◌}
use Rattle.std.proofs.lemmas.Result.{IfOk-weaker}
use Rattle.clap.specs.Words.{with_subcommand}
use Rattle.plist_convert.specs.CommandLine.{check, convert, explain, one_file, same, some_files}
use Rattle.plist_convert.proofs.WithWords.{adds_convert, adds_word}
use Rattle.plist_convert.proofs.commands.program.Goals as goal

pub returns : goal.returns
returns c =
    let line = adds_convert _ _ c.convert.result c.convert.ensures c.in_ok-command.ensures in
    let one = line.2 ∙ ap (λ a. with_subcommand a (convert line.0).top) c.top.ensures in
    let two = adds_word _ _ c.same.result same refl c.same.ensures c.in_ok-command-2.ensures ∙ ap (λ a. with_subcommand a same.top) one in
    let lint = some_files (codes "lint") in
    let three = adds_word _ _ c.lint.result lint refl c.lint.ensures c.in_ok-command-3.ensures ∙ ap (λ a. with_subcommand a lint.top) two in
    let four = adds_word _ _ c.check.result check refl c.check.ensures c.in_ok-command-4.ensures ∙ ap (λ a. with_subcommand a check.top) three in
    let print = one_file (codes "print") in
    let five = adds_word _ _ c.print.result print refl c.print.ensures c.in_ok-command-5.ensures ∙ ap (λ a. with_subcommand a print.top) four in
    IfOk-weaker c.with_subcommand-6.result _ _ (λ command added. record {
      forms = line.0;
      named = line.1;
      is = adds_word _ command c.explain.result explain refl c.explain.ensures added ∙ ap (λ a. with_subcommand a explain.top) five;
    }) c.with_subcommand-6.ensures
