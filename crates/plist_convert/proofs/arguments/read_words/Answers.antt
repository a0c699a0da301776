use Rattle.std.proofs.Common.{rules}
use Rattle.plist_convert.specs.CommandLine.{program}
use Rattle.plist_convert.proofs.CommandLine.{some_forms, some_is_program}
use Rattle.plist_convert.proofs.Parsed.{read_refused}
use Rattle.plist_convert.proofs.arguments.read_words.Goals as goal

pub returns-in_err-command-clause-parsed : goal.returns-in_err-command-clause-parsed
returns-in_err-command-clause-parsed c = λ _.
    read_refused (program some_forms) _ c.from_residual.result some_is_program (search rules) (search rules)
