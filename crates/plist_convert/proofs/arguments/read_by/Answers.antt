use Rattle.std.proofs.Common.{rules}
use Rattle.clap.specs.Words.{app_of}
use Rattle.plist_convert.proofs.CommandLine.{program_free}
use Rattle.plist_convert.proofs.Parsed.{read_nothing, read_refused, read_taken}
use Rattle.plist_convert.proofs.arguments.read_by.Goals as goal

pub returns-in_err-matches : goal.returns-in_err-matches
returns-in_err-matches c = λ line.
    let kind = c.in_err-matches.ensures.kinds (program_free _ line) in
    read_refused (app_of c.args.command.now) _ c.from_residual.result line (search rules) (search rules)

pub returns-in-Some : goal.returns-in-Some
returns-in-Some c = λ line.
    read_taken (app_of c.args.command.now) _ c.in_ok-matches.matches c.in-Some.request line c.in_ok-matches.ensures.ok.2
    (c.in_ok-matches.ensures.kinds (program_free _ line)) (search rules)

pub returns-in_err-request : goal.returns-in_err-request
returns-in_err-request c = λ line.
    read_refused (app_of c.args.command.now) _ c.from_residual-in_err-request.result line (search rules) (search rules)

pub returns-in_err-error-in-None : goal.returns-in_err-error-in-None
returns-in_err-error-in-None c = λ line.
    read_nothing (app_of c.args.command.now) _ c.in_ok-matches.matches c.from_residual-in_err-error-in-None.result line c.in_ok-matches.ensures.ok.2
    (c.in_ok-matches.ensures.kinds (program_free _ line)) (search rules) (search rules)

pub returns : goal.returns
returns c = λ line.
    read_nothing (app_of c.args.command.now) _ c.in_ok-matches.matches _ line c.in_ok-matches.ensures.ok.2
    (c.in_ok-matches.ensures.kinds (program_free _ line)) (search rules) (search rules)
