use Rattle.std.proofs.Common.{inl, inr, map, refl}
use Rattle.plist_convert.specs.Asked.{asked_by}
use Rattle.plist_convert.proofs.Blame.{blamed}
use Rattle.plist_convert.proofs.Runs.{refused_run}
use Rattle.plist_convert.proofs.Unparsed.{asked_for, is_parsed}
use Rattle.plist_convert.proofs.entry.run_on.Goals as goal

pub returns-in-Ok-clause-run : goal.returns-in-Ok-clause-run
returns-in-Ok-clause-run g c = inl (record {
  it = asked_by c.in-Ok.request;
  asks = asked_for _ c.in-Ok.request c.in-Ok.ensures.unparsed c.in-Ok.ensures.parsed;
  done = c.execute.ensures.run;
})

pub returns-in-Ok-clause-blamed : goal.returns-in-Ok-clause-blamed
returns-in-Ok-clause-blamed g c = blamed _ _ _ _ _ _ (returns-in-Ok-clause-run g c)

pub returns-in-Err-clause-run : goal.returns-in-Err-clause-run
returns-in-Err-clause-run g c =
    let words = map (λ word. word.now) c.args.words.now in
    let parsed = is_parsed words c.in-Err.ensures.unparsed in
    inr (refused_run words _ _ _ c.in-Err.error c.print_message.result parsed (c.in-Err.ensures.parsed parsed) refl refl c.print_message.ensures.ends)

pub returns-in-Err-clause-blamed : goal.returns-in-Err-clause-blamed
returns-in-Err-clause-blamed g c = blamed _ _ _ _ _ _ (returns-in-Err-clause-run g c)
