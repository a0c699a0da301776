use Rattle.std.proofs.Common.{refl}
use Rattle.plist_convert.specs.Program.{IsAskedRun}
use Rattle.plist_convert.proofs.entry.execute.Goals as goal

pub returns-in-Filter-clause-run : goal.returns-in-Filter-clause-run
unfolding IsAskedRun
returns-in-Filter-clause-run g c = rw c.in-Filter.is ((refl, refl), c.filter.ensures.run _ _)

pub returns-in-Convert-clause-run : goal.returns-in-Convert-clause-run
unfolding IsAskedRun
returns-in-Convert-clause-run g c = rw c.in-Convert.is (refl, c.convert_file.ensures.run)

pub returns-in-Same-clause-run : goal.returns-in-Same-clause-run
unfolding IsAskedRun
returns-in-Same-clause-run g c = rw c.in-Same.is (refl, c.compare_files.ensures.run)

pub returns-in-Lint-clause-run : goal.returns-in-Lint-clause-run
unfolding IsAskedRun
returns-in-Lint-clause-run g c = rw c.in-Lint.is (refl, rw c.as_slice.ensures.value at c.answer_files.ensures.run)

pub returns-in-Check-clause-run : goal.returns-in-Check-clause-run
unfolding IsAskedRun
returns-in-Check-clause-run g c = rw c.in-Check.is (refl, rw (c.are_named-named.ensures, c.as_slice-paths.ensures.value) at c.answer_files-in-Check.ensures.run)

pub returns-in-Print-clause-run : goal.returns-in-Print-clause-run
unfolding IsAskedRun
returns-in-Print-clause-run g c = rw c.in-Print.is (refl, c.print_file.ensures.run)

pub returns-in-Explain-clause-run : goal.returns-in-Explain-clause-run
unfolding IsAskedRun
returns-in-Explain-clause-run g c = rw c.in-Explain.is (refl, ((refl, refl), c.explain_what.ensures.run _ _))
