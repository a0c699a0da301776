use Rattle.std.proofs.Common.{sym, ◌∙◌, arith}
use Rattle.plist_value.specs.Texts.{units_of}
use Rattle.ostep_text.proofs.KeySteps.{below-more}
use Rattle.ostep_text.proofs.key.is_narrow.Goals as goal

pub returns-then-is_ascii : goal.returns-then-is_ascii
returns-then-is_ascii c = sym (below-more 128 256 (units_of c.args.text.now) (omega arith) (sym c.is_ascii.ensures ∙ c.if-is_ascii.true))
