use Rattle.std.proofs.Common.{refl, subst, sym}
use Rattle.std.specs.Prelude.{IsUtf8}
use Rattle.std.specs.Str.{IsValidUpTo}
use Rattle.ostep_lex.proofs.TextLemmas.{whole_utf8, stops_utf8}
use Rattle.ostep_lex.proofs.cursor.Cursor.of_utf8.Goals as goal

pub invariant_of-result-clause-whole : goal.invariant_of-result-clause-whole
invariant_of-result-clause-whole c = whole_utf8 c.in-Ok.text (subst IsUtf8 (sym c.in-Ok.ensures.cases.0) c.in-Ok.ensures.cases.1)

pub returns-in-Err-clause-err : goal.returns-in-Err-clause-err
returns-in-Err-clause-err c = (_, refl, stops_utf8 _ _ _ c.requires (subst (IsValidUpTo c.args.octets.now) (sym c.valid_up_to.ensures) c.in-Err.ensures.cases.1))
