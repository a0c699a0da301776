use Rattle.std.proofs.Common.{sym, subst}
use Rattle.plist_value.specs.Texts.{units_of}
use Rattle.ostep_lex.specs.Lexeme.{text}
use Rattle.ostep_lex.specs.Cursor.{PassesToken}
use Rattle.ostep_lex.proofs.LexerSteps.{passes_placed, after_more, adds_shorter}
use Rattle.ostep_lex.proofs.plain.next_plain.Goals as goal

pub returns-clause-some : goal.returns-clause-some
returns-clause-some c octets tokens b =
    let t : PassesToken (text (units_of c.in_ok-text.text)) c.in-Ok.start c.in_ok-octets.end =
    subst (λ us. PassesToken (text us) c.in-Ok.start c.in_ok-octets.end) (sym c.in_ok-text.ensures.text) c.in_ok-octets.ensures in
    after_more b (passes_placed _ _ _ _ _ _ c.in-Ok.ensures.ok t c.offset.ensures c.offset-2.ensures)

pub returns-clause-shorter : goal.returns-clause-shorter
returns-clause-shorter c =
    let passed = c.in-Ok.ensures.ok in
    adds_shorter (text c.in_ok-octets.octets.now) _ _ _ passed.gap passed.input c.in_ok-octets.ensures
