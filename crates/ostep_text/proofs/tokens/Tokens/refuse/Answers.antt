use Rattle.std.proofs.Common.{ℕ, List, ◌∷◌, ◌++◌, [], subst, sym}
use Rattle.ostep_lex.specs.Lexeme.{Located, located}
use Rattle.ostep_lex.specs.Lexing.{HasTokens}
use Rattle.ostep_lex.specs.Cursor.{IsAfter}
use Rattle.ostep_text.specs.Stands.{Stands}
use Rattle.ostep_text.specs.Reading.{HasRead}
use Rattle.ostep_text.proofs.Standing.{tokens-stand}
use Rattle.ostep_text.proofs.tokens.Tokens.refuse.Goals as goal
use Rattle.ostep_text.proofs.tokens.Tokens.refuse.Goals.{In-Ok-Some}

pub returns-in-Ok-None : goal.returns-in-Ok-None
returns-in-Ok-None c octets tokens h s =
    let m = c.loop-after.invariant octets tokens h in
    let all : HasTokens octets m.0 = rw c.in-Ok-None.field-0-is at (c.in-Ok-None.ensures.ok octets m.0 m.1) in
    s m.0 all

pub returns-in-Err : goal.returns-in-Err
returns-in-Err c octets tokens h s =
    let m = c.loop-after.invariant octets tokens h in
    subst (λ f. Stands octets f) (sym c.from.ensures) (tokens-stand octets c.in-Err.earlier (c.in-Err.ensures.stands octets m.0 m.1))

-- one more token is ahead of the cursor
one-more : (c : In-Ok-Some) (octets : List ℕ) (tokens : List Located) → HasRead octets tokens c.args.self.now → (more : List Located) × IsAfter octets more c.in-Ok-Some.after
one-more c octets tokens h =
    let m = c.loop-after.invariant octets tokens h in
    let after : IsAfter octets (m.0 ++ located c.in-Ok-Some.field-0-0-0 ∷ []) c.in-Ok-Some.after = rw c.in-Ok-Some.field-0-is at (c.in-Ok-Some.ensures.ok octets m.0 m.1) in
    (m.0 ++ located c.in-Ok-Some.field-0-0-0 ∷ [], after)

pub loop-after-preserved-in-Ok-Some : goal.loop-after-preserved-in-Ok-Some
loop-after-preserved-in-Ok-Some c = one-more (goal.at.loop-after-preserved-in-Ok-Some c).In-Ok-Some

pub loop-after-preserved-in-Ok-Some-2 : goal.loop-after-preserved-in-Ok-Some-2
loop-after-preserved-in-Ok-Some-2 c = one-more (goal.at.loop-after-preserved-in-Ok-Some-2 c).In-Ok-Some

pub loop-after-preserved-in-Ok-Some-3 : goal.loop-after-preserved-in-Ok-Some-3
loop-after-preserved-in-Ok-Some-3 c = one-more (goal.at.loop-after-preserved-in-Ok-Some-3 c).In-Ok-Some
