use Rattle.std.proofs.Common.{◌≡◌, ◌++◌, [], refl, sym, subst, append-nil, ◌∙◌}
use Rattle.ostep_lex.specs.Octets.{Octets, piece}
use Rattle.ostep_lex.specs.Stands
use Rattle.ostep_lex.specs.Encoding.{offset}
use Rattle.ostep_lex.specs.Cursor.{ahead}
use Rattle.ostep_lex.proofs.PieceSteps.{appended, octets_close, cut_data_fault, octets_piece_shorter}
use Rattle.ostep_lex.proofs.octets.octets.Goals as goal

pub returns-then-c-eq62-clause-ok : goal.returns-then-c-eq62-clause-ok
returns-then-c-eq62-clause-ok c = record {
  bytes = subst (λ os. Octets (ahead c.args.cursor) os (ahead c.in-Some.after)) (append-nil c.loop-c.octets.items)
      (c.loop-c.invariant.0 [] _ (octets_close _ _ _ c.in-Some.ensures.0 c.if-c-eq62.true));
  input = c.in-Some.ensures.1 ∙ c.loop-c.invariant.2;
}

pub loop-c-init : goal.loop-c-init
loop-c-init c = (
  λ more end r. subst (λ os. Octets (ahead c.args.cursor) (os ++ more) end) (sym c.new-octets.ensures.items) r,
  λ fault f. f,
  refl,
)

pub loop-c-smaller : goal.loop-c-smaller
loop-c-smaller c = octets_piece_shorter c.in_ok-rest.ensures.ok.piece

pub loop-c-preserved : goal.loop-c-preserved
loop-c-preserved c =
    let p = c.in_ok-rest.ensures.ok in (
      λ more end r. subst (λ os. Octets (ahead c.args.cursor) os end) (appended _ _ _ more p.appended)
          (c.loop-c.invariant.0 (p.octets_of ++ more) end (piece p.piece r)),
      λ fault f. c.loop-c.invariant.1 fault (Stands.piece p.piece f),
      p.input ∙ c.loop-c.invariant.2,
    )

pub returns-clause-err : goal.returns-clause-err
returns-clause-err c n =
    c.loop-c.invariant.1 _ (cut_data_fault _ _ _ c.in_default.ensures (subst (λ p. c.offset.result ≡ offset p (ahead c.loop-c.rest)) c.loop-c.invariant.2 c.offset.ensures))
