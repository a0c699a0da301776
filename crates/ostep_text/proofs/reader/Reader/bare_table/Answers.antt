use Rattle.std.proofs.Common.{◌≡◌, ℕ, List, ◌∷◌, ◌++◌, [], false, sym, subst, ◌∙◌}
use Rattle.std.proofs.lemmas.Result.{IfOk-weaker}
use Rattle.plist_value.specs.Plist.{Plist, Pairs, no_pairs, pair, table}
use Rattle.plist_value.proofs.Pairs.{put_pair}
use Rattle.ostep_lex.specs.Lexeme.{Located, text as string}
use Rattle.ostep_text.specs.First.{first_placed, is_string}
use Rattle.ostep_text.specs.declared.fault.TextFault.TheVariants.{Junk}
use Rattle.ostep_text.specs.Sorting.{has_key, StandsAmong, first}
use Rattle.plist_draft.specs.View.{objects}
use Rattle.ostep_text.proofs.SortingSteps.{put-stands}
use Rattle.ostep_text.proofs.DraftSteps.{keeps-all, rows-none, rows-more, rows-even, none-even, keys-more, known-is, no-memory}
use Rattle.ostep_lex.specs.Lexing.{HasTokens}
use Rattle.ostep_text.specs.Begun.{nothing, opened}
use Rattle.ostep_text.specs.Stands.{Stands}
use Rattle.ostep_text.specs.Machine
use Rattle.ostep_text.specs.Reading.{HasRead, IsLeft, ReadsRow, StandsIfLexed, TakesRow}
use Rattle.ostep_text.specs.Drafted.{SpellsRow, SpellsRows}
use Rattle.ostep_text.specs.KeySet.{HasKeysOf}
use Rattle.plist_value.specs.declared.budget.Budget.{Budget}
use Rattle.ostep_lex.proofs.Exits.{passed_on}
use Rattle.ostep_text.proofs.Standing.{junk-at}
use Rattle.ostep_text.proofs.TakeSteps.{rows-left}
use Rattle.ostep_text.proofs.MachineLemmas.{bare-ended}
use Rattle.ostep_text.proofs.BareSteps.{BareRead, bare-first, bare-more, bare-phrase, bare-text, bare-ends}
use Rattle.ostep_text.proofs.reader.Reader.bare_table.Goals as goal
use Rattle.ostep_text.proofs.reader.Reader.bare_table.Goals.{In-Some, In-Some-key, In_ok-push-2}

alone : (key : List ℕ) (v : Plist) → StandsAmong key v no_pairs (pair key v no_pairs)
alone key v = first

pub loop-rows-init : goal.loop-rows-init
loop-rows-init c = record {
  even = rows-even c.new-rows.result c.push.new.self c.args.row c.in_ok-push.ensures.keys c.in_ok-push.ensures.values (none-even c.new-rows.result c.new-rows.ensures.keys c.new-rows.ensures.values);
  built = λ octets left v m i t r.
      let helds = objects c.args.self.now.draft in (
        pair c.args.key v no_pairs,
        (
          rows-more helds helds c.new-rows.result c.push.new.self c.args.row c.in_ok-push.ensures.keys c.in_ok-push.ensures.values
              (none-even c.new-rows.result c.new-rows.ensures.keys c.new-rows.ensures.values) (keeps-all helds)
              (rows-none helds c.new-rows.result c.new-rows.ensures.keys c.new-rows.ensures.values) m first,
          keys-more c.new-keys.result c.insert.new.self (λ key. c.new-keys.ensures key) (alone c.args.key v) c.in_ok-insert.ensures.more,
        ),
        bare-first c.args.self.now t r,
      );
}

pub returns-in_err-first-clause-stands : goal.returns-in_err-first-clause-stands
returns-in_err-first-clause-stands c octets left v m i t r =
    let p = c.loop-rows.invariant.built octets left v m i t r in
    let b = p.2 in
    passed_on (Stands octets) c.in_err-first.field-0.0 c.from_residual-in_err-first.result c.from_residual-in_err-first.ensures.1 (c.in_err-first.ensures.stands octets b.tokens b.has)

-- the key
key-is : (c : In-Some-key) → (first_placed c.in-Some.first).lexeme ≡ string c.in-Some-key.key
key-is c = c.in-Some-key.ensures

first-read : (c : In-Some) (octets : List ℕ) (tokens : List Located) → HasRead octets tokens c.loop-rows.self.tokens → HasRead octets (tokens ++ first_placed c.in-Some.first ∷ []) c.next_first.new.self
first-read c octets tokens h = rw c.in-Some.is at (c.in_ok-first.ensures.read octets tokens h)

pub returns-in_err-row-clause-stands : goal.returns-in_err-row-clause-stands
returns-in_err-row-clause-stands c octets left v m i t r =
    let at = goal.at.returns-in_err-row-clause-stands c in
    let p = c.loop-rows.invariant.built octets left v m i t r in
    let b = p.2 in
    let key = c.in-Some-key.key in
    passed_on (Stands octets) c.in_err-row.field-0.0 c.from_residual-in_err-row.result c.from_residual-in_err-row.ensures.1
    (c.in_err-row.ensures.stands octets b.tokens (first_placed c.in-Some.first) b.whole (opened nothing) Machine.bare b.rows p.0 (key-is at.In-Some-key) (sym c.start-octet.ensures) b.before
    (first-read at.In-Some octets b.tokens b.has) b.due (known-is c.loop-rows.keys p.0 key p.1.1 c.in_ok-known.ensures.known) (rows-left i b.taken b.due.sorted.same))

-- the rows and one more
rows-built : (c : In_ok-push-2) (octets : List ℕ) (left : Budget) (v : Plist) → SpellsRow (objects c.args.self.now.draft) c.args.key c.args.row v → IsLeft left 511 (opened nothing)
    → TakesRow left 511 c.args.key v c.args.self.now.left → ReadsRow octets [] c.args.key v c.args.self.now.tokens
    → (ps : Pairs) × (SpellsRows (objects c.row.new.self.draft) c.push-in-Some.new.self ps × HasKeysOf c.insert-in-Some.new.self ps) × BareRead octets left ps c.row.new.self
rows-built c octets left v m i t r =
    let p = c.loop-rows.invariant.built octets left v m i t r in
    let b = p.2 in
    let key = c.in-Some-key.key in
    let once : has_key key p.0 ≡ false = known-is c.loop-rows.keys p.0 key p.1.1 c.in_ok-known.ensures.known ∙ c.in_ok-row.ensures.once in
    let row = c.in_ok-row.ensures.built in
    let stands = put-stands key row.meant p.0 once in
    let has : HasRead octets (b.tokens ++ first_placed c.in-Some.first ∷ []) c.next_first.new.self = rw c.in-Some.is at (c.in_ok-first.ensures.read octets b.tokens b.has) in (
      put_pair key row.meant p.0,
      (
        rows-more (objects c.loop-rows.self.draft) (objects c.row.new.self.draft) c.loop-rows.rows c.push-in-Some.new.self c.in_ok-row.row c.in_ok-push-2.ensures.keys
            c.in_ok-push-2.ensures.values c.loop-rows.invariant.even c.in_ok-row.ensures.kept p.1.0 row.means_it stands,
        keys-more c.loop-rows.keys c.insert-in-Some.new.self p.1.1 stands c.in_ok-known.ensures.more,
      ),
      bare-more c.row.new.self b row.taken once (row.read octets b.tokens (first_placed c.in-Some.first) c.in-Some-key.ensures has),
    )

pub loop-rows-preserved-in_ok-push-2 : goal.loop-rows-preserved-in_ok-push-2
loop-rows-preserved-in_ok-push-2 c = record {
  even = rows-even c.loop-rows.rows c.push-in-Some.new.self c.in_ok-row.row c.in_ok-push-2.ensures.keys c.in_ok-push-2.ensures.values c.loop-rows.invariant.even;
  built = rows-built (goal.at.loop-rows-preserved-in_ok-push-2 c).In_ok-push-2;
}

pub loop-rows-preserved : goal.loop-rows-preserved
loop-rows-preserved c = record {
  even = rows-even c.loop-rows.rows c.push-in-Some.new.self c.in_ok-row.row c.in_ok-push-2.ensures.keys c.in_ok-push-2.ensures.values c.loop-rows.invariant.even;
  built = rows-built (goal.at.loop-rows-preserved c).In_ok-push-2;
}

pub returns-in_default-key-clause-stands : goal.returns-in_default-key-clause-stands
returns-in_default-key-clause-stands c octets left v m i t r =
    let at = goal.at.returns-in_default-key-clause-stands c in
    let p = c.loop-rows.invariant.built octets left v m i t r in
    let b = p.2 in
    let token = first_placed c.in-Some.first in
    let has = first-read at.In-Some octets b.tokens b.has in
    let none : is_string token.lexeme ≡ false = c.in_default-key.ensures in
    c.refuse.ensures octets (b.tokens ++ token ∷ []) has
    (subst (λ x. StandsIfLexed octets (Junk x)) (sym c.start-octet.ensures)
    (junk-at b.tokens token b.whole b.before has b.some (table p.0, bare-phrase b)
    (bare-ends b token.lexeme (bare-ended token.lexeme none))))

pub returns-clause-read : goal.returns-clause-read
returns-clause-read c octets left v m i t r =
    let p = c.loop-rows.invariant.built octets left v m i t r in
    let b = p.2 in
    let all : HasTokens octets b.tokens = rw c.in_default.is at (c.in_ok-first.ensures.read octets b.tokens b.has) in
    IfOk-weaker c.put_table.result _ _ (λ number s. (table p.0, s p.0 p.1.0, bare-text b i all)) c.put_table.ensures.spells

pub returns-clause-stands : goal.returns-clause-stands
returns-clause-stands c octets left v m i t r = no-memory octets c.put_table.result c.put_table.ensures.memory
