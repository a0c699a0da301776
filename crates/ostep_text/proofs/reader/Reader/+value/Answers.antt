use Rattle.std.proofs.Common.{◌≡◌, ℕ, List, ◌≤◌, ◌*◌, ◌∷◌, ◌++◌, [], true, false, length, Result, Ok, Err, IfOk, refl, sym, ap, subst, ◌∙◌, append_assoc, arith}
use Rattle.std.specs.Result.{OnOk}
use Rattle.std.proofs.lemmas.Result.{IfOk-weaker}
use Rattle.plist_value.specs.Texts.{units_of}
use Rattle.plist_value.specs.Budget.{Spends}
use Rattle.plist_value.specs.Plist.{AreUnits, AreOctets, scalar, text, bytes, list, table, Pairs, no_items, no_pairs}
use Rattle.plist_value.proofs.Pairs.{put_pair}
use Rattle.ostep_lex.specs.Lexeme.{Lexeme, Located, located, lexeme_of, text as string, octets as data_token, paren_open, brace_open, equals}
use Rattle.ostep_text.specs.Begun.{opened, with_items, with_rows, with_key}
use Rattle.ostep_text.specs.Sorting.{has_key}
use Rattle.plist_draft.specs.Encoded.{SpellsIn, SpellItemsIn}
use Rattle.plist_draft.specs.View.{objects}
use Rattle.ostep_text.specs.Drafted.{IsBuilt, SpellsRows}
use Rattle.ostep_text.specs.KeySet.{HasKeysOf}
use Rattle.ostep_text.specs.declared.entries.Entries.{Entries}
use Rattle.ostep_text.specs.declared.fault.TextFault.TheVariants.{Expected}
use Rattle.ostep_text.specs.declared.reader.Reader.{Reader}
use Rattle.ostep_text.specs.First.{first_placed, is_string}
use Rattle.ostep_text.specs.Stands.{Stands}
use Rattle.ostep_text.specs.Machine
use Rattle.ostep_text.specs.Machine.{Around}
use Rattle.ostep_text.specs.Reading.{Front, HasRead, MayRefuse, StandsIfLexed, ReadsItems, ReadsPairs, ReadsValue, Takes, TakesItems, TakesPairs}
use Rattle.ostep_text.specs.Due.{ValueDue}
use Rattle.ostep_lex.proofs.Exits.{passed_on, on_ok}
use Rattle.ostep_text.proofs.MachineLemmas.{leads-nowhere, item-begun, item-ended, list-end, table-end, row-ended, key-ended, table-ended, value-ended, value-none}
use Rattle.plist_value.proofs.Items.{push}
use Rattle.ostep_text.proofs.DraftSteps.{keeps-all, keeps-then, keeps-from, spell-push, rows-none, rows-more, rows-even, none-even, keys-more, known-is, no-memory, memory-stands}
use Rattle.ostep_text.proofs.SortingSteps.{put-stands}
use Rattle.ostep_text.proofs.Standing.{expected-at, same-read, value-refuses, before-at, before-key, key-refuses, alone-refuses, twice-stands}
use Rattle.ostep_text.proofs.DueSteps.{list-due, items-open, item-due, item-leads, item-open, table-due, row-due, rows-open, key-open, row_value-due, row_value-first, row_value-open, row_value-leads, row_value-after, value-open, value-nowhere}
use Rattle.ostep_text.proofs.TakeSteps.{no-items-taken, no-pairs-taken, item-taken, pair-taken, row-taken, scalar-taken, list-taken, table-taken, opened-left, items-left, rows-left, key-left, spends-same}
use Rattle.ostep_text.proofs.ReadSteps.{string-read, data-read, list-read, no-items-read, EndsItem, continued, closed, item-read, items-read, ended-read, row-read, alone-read, no-pairs-read, pair-read, pairs-read, pairs-table}
use Rattle.ostep_text.proofs.reader.Reader.+value.Goals as goal
use Rattle.ostep_text.proofs.reader.Reader.+value.Goals.{items-In_ok-after, rows-In-Some, rows-In_ok-push}

pub items-loop-items-init : goal.items-loop-items-init
items-loop-items-init t c = record {
  shorter = omega arith;
  kept = keeps-all (objects c.args.self.now.draft);
  built = rw c.new-items.ensures.items (record {
    meant = no_items;
    means_it = refl;
    taken = no-items-taken c.args.self.now.left c.args.levels;
    read = λ octets tokens h. no-items-read h;
  });
}

pub items-returns-in_err-first-clause-stands : goal.items-returns-in_err-first-clause-stands
items-returns-in_err-first-clause-stands t c octets tokens whole b a f h d i =
    let r = c.loop-items.invariant.built.read octets tokens h in
    passed_on (Stands octets) c.in_err-first.field-0.0 c.from_residual.result c.from_residual.ensures.1
    (c.in_err-first.ensures.stands octets r.reads.all (λ rest. whole (r.inside rest)) (r.reads.follow whole f) r.reads.has (items-open r.inside d r.spells))

pub items-returns-then-ends_list-clause-built : goal.items-returns-then-ends_list-clause-built
items-returns-then-ends_list-clause-built t c =
    let b = c.loop-items.invariant.built in
    record {
      meant = b.meant;
      means_it = b.means_it;
      taken = b.taken;
      read = λ octets tokens h.
          let r = b.read octets tokens h in
          items-read r (first_placed c.in_ok-first.first) (list-end (first_placed c.in_ok-first.first).lexeme (sym c.ends_list.ensures ∙ c.if-ends_list.true)) (c.in_ok-first.ensures.read octets r.reads.all r.reads.has);
    }

pub items-returns-in_err-item-clause-stands : goal.items-returns-in_err-item-clause-stands
items-returns-in_err-item-clause-stands t c octets tokens whole b a f h d i =
    let r = c.loop-items.invariant.built.read octets tokens h in
    let first = first_placed c.in_ok-first.first in
    passed_on (Stands octets) c.in_err-item.field-0.0 c.from_residual-in_err-item.result c.from_residual-in_err-item.ensures.1
    (c.in_err-item.ensures.stands octets r.reads.all (λ rest. whole (r.inside rest)) (with_items c.loop-items.invariant.built.meant (opened b)) (Machine.in_list a)
    (r.reads.follow whole f) (c.in_ok-first.ensures.read octets r.reads.all r.reads.has)
    (item-due r.inside d r.spells (item-begun a first.lexeme (sym c.ends_list.ensures ∙ c.if-ends_list.false)))
    (items-left b c.loop-items.invariant.built.meant i c.loop-items.invariant.built.taken))

pub items-returns-in_err-after-clause-stands : goal.items-returns-in_err-after-clause-stands
items-returns-in_err-after-clause-stands t c octets tokens whole b a f h d i =
    let r = c.loop-items.invariant.built.read octets tokens h in
    let v = c.in_ok-item.ensures.built.read octets r.reads.all (c.in_ok-first.ensures.read octets r.reads.all r.reads.has) in
    let more : Front = λ rest. (first_placed c.in_ok-first.first).lexeme ∷ v.inside rest in
    passed_on (Stands octets) c.in_err-after.field-0.0 c.from_residual-in_err-after.result c.from_residual-in_err-after.ensures.1
    (c.in_err-after.ensures.stands octets v.reads.all (λ rest. whole (r.inside (more rest))) (v.reads.follow (λ rest. whole (r.inside rest)) (r.reads.follow whole f)) v.reads.has
    (item-open r.inside more d r.spells v.spells))

-- the items and one more, up to the token after it
item-built : (t : ℕ) (c : items-In_ok-after t) {l : Lexeme} {end : List Lexeme} → EndsItem l end → lexeme_of c.in_ok-after.after.kind ≡ l
    → IsBuilt (SpellItemsIn (objects c.value.new.self.draft)) (c.loop-items.items.items ++ c.in_ok-item.item ∷ []) (λ vs. TakesItems c.args.self.now.left c.args.levels vs c.value.new.self.left)
    (λ vs. (octets : List ℕ) (tokens : List Located) → HasRead octets tokens c.args.self.now.tokens → ReadsItems octets tokens end vs c.expect_mark.new.self)
item-built t c ends is =
    let b = c.loop-items.invariant.built in
    let i = c.in_ok-item.ensures.built in
    record {
      meant = push b.meant i.meant;
      means_it = spell-push (objects c.value.new.self.draft) c.loop-items.items.items c.in_ok-item.item b.meant i.meant
          (c.in_ok-item.ensures.kept.items c.loop-items.items.items b.meant b.means_it) i.means_it;
      taken = item-taken b.meant i.meant b.taken i.taken;
      read = λ octets tokens h.
          let r = b.read octets tokens h in
          let v = i.read octets r.reads.all (c.in_ok-first.ensures.read octets r.reads.all r.reads.has) in
          item-read r v (located c.in_ok-after.after) ends is (c.in_ok-after.ensures.read octets v.reads.all v.reads.has);
    }

pub items-returns-in-ParenClose-clause-built : goal.items-returns-in-ParenClose-clause-built
items-returns-in-ParenClose-clause-built t c =
    rw c.in_ok-push.ensures.items (item-built t (goal.at.items-returns-in-ParenClose-clause-built t c).In_ok-after closed (ap lexeme_of c.in-ParenClose.is))

pub items-returns-in-ParenClose-clause-kept : goal.items-returns-in-ParenClose-clause-kept
items-returns-in-ParenClose-clause-kept t c = keeps-then c.loop-items.invariant.kept c.in_ok-item.ensures.kept

pub items-returns-in_default-clause-stands : goal.items-returns-in_default-clause-stands
items-returns-in_default-clause-stands t c octets tokens whole b a f h d i =
    let r = c.loop-items.invariant.built.read octets tokens h in
    let v = c.in_ok-item.ensures.built.read octets r.reads.all (c.in_ok-first.ensures.read octets r.reads.all r.reads.has) in
    let more : Front = λ rest. (first_placed c.in_ok-first.first).lexeme ∷ v.inside rest in
    let token = located c.in_ok-after.after in
    let has = c.in_ok-after.ensures.read octets v.reads.all v.reads.has in
    c.refuse.ensures octets (v.reads.all ++ token ∷ []) has
    (expected-at v.reads.all token (λ rest. whole (r.inside (more rest))) (v.reads.follow (λ rest. whole (r.inside rest)) (r.reads.follow whole f)) has
    (item-open r.inside more d r.spells v.spells)
    (leads-nowhere (λ rest. whole (r.inside (more rest))) (Machine.after (Machine.in_list a)) token.lexeme (item-leads r.inside more d r.spells v.spells)
    (item-ended a c.in_ok-after.after.kind c.in_default.not-ParenClose c.in_default.not-Comma)))

pub items-loop-items-preserved : goal.items-loop-items-preserved
items-loop-items-preserved t c = record {
  shorter = omega (arith, c.in_ok-after.ensures.shorter, c.in_ok-item.ensures.shorter, c.in_ok-first.ensures.shorter, c.loop-items.invariant.shorter);
  kept = keeps-then c.loop-items.invariant.kept c.in_ok-item.ensures.kept;
  built = rw c.in_ok-push.ensures.items (item-built t (goal.at.items-loop-items-preserved t c).In_ok-after continued (ap lexeme_of c.in-Comma.is));
}

pub row-returns-in_err-charge-clause-stands : goal.row-returns-in_err-charge-clause-stands
row-returns-in_err-charge-clause-stands t c octets tokens at whole b around before pairs l s f h d k i =
    let few : c.payload.result ≤ 2 * length c.args.key.now = omega (arith, c.payload.ensures.payload) in
    passed_on (Stands octets) c.in_err-charge.field-0.0 c.from_residual.result c.from_residual.ensures.1
    (c.in_err-charge.ensures.stands octets (tokens ++ at ∷ []) h
    (key-refuses tokens at c.args.octet c.args.key.now whole c.args.levels c.payload.result c.args.self.now.left l s f h d few i))

pub row-returns-then-known-clause-stands : goal.row-returns-then-known-clause-stands
row-returns-then-known-clause-stands t c octets tokens at whole b around before pairs l s f h d k i =
    let has : HasRead octets (tokens ++ at ∷ []) c.charge.new.self.tokens = same-read h c.in_ok-charge.ensures.tokens in
    let twice : has_key c.args.key.now pairs ≡ true = k ∙ c.if-known.true in
    c.refuse.ensures octets (tokens ++ at ∷ []) has (twice-stands tokens at c.args.octet c.args.key.now whole l s f has d twice)

pub row-returns-in_err-number-clause-stands : goal.row-returns-in_err-number-clause-stands
row-returns-in_err-number-clause-stands t c octets tokens at whole b around before pairs l s f h d k i =
    passed_on (Stands octets) c.in_err-number.field-0.0 c.from_residual-in_err-number.result c.from_residual-in_err-number.ensures.1
    (memory-stands octets c.in_err-number.field-0.0 c.in_err-number.ensures.memory)

pub row-returns-in_err-after-clause-stands : goal.row-returns-in_err-after-clause-stands
row-returns-in_err-after-clause-stands t c octets tokens at whole b around before pairs l s f h d k i =
    let has : HasRead octets (tokens ++ at ∷ []) c.charge.new.self.tokens = same-read h c.in_ok-charge.ensures.tokens in
    let once : has_key c.args.key.now pairs ≡ false = k ∙ c.if-known.false in
    passed_on (Stands octets) c.in_err-after.field-0.0 c.from_residual-in_err-after.result c.from_residual-in_err-after.ensures.1
    (c.in_err-after.ensures.stands octets (tokens ++ at ∷ []) (λ rest. whole (string c.args.key.now ∷ rest)) (before-key tokens at c.args.key.now whole l f) has (key-open c.args.key.now d once))

pub row-returns-in-Equals-clause-built : goal.row-returns-in-Equals-clause-built
row-returns-in-Equals-clause-built t c =
    let key = c.args.key.now in
    let token = located c.in_ok-after.after in
    let spent : Spends c.args.self.now.left 1 (2 * length key) c.charge.new.self.left = spends-same c.in_ok-charge.ensures.spent c.payload.ensures.payload in
    let b = c.in_ok-value-in-Equals.ensures.built in
    record {
      meant = b.meant;
      means_it = (c.in_ok-value-in-Equals.ensures.kept.value c.in_ok-number.number (scalar (text key)) c.in_ok-number.ensures.spells, b.means_it);
      taken = row-taken key b.meant spent c.in_ok-charge.ensures.deep b.taken c.payload.ensures.valid;
      read = λ octets tokens at l h.
          let has : HasRead octets (tokens ++ at ∷ []) c.charge.new.self.tokens = same-read h c.in_ok-charge.ensures.tokens in
          row-read tokens at token key l (ap lexeme_of c.in-Equals.is) (b.read octets ((tokens ++ at ∷ []) ++ token ∷ []) (c.in_ok-after.ensures.read octets (tokens ++ at ∷ []) has));
    }

pub row-returns-in-Equals-clause-kept : goal.row-returns-in-Equals-clause-kept
row-returns-in-Equals-clause-kept t c =
    keeps-then (keeps-from c.in_ok-charge.ensures.draft c.in_ok-number.ensures.kept) c.in_ok-value-in-Equals.ensures.kept

pub row-returns-in_err-value-in-Equals-clause-stands : goal.row-returns-in_err-value-in-Equals-clause-stands
row-returns-in_err-value-in-Equals-clause-stands t c octets tokens at whole b around before pairs l s f h d k i =
    let has : HasRead octets (tokens ++ at ∷ []) c.charge.new.self.tokens = same-read h c.in_ok-charge.ensures.tokens in
    let token = located c.in_ok-after.after in
    let has_after = c.in_ok-after.ensures.read octets (tokens ++ at ∷ []) has in
    let once : has_key c.args.key.now pairs ≡ false = k ∙ c.if-known.false in
    let key = c.args.key.now in
    let spent : Spends c.args.self.now.left 1 (2 * length key) c.charge.new.self.left = spends-same c.in_ok-charge.ensures.spent c.payload.ensures.payload in
    passed_on (Stands octets) c.in_err-value-in-Equals.field-0.0 c.from_residual-in_err-value-in-Equals.result c.from_residual-in_err-value-in-Equals.ensures.1
    (c.in_err-value-in-Equals.ensures.stands octets ((tokens ++ at ∷ []) ++ token ∷ []) (λ rest. whole (string key ∷ equals ∷ rest)) (with_key key (with_rows before b)) around
    (before-at (tokens ++ at ∷ []) token equals (λ rest. whole (string key ∷ rest)) (ap lexeme_of c.in-Equals.is) (before-key tokens at key whole l f)) has_after
    (row_value-due key d once) (key-left key i spent))

pub row-returns-in-Semicolon-clause-built : goal.row-returns-in-Semicolon-clause-built
row-returns-in-Semicolon-clause-built t c =
    let key = c.args.key.now in
    let token = located c.in_ok-after.after in
    let spent : Spends c.args.self.now.left 1 (2 * length key) c.charge.new.self.left = spends-same c.in_ok-charge.ensures.spent c.payload.ensures.payload in
    let again : Spends c.charge.new.self.left 1 (2 * length key) c.charge-in-Semicolon.new.self.left = spends-same c.in_ok-charge-in-Semicolon.ensures.spent c.payload-in-Semicolon.ensures.payload in
    let spelled : SpellsIn (objects c.charge-in-Semicolon.new.self.draft) c.in_ok-number.number (scalar (text key)) =
    subst (λ d. SpellsIn (objects d) c.in_ok-number.number (scalar (text key))) (sym c.in_ok-charge-in-Semicolon.ensures.draft) c.in_ok-number.ensures.spells in
    record {
      meant = scalar (text key);
      means_it = (spelled, spelled);
      taken = row-taken key (scalar (text key)) spent c.in_ok-charge.ensures.deep
          (scalar-taken (text key) again c.in_ok-charge.ensures.deep c.payload.ensures.valid) c.payload.ensures.valid;
      read = λ octets tokens at l h.
          let has : HasRead octets (tokens ++ at ∷ []) c.charge.new.self.tokens = same-read h c.in_ok-charge.ensures.tokens in
          alone-read tokens at token key l (ap lexeme_of c.in-Semicolon.is) (same-read (c.in_ok-after.ensures.read octets (tokens ++ at ∷ []) has) c.in_ok-charge-in-Semicolon.ensures.tokens);
    }

pub row-returns-in-Semicolon-clause-kept : goal.row-returns-in-Semicolon-clause-kept
row-returns-in-Semicolon-clause-kept t c =
    keeps-then (keeps-from c.in_ok-charge.ensures.draft c.in_ok-number.ensures.kept) (keeps-from c.in_ok-charge-in-Semicolon.ensures.draft (keeps-all (objects c.charge-in-Semicolon.new.self.draft)))

pub row-returns-in_err-charge-in-Semicolon-clause-stands : goal.row-returns-in_err-charge-in-Semicolon-clause-stands
row-returns-in_err-charge-in-Semicolon-clause-stands t c octets tokens at whole b around before pairs l s f h d k i =
    let has : HasRead octets (tokens ++ at ∷ []) c.charge.new.self.tokens = same-read h c.in_ok-charge.ensures.tokens in
    let token = located c.in_ok-after.after in
    let has_after = c.in_ok-after.ensures.read octets (tokens ++ at ∷ []) has in
    let once : has_key c.args.key.now pairs ≡ false = k ∙ c.if-known.false in
    let key = c.args.key.now in
    let spent : Spends c.args.self.now.left 1 (2 * length key) c.charge.new.self.left = spends-same c.in_ok-charge.ensures.spent c.payload.ensures.payload in
    let two : HasRead octets (tokens ++ at ∷ token ∷ []) c.expect_mark.new.self = subst (λ ts. HasRead octets ts c.expect_mark.new.self) (append_assoc tokens (at ∷ []) (token ∷ [])) has_after in
    passed_on (Stands octets) c.in_err-charge-in-Semicolon.field-0.0 c.from_residual-in_err-charge-in-Semicolon.result c.from_residual-in_err-charge-in-Semicolon.ensures.1
    (c.in_err-charge-in-Semicolon.ensures.stands octets ((tokens ++ at ∷ []) ++ token ∷ []) has_after
    (subst (λ x. MayRefuse octets c.args.octet c.args.levels x c.charge.new.self.left) (sym c.payload-in-Semicolon.ensures.payload)
    (alone-refuses tokens at token c.args.octet key whole c.args.levels c.charge.new.self.left l s (ap lexeme_of c.in-Semicolon.is) f two d once (key-left key i spent))))

pub row-returns-clause-stands : goal.row-returns-clause-stands
row-returns-clause-stands t c octets tokens at whole b around before pairs l s f h d k i =
    let has : HasRead octets (tokens ++ at ∷ []) c.charge.new.self.tokens = same-read h c.in_ok-charge.ensures.tokens in
    let token = located c.in_ok-after.after in
    let key = c.args.key.now in
    let has_after = c.in_ok-after.ensures.read octets (tokens ++ at ∷ []) has in
    let once : has_key key pairs ≡ false = k ∙ c.if-known.false in
    c.refuse-in_default.ensures octets ((tokens ++ at ∷ []) ++ token ∷ []) has_after
    (expected-at (tokens ++ at ∷ []) token (λ rest. whole (string key ∷ rest)) (before-key tokens at key whole l f) has_after (key-open key d once)
    (leads-nowhere (λ rest. whole (string key ∷ rest)) (Machine.key around) token.lexeme (λ rest. d.leads (string key ∷ rest))
    (key-ended around c.in_ok-after.after.kind c.in_default.not-Equals c.in_default.not-Semicolon)))

pub row_value-returns-in_err-first-clause-stands : goal.row_value-returns-in_err-first-clause-stands
row_value-returns-in_err-first-clause-stands t c octets tokens whole b around f h d i =
    passed_on (Stands octets) c.in_err-first.field-0.0 c.from_residual.result c.from_residual.ensures.1
    (c.in_err-first.ensures.stands octets tokens whole f h (row_value-open d))

pub row_value-returns-in_err-value-clause-stands : goal.row_value-returns-in_err-value-clause-stands
row_value-returns-in_err-value-clause-stands t c octets tokens whole b around f h d i =
    passed_on (Stands octets) c.in_err-value.field-0.0 c.from_residual-in_err-value.result c.from_residual-in_err-value.ensures.1
    (c.in_err-value.ensures.stands octets tokens whole b around f (c.in_ok-first.ensures.read octets tokens h) (row_value-first ((first_placed c.in_ok-first.first).lexeme) d) i)

pub row_value-returns-in_err-after-clause-stands : goal.row_value-returns-in_err-after-clause-stands
row_value-returns-in_err-after-clause-stands t c octets tokens whole b around f h d i =
    let v = c.in_ok-value.ensures.built.read octets tokens (c.in_ok-first.ensures.read octets tokens h) in
    let more : Front = λ rest. (first_placed c.in_ok-first.first).lexeme ∷ v.inside rest in
    passed_on (Stands octets) c.in_err-after.field-0.0 c.from_residual-in_err-after.result c.from_residual-in_err-after.ensures.1
    (c.in_err-after.ensures.stands octets v.reads.all (λ rest. whole (more rest)) (v.reads.follow whole f) v.reads.has (row_value-after more d v.spells))

pub row_value-returns-in-Semicolon-clause-built : goal.row_value-returns-in-Semicolon-clause-built
row_value-returns-in-Semicolon-clause-built t c =
    let b = c.in_ok-value.ensures.built in
    record {
      meant = b.meant;
      means_it = b.means_it;
      taken = b.taken;
      read = λ octets tokens h.
          let v = b.read octets tokens (c.in_ok-first.ensures.read octets tokens h) in
          ended-read tokens (first_placed c.in_ok-first.first) v (located c.in_ok-after.after) (ap lexeme_of c.in-Semicolon.is) (c.in_ok-after.ensures.read octets v.reads.all v.reads.has);
    }

pub row_value-returns-clause-stands : goal.row_value-returns-clause-stands
row_value-returns-clause-stands t c octets tokens whole b around f h d i =
    let v = c.in_ok-value.ensures.built.read octets tokens (c.in_ok-first.ensures.read octets tokens h) in
    let more : Front = λ rest. (first_placed c.in_ok-first.first).lexeme ∷ v.inside rest in
    let token = located c.in_ok-after.after in
    let has = c.in_ok-after.ensures.read octets v.reads.all v.reads.has in
    c.refuse.ensures octets (v.reads.all ++ token ∷ []) has
    (expected-at v.reads.all token (λ rest. whole (more rest)) (v.reads.follow whole f) has (row_value-after more d v.spells)
    (leads-nowhere (λ rest. whole (more rest)) (Machine.after around) token.lexeme (row_value-leads more d v.spells)
    (row-ended d.table c.in_ok-after.after.kind c.in_default.not-Semicolon)))

pub rows-loop-rows-init : goal.rows-loop-rows-init
rows-loop-rows-init t c =
    record {
      shorter = omega arith;
      kept = keeps-all (objects c.args.self.now.draft);
      even = none-even c.new-rows.result c.new-rows.ensures.keys c.new-rows.ensures.values;
      built = record {
        meant = no_pairs;
        means_it = (rows-none (objects c.args.self.now.draft) c.new-rows.result c.new-rows.ensures.keys c.new-rows.ensures.values, λ key. c.new-keys.ensures key);
        taken = no-pairs-taken c.args.self.now.left c.args.levels;
        read = λ octets tokens h. no-pairs-read h;
      };
    }

pub rows-returns-in_err-first-clause-stands : goal.rows-returns-in_err-first-clause-stands
rows-returns-in_err-first-clause-stands t c octets tokens whole b a f h d i =
    let r = c.loop-rows.invariant.built.read octets tokens h in
    passed_on (Stands octets) c.in_err-first.field-0.0 c.from_residual.result c.from_residual.ensures.1
    (c.in_err-first.ensures.stands octets r.read.reads.all (λ rest. whole (r.read.inside rest)) (r.read.reads.follow whole f) r.read.reads.has
    (rows-open (row-due r.read.inside d r.read.spells r.same c.loop-rows.invariant.built.taken.valid)))

pub rows-returns-then-ends_table-clause-built : goal.rows-returns-then-ends_table-clause-built
rows-returns-then-ends_table-clause-built t c =
    let b = c.loop-rows.invariant.built in
    record {
      meant = b.meant;
      means_it = b.means_it.0;
      taken = b.taken;
      read = λ octets tokens h.
          let r = b.read octets tokens h in
          pairs-read r (first_placed c.in_ok-first.first) (table-end (first_placed c.in_ok-first.first).lexeme (sym c.ends_table.ensures ∙ c.if-ends_table.true)) (c.in_ok-first.ensures.read octets r.read.reads.all r.read.reads.has);
    }

-- the key
rows-key : (t : ℕ) (c : rows-In-Some t) → (first_placed c.in_ok-first.first).lexeme ≡ string c.in-Some.key
rows-key t c = c.in-Some.ensures

pub rows-returns-in_err-row-clause-stands : goal.rows-returns-in_err-row-clause-stands
rows-returns-in_err-row-clause-stands t c octets tokens whole b a f h d i =
    let at = (goal.at.rows-returns-in_err-row-clause-stands t c).In-Some in
    let built = c.loop-rows.invariant.built in
    let r = built.read octets tokens h in
    passed_on (Stands octets) c.in_err-row.field-0.0 c.from_residual-in_err-row.result c.from_residual-in_err-row.ensures.1
    (c.in_err-row.ensures.stands octets r.read.reads.all (first_placed c.in_ok-first.first) (λ rest. whole (r.read.inside rest)) (opened b) (Machine.in_braces a) r.rows built.meant
    (rows-key t at) (sym c.start-octet.ensures) (r.read.reads.follow whole f) (c.in_ok-first.ensures.read octets r.read.reads.all r.read.reads.has)
    (row-due r.read.inside d r.read.spells r.same built.taken.valid) (known-is c.loop-rows.keys built.meant c.in-Some.key built.means_it.1 c.in_ok-known.ensures.known)
    (rows-left i built.taken r.same))

-- the rows and one more
rows-built : (t : ℕ) (c : rows-In_ok-push t)
    → IsBuilt (λ (rows : Entries) (ps : Pairs). SpellsRows (objects c.row.new.self.draft) rows ps × HasKeysOf c.insert.new.self ps) c.push.new.self
    (λ ps. TakesPairs c.args.self.now.left c.args.levels ps c.row.new.self.left)
    (λ ps. (octets : List ℕ) (tokens : List Located) → HasRead octets tokens c.args.self.now.tokens → ReadsPairs octets tokens [] ps c.row.new.self.tokens)
rows-built t c =
    let b = c.loop-rows.invariant.built in
    let row = c.in_ok-row.ensures.built in
    let key = c.in-Some.key in
    let once : has_key key b.meant ≡ false = known-is c.loop-rows.keys b.meant key b.means_it.1 c.in_ok-known.ensures.known ∙ c.in_ok-row.ensures.once in
    let stands = put-stands key row.meant b.meant once in
    record {
      meant = put_pair key row.meant b.meant;
      means_it = (
        rows-more (objects c.loop-rows.self.draft) (objects c.row.new.self.draft) c.loop-rows.rows c.push.new.self c.in_ok-row.row c.in_ok-push.ensures.keys c.in_ok-push.ensures.values
            c.loop-rows.invariant.even c.in_ok-row.ensures.kept b.means_it.0 row.means_it stands,
        keys-more c.loop-rows.keys c.insert.new.self b.means_it.1 stands c.in_ok-known.ensures.more,
      );
      taken = pair-taken key row.meant b.meant b.taken row.taken once;
      read = λ octets tokens h.
          let r = b.read octets tokens h in
          pair-read r (row.read octets r.read.reads.all (first_placed c.in_ok-first.first) c.in-Some.ensures (c.in_ok-first.ensures.read octets r.read.reads.all r.read.reads.has)) once;
    }

pub rows-loop-rows-preserved-in_ok-push : goal.rows-loop-rows-preserved-in_ok-push
rows-loop-rows-preserved-in_ok-push t c = record {
  kept = keeps-then c.loop-rows.invariant.kept c.in_ok-row.ensures.kept;
  even = rows-even c.loop-rows.rows c.push.new.self c.in_ok-row.row c.in_ok-push.ensures.keys c.in_ok-push.ensures.values c.loop-rows.invariant.even;
  shorter = omega (arith, c.in_ok-row.ensures.shorter, c.in_ok-first.ensures.shorter, c.loop-rows.invariant.shorter);
  built = rows-built t (goal.at.rows-loop-rows-preserved-in_ok-push t c).In_ok-push;
}

pub rows-loop-rows-preserved : goal.rows-loop-rows-preserved
rows-loop-rows-preserved t c = record {
  kept = keeps-then c.loop-rows.invariant.kept c.in_ok-row.ensures.kept;
  even = rows-even c.loop-rows.rows c.push.new.self c.in_ok-row.row c.in_ok-push.ensures.keys c.in_ok-push.ensures.values c.loop-rows.invariant.even;
  shorter = omega (arith, c.in_ok-row.ensures.shorter, c.in_ok-first.ensures.shorter, c.loop-rows.invariant.shorter);
  built = rows-built t (goal.at.rows-loop-rows-preserved t c).In_ok-push;
}

pub rows-returns-in_default-clause-stands : goal.rows-returns-in_default-clause-stands
rows-returns-in_default-clause-stands t c octets tokens whole b a f h d i =
    let r = c.loop-rows.invariant.built.read octets tokens h in
    let token = first_placed c.in_ok-first.first in
    let has = c.in_ok-first.ensures.read octets r.read.reads.all r.read.reads.has in
    let due = row-due r.read.inside d r.read.spells r.same c.loop-rows.invariant.built.taken.valid in
    let none : is_string token.lexeme ≡ false = c.in_default.ensures in
    c.refuse.ensures octets (r.read.reads.all ++ token ∷ []) has
    (subst (λ x. StandsIfLexed octets (Expected x)) (sym c.start-octet.ensures)
    (expected-at r.read.reads.all token (λ rest. whole (r.read.inside rest)) (r.read.reads.follow whole f) has (rows-open due)
    (leads-nowhere (λ rest. whole (r.read.inside rest)) (Machine.rows (Machine.in_braces a)) token.lexeme due.leads
    (table-ended a token.lexeme (sym c.ends_table.ensures ∙ c.if-ends_table.false) none))))

-- a string is a value
string-built : (self new : Reader) (number : ℕ) (us : List ℕ) (levels : ℕ) (first : Located) → first.lexeme ≡ string us → SpellsIn (objects new.draft) number (scalar (text us))
    → Spends self.left 1 (2 * length us) new.left → 1 ≤ levels → AreUnits us → new.tokens ≡ self.tokens
    → IsBuilt (SpellsIn (objects new.draft)) number (λ v. Takes self.left levels v new.left)
    (λ v. (octets : List ℕ) (tokens : List Located) → HasRead octets (tokens ++ first ∷ []) self.tokens → ReadsValue octets tokens first.lexeme v new.tokens)
string-built self new number us levels first l s spent some valid same = record {
  meant = scalar (text us);
  means_it = s;
  taken = scalar-taken (text us) spent some valid;
  read = λ octets tokens h. string-read tokens first us l (same-read h same);
}

three_ok : {T E : Type 0} (r : Result T E) (P : T → Type 0) (Q R : Type 0) (S : T → Type 0) → ((x : T) → P x → Q → R → S x) → IfOk r P → OnOk r Q → OnOk r R → IfOk r S
three_ok (Ok x) P Q R S then p q r = then x p q r
three_ok (Err e) P Q R S then p q r = tt

pub value-returns-in-Plain-clause-built : goal.value-returns-in-Plain-clause-built
value-returns-in-Plain-clause-built t c =
    let first = first_placed c.args.first in
    let us = units_of c.in-Plain.token.text in
    let l : first.lexeme ≡ string us = ap (λ f. (first_placed f).lexeme) c.in-Plain.is in
    let valid : AreUnits us = rw c.in-Plain.is at c.requires in
    three_ok c.string.result _ _ _ _
    (λ number s spent some. string-built c.args.self.now c.string.new.self number us c.args.levels first l s spent some valid c.string.ensures.tokens)
    c.string.ensures.spells c.string.ensures.spent c.string.ensures.deep

pub value-returns-in-Plain-clause-stands : goal.value-returns-in-Plain-clause-stands
value-returns-in-Plain-clause-stands t c octets tokens whole b a f h d i =
    let first = first_placed c.args.first in
    let us = units_of c.in-Plain.token.text in
    let l : first.lexeme ≡ string us = ap (λ f. (first_placed f).lexeme) c.in-Plain.is in
    let start : first.start ≡ c.in-Plain.token.start = ap (λ f. (first_placed f).start) c.in-Plain.is in
    c.string.ensures.stands octets (tokens ++ first ∷ []) h
    (subst (λ x. MayRefuse octets x c.args.levels (2 * length us) c.args.self.now.left) start
    (value-refuses tokens first (string us) whole c.args.levels (2 * length us) c.args.self.now.left l f h d.at (λ rest. refl) (λ rest. omega arith) i))

pub value-returns-in-Other-clause-built : goal.value-returns-in-Other-clause-built
value-returns-in-Other-clause-built t c = rw c.in-Other.is c.token_value.ensures.built

pub value-returns-in-Other-clause-stands : goal.value-returns-in-Other-clause-stands
value-returns-in-Other-clause-stands t c = rw c.in-Other.is c.token_value.ensures.stands

pub token_value-returns-in-Text-clause-built : goal.token_value-returns-in-Text-clause-built
token_value-returns-in-Text-clause-built t c =
    let first = located c.args.first in
    let us = units_of c.of_units.result in
    let is : us ≡ c.in-Text.text = rw c.in-Text.is at (c.of_units.ensures.text ∙ c.units.ensures) in
    let l : first.lexeme ≡ string us = ap lexeme_of c.in-Text.is ∙ ap string (sym is) in
    three_ok c.string.result _ _ _ _
    (λ number s spent some. string-built c.args.self.now c.string.new.self number us c.args.levels first l s spent some c.of_units.ensures.valid c.string.ensures.tokens)
    c.string.ensures.spells c.string.ensures.spent c.string.ensures.deep

pub token_value-returns-in-Text-clause-stands : goal.token_value-returns-in-Text-clause-stands
token_value-returns-in-Text-clause-stands t c octets tokens whole b a f h d i =
    let first = located c.args.first in
    let us = units_of c.of_units.result in
    let is : us ≡ c.in-Text.text = rw c.in-Text.is at (c.of_units.ensures.text ∙ c.units.ensures) in
    let l : first.lexeme ≡ string us = ap lexeme_of c.in-Text.is ∙ ap string (sym is) in
    c.string.ensures.stands octets (tokens ++ first ∷ []) h
    (value-refuses tokens first (string us) whole c.args.levels (2 * length us) c.args.self.now.left l f h d.at (λ rest. refl) (λ rest. omega arith) i)

pub token_value-returns-in_err-charge-in-Octets-clause-stands : goal.token_value-returns-in_err-charge-in-Octets-clause-stands
token_value-returns-in_err-charge-in-Octets-clause-stands t c octets tokens whole b a f h d i =
    let seen : c.as_slice.result.now ≡ c.in-Octets.octets.items = rw c.in-Octets.is at c.as_slice.ensures.value in
    let few : c.data_payload.result ≤ length c.in-Octets.octets.items = omega (arith, c.data_payload.ensures.payload, ap length seen) in
    passed_on (Stands octets) c.in_err-charge-in-Octets.field-0.0 c.from_residual.result c.from_residual.ensures.1
    (c.in_err-charge-in-Octets.ensures.stands octets (tokens ++ located c.args.first ∷ []) h
    (value-refuses tokens (located c.args.first) (data_token c.in-Octets.octets.items) whole c.args.levels c.data_payload.result c.args.self.now.left (ap lexeme_of c.in-Octets.is) f h d.at (λ rest. refl)
    (λ rest. few) i))

pub token_value-returns-in_err-charge-in-ParenOpen-clause-stands : goal.token_value-returns-in_err-charge-in-ParenOpen-clause-stands
token_value-returns-in_err-charge-in-ParenOpen-clause-stands t c octets tokens whole b a f h d i =
    passed_on (Stands octets) c.in_err-charge-in-ParenOpen.field-0.0 c.from_residual-in_err-charge-in-ParenOpen.result c.from_residual-in_err-charge-in-ParenOpen.ensures.1
    (c.in_err-charge-in-ParenOpen.ensures.stands octets (tokens ++ located c.args.first ∷ []) h
    (value-refuses tokens (located c.args.first) paren_open whole c.args.levels 0 c.args.self.now.left (ap lexeme_of c.in-ParenOpen.is) f h d.at (λ rest. refl) (λ rest. omega arith) i))

pub token_value-returns-in_err-items-in-ParenOpen-clause-stands : goal.token_value-returns-in_err-items-in-ParenOpen-clause-stands
token_value-returns-in_err-items-in-ParenOpen-clause-stands t c octets tokens whole b a f h d i =
    let charged = c.charge-in-ParenOpen.new.self.tokens in
    let has : HasRead octets (tokens ++ located c.args.first ∷ []) charged = same-read h c.in_ok-charge-in-ParenOpen.ensures.tokens in
    let is : lexeme_of c.args.first.kind ≡ paren_open = ap lexeme_of c.in-ParenOpen.is in
    passed_on (Stands octets) c.in_err-items-in-ParenOpen.field-0.0 c.from_residual-in_err-items-in-ParenOpen.result c.from_residual-in_err-items-in-ParenOpen.ensures.1
    (c.in_err-items-in-ParenOpen.ensures.stands octets (tokens ++ located c.args.first ∷ []) (λ rest. whole (paren_open ∷ rest)) b a (before-at tokens (located c.args.first) paren_open whole is f) has
    (list-due (subst (λ x. ValueDue whole b a x) is d)) (opened-left i c.in_ok-charge-in-ParenOpen.ensures.spent c.in_ok-charge-in-ParenOpen.ensures.deep))

pub token_value-returns-in_err-charge-in-BraceOpen-clause-stands : goal.token_value-returns-in_err-charge-in-BraceOpen-clause-stands
token_value-returns-in_err-charge-in-BraceOpen-clause-stands t c octets tokens whole b a f h d i =
    passed_on (Stands octets) c.in_err-charge-in-BraceOpen.field-0.0 c.from_residual-in_err-charge-in-BraceOpen.result c.from_residual-in_err-charge-in-BraceOpen.ensures.1
    (c.in_err-charge-in-BraceOpen.ensures.stands octets (tokens ++ located c.args.first ∷ []) h
    (value-refuses tokens (located c.args.first) brace_open whole c.args.levels 0 c.args.self.now.left (ap lexeme_of c.in-BraceOpen.is) f h d.at (λ rest. refl) (λ rest. omega arith) i))

pub token_value-returns-in_err-rows-in-BraceOpen-clause-stands : goal.token_value-returns-in_err-rows-in-BraceOpen-clause-stands
token_value-returns-in_err-rows-in-BraceOpen-clause-stands t c octets tokens whole b a f h d i =
    let charged = c.charge-in-BraceOpen.new.self.tokens in
    let has : HasRead octets (tokens ++ located c.args.first ∷ []) charged = same-read h c.in_ok-charge-in-BraceOpen.ensures.tokens in
    let is : lexeme_of c.args.first.kind ≡ brace_open = ap lexeme_of c.in-BraceOpen.is in
    passed_on (Stands octets) c.in_err-rows-in-BraceOpen.field-0.0 c.from_residual-in_err-rows-in-BraceOpen.result c.from_residual-in_err-rows-in-BraceOpen.ensures.1
    (c.in_err-rows-in-BraceOpen.ensures.stands octets (tokens ++ located c.args.first ∷ []) (λ rest. whole (brace_open ∷ rest)) b a (before-at tokens (located c.args.first) brace_open whole is f) has
    (table-due (subst (λ x. ValueDue whole b a x) is d)) (opened-left i c.in_ok-charge-in-BraceOpen.ensures.spent c.in_ok-charge-in-BraceOpen.ensures.deep))

pub token_value-returns-in_ok-charge-in-Octets-clause-built : goal.token_value-returns-in_ok-charge-in-Octets-clause-built
token_value-returns-in_ok-charge-in-Octets-clause-built t c =
    let new = objects c.put_data.new.draft in
    let xs = c.in-Octets.octets in
    let seen : c.as_slice.result.now ≡ xs.items = rw c.in-Octets.is at c.as_slice.ensures.value in
    let put : c.deref.result.now ≡ xs.items = rw c.in-Octets.is at c.deref.ensures.value in
    let valid : AreOctets xs.items = subst (λ ys. AreOctets ys) seen c.data_payload.ensures.valid in
    IfOk-weaker c.put_data.result (λ number. SpellsIn new number (scalar (bytes c.deref.result.now))) _
    (λ number s. record {
      meant = scalar (bytes xs.items);
      means_it = subst (λ ys. SpellsIn new number (scalar (bytes ys))) put s;
      taken = scalar-taken (bytes xs.items) (spends-same c.in_ok-charge-in-Octets.ensures.spent (c.data_payload.ensures.payload ∙ ap length seen)) c.in_ok-charge-in-Octets.ensures.deep valid;
      read = λ octets tokens h. data-read tokens (located c.args.first) xs.items (ap lexeme_of c.in-Octets.is) (same-read h c.in_ok-charge-in-Octets.ensures.tokens);
    }) c.put_data.ensures.spells

pub token_value-returns-in_ok-charge-in-Octets-clause-kept : goal.token_value-returns-in_ok-charge-in-Octets-clause-kept
token_value-returns-in_ok-charge-in-Octets-clause-kept t c = on_ok _ c.put_data.result (keeps-from c.in_ok-charge-in-Octets.ensures.draft c.put_data.ensures.kept)

pub token_value-returns-in_ok-charge-in-Octets-clause-stands : goal.token_value-returns-in_ok-charge-in-Octets-clause-stands
token_value-returns-in_ok-charge-in-Octets-clause-stands t c octets tokens whole b a f h d i = no-memory octets c.put_data.result c.put_data.ensures.memory

pub token_value-returns-in_ok-items-in-ParenOpen-clause-built : goal.token_value-returns-in_ok-items-in-ParenOpen-clause-built
token_value-returns-in_ok-items-in-ParenOpen-clause-built t c =
    let b = c.in_ok-items-in-ParenOpen.ensures.built in
    let old = objects c.items.new.self.draft in
    IfOk-weaker c.put_list.result _ _
    (λ number s. record {
      meant = list b.meant;
      means_it = s b.meant (subst (λ xs. SpellItemsIn old xs b.meant) (sym c.deref-in-ParenOpen.ensures.value) b.means_it);
      taken = list-taken b.meant c.in_ok-charge-in-ParenOpen.ensures.spent c.in_ok-charge-in-ParenOpen.ensures.deep b.taken;
      read = λ octets tokens h.
          let has : HasRead octets (tokens ++ located c.args.first ∷ []) c.charge-in-ParenOpen.new.self.tokens = same-read h c.in_ok-charge-in-ParenOpen.ensures.tokens in
          list-read tokens (located c.args.first) (ap lexeme_of c.in-ParenOpen.is) (b.read octets (tokens ++ located c.args.first ∷ []) has);
    }) c.put_list.ensures.spells

pub token_value-returns-in_ok-items-in-ParenOpen-clause-kept : goal.token_value-returns-in_ok-items-in-ParenOpen-clause-kept
token_value-returns-in_ok-items-in-ParenOpen-clause-kept t c =
    on_ok _ c.put_list.result (keeps-then (keeps-from c.in_ok-charge-in-ParenOpen.ensures.draft c.in_ok-items-in-ParenOpen.ensures.kept) c.put_list.ensures.kept)

pub token_value-returns-in_ok-items-in-ParenOpen-clause-stands : goal.token_value-returns-in_ok-items-in-ParenOpen-clause-stands
token_value-returns-in_ok-items-in-ParenOpen-clause-stands t c octets tokens whole b a f h d i = no-memory octets c.put_list.result c.put_list.ensures.memory

pub token_value-returns-in_ok-rows-in-BraceOpen-clause-built : goal.token_value-returns-in_ok-rows-in-BraceOpen-clause-built
token_value-returns-in_ok-rows-in-BraceOpen-clause-built t c =
    let b = c.in_ok-rows-in-BraceOpen.ensures.built in
    IfOk-weaker c.put_table.result _ _
    (λ number s. record {
      meant = table b.meant;
      means_it = s b.meant b.means_it;
      taken = table-taken b.meant c.in_ok-charge-in-BraceOpen.ensures.spent c.in_ok-charge-in-BraceOpen.ensures.deep b.taken;
      read = λ octets tokens h.
          let has : HasRead octets (tokens ++ located c.args.first ∷ []) c.charge-in-BraceOpen.new.self.tokens = same-read h c.in_ok-charge-in-BraceOpen.ensures.tokens in
          pairs-table tokens (located c.args.first) (ap lexeme_of c.in-BraceOpen.is) (b.read octets (tokens ++ located c.args.first ∷ []) has) b.taken.valid;
    }) c.put_table.ensures.spells

pub token_value-returns-in_ok-rows-in-BraceOpen-clause-kept : goal.token_value-returns-in_ok-rows-in-BraceOpen-clause-kept
token_value-returns-in_ok-rows-in-BraceOpen-clause-kept t c =
    on_ok _ c.put_table.result (keeps-then (keeps-from c.in_ok-charge-in-BraceOpen.ensures.draft c.in_ok-rows-in-BraceOpen.ensures.kept) c.put_table.ensures.kept)

pub token_value-returns-in_ok-rows-in-BraceOpen-clause-stands : goal.token_value-returns-in_ok-rows-in-BraceOpen-clause-stands
token_value-returns-in_ok-rows-in-BraceOpen-clause-stands t c octets tokens whole b a f h d i = no-memory octets c.put_table.result c.put_table.ensures.memory

pub token_value-returns-in_default-clause-stands : goal.token_value-returns-in_default-clause-stands
token_value-returns-in_default-clause-stands t c octets tokens whole b a f h d i =
    let token = located c.args.first in
    let kind = c.args.first.kind in
    let n = c.in_default in
    c.refuse.ensures octets (tokens ++ token ∷ []) h
    (expected-at tokens token whole f h (value-open d (value-none kind n.not-Text n.not-Octets n.not-ParenOpen n.not-BraceOpen))
    (value-nowhere d (value-ended a kind n.not-Text n.not-Octets n.not-ParenOpen n.not-BraceOpen)))
