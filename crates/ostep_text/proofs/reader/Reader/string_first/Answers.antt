use Rattle.std.proofs.Common.{◌≡◌, ◌≤◌, List, ℕ, ◌*◌, ◌∷◌, [], length, refl, sym, ap, subst, arith}
use Rattle.plist_value.specs.Plist.{no_pairs, scalar, text}
use Rattle.plist_value.specs.declared.TheConstants.{MAX_DEPTH, MAX_PAYLOAD}
use Rattle.ostep_lex.specs.Lexeme.{Located, located, lexeme_of, text as string, equals}
use Rattle.ostep_lex.specs.Lexing.{HasTokens}
use Rattle.ostep_text.specs.Begun.{nothing, opened, with_rows, with_key}
use Rattle.ostep_text.specs.Phrase.{a_string, a_value}
use Rattle.ostep_text.specs.Stands.{Stands}
use Rattle.ostep_text.specs.Machine
use Rattle.ostep_text.specs.Reading.{HasRead, IsLeft, MayRefuse}
use Rattle.ostep_lex.proofs.Exits.{passed_on, both_ok}
use Rattle.ostep_text.proofs.Standing.{junk-at, same-read, front-refuses}
use Rattle.ostep_text.proofs.TakeSteps.{scalar-taken, spends-same}
use Rattle.ostep_text.proofs.DraftSteps.{memory-stands}
use Rattle.ostep_text.specs.Drafted.{SpellsRow}
use Rattle.plist_draft.specs.View.{objects}
use Rattle.plist_draft.specs.Encoded.{SpellsIn}
use Rattle.plist_value.specs.Texts.{units_of}
use Rattle.ostep_text.proofs.MachineLemmas.{leads-nowhere, key-ended}
use Rattle.ostep_text.proofs.ReadSteps.{row-read, alone-read}
use Rattle.ostep_text.proofs.BareSteps.{before-two, first_value-due, first_key-left, first_alone-refuses, FirstRow, first-row, lone-text}
use Rattle.ostep_text.proofs.reader.Reader.string_first.Goals as goal
use Rattle.ostep_text.proofs.reader.Reader.string_first.Goals.{In-Some, In_ok-value-in-Equals, In_ok-number-in-Semicolon}

-- the first string and the token after it are read
two-read : (c : In-Some) (octets : List ℕ) (at : Located) → HasRead octets (at ∷ []) c.args.self.now.tokens → HasRead octets (at ∷ located c.in-Some.second ∷ []) c.next.new.self
two-read c octets at h = rw c.in-Some.is at (c.in_ok-second.ensures.read octets (at ∷ []) h)

pub returns-in_err-second-clause-stands : goal.returns-in_err-second-clause-stands
returns-in_err-second-clause-stands c octets at l s h i =
    passed_on (Stands octets) c.in_err-second.field-0.0 c.from_residual.result c.from_residual.ensures.1 (c.in_err-second.ensures.stands octets (at ∷ []) h)

pub returns-in_default-clause-read : goal.returns-in_default-clause-read
returns-in_default-clause-read c octets at l s h i =
    let key = c.args.key in
    let us = units_of c.text.result in
    let is : us ≡ key = c.text.ensures.text in
    let all : HasTokens octets (at ∷ []) = rw c.in_default.is at (c.in_ok-second.ensures.read octets (at ∷ []) h) in
    both_ok c.string.result _ _ _ (λ number spelled spent.
    let fits : 2 * length key ≤ MAX_PAYLOAD = omega (arith, spent.payload_left, i.payload_left, ap length is) in
    (scalar (text key), subst (λ xs. SpellsIn (objects c.string.new.self.draft) number (scalar (text xs))) is spelled, lone-text at key l all c.text.ensures.valid fits))
    c.string.ensures.spells c.string.ensures.spent

pub returns-in_default-clause-stands : goal.returns-in_default-clause-stands
returns-in_default-clause-stands c octets at l s h i =
    let stays = rw c.in_default.is at c.in_ok-second.ensures.stays in
    let one : HasRead octets (at ∷ []) c.next.new.self = same-read h stays in
    c.string.ensures.stands octets (at ∷ []) one
    (front-refuses [] at c.args.octet c.args.key MAX_DEPTH (2 * length (units_of c.text.result)) c.args.self.now.left l s one (let is = ap length c.text.ensures.text in omega (arith, is)) i)

pub returns-in_err-first_key-in-Equals-clause-stands : goal.returns-in_err-first_key-in-Equals-clause-stands
returns-in_err-first_key-in-Equals-clause-stands c octets at l s h i =
    let two = two-read (goal.at.returns-in_err-first_key-in-Equals-clause-stands c).In-Some octets at h in
    passed_on (Stands octets) c.in_err-first_key-in-Equals.field-0.0 c.from_residual-in_err-first_key-in-Equals.result c.from_residual-in_err-first_key-in-Equals.ensures.1
    (c.in_err-first_key-in-Equals.ensures.stands octets at (located c.in-Some.second) l s two i)

pub returns-in_err-first_key-in-Semicolon-clause-stands : goal.returns-in_err-first_key-in-Semicolon-clause-stands
returns-in_err-first_key-in-Semicolon-clause-stands c octets at l s h i =
    let two = two-read (goal.at.returns-in_err-first_key-in-Semicolon-clause-stands c).In-Some octets at h in
    passed_on (Stands octets) c.in_err-first_key-in-Semicolon.field-0.0 c.from_residual-in_err-first_key-in-Semicolon.result c.from_residual-in_err-first_key-in-Semicolon.ensures.1
    (c.in_err-first_key-in-Semicolon.ensures.stands octets at (located c.in-Some.second) l s two i)

pub returns-in_err-value-in-Equals-clause-stands : goal.returns-in_err-value-in-Equals-clause-stands
returns-in_err-value-in-Equals-clause-stands c octets at l s h i =
    let second = located c.in-Some.second in
    let two = two-read (goal.at.returns-in_err-value-in-Equals-clause-stands c).In-Some octets at h in
    let keyed = c.first_key.new.self in
    let three : HasRead octets (at ∷ second ∷ []) keyed.tokens = same-read two c.in_ok-first_key-in-Equals.ensures.tokens in
    let inner = first_key-left c.args.key i c.in_ok-first_key-in-Equals.ensures.spent in
    passed_on (Stands octets) c.in_err-value-in-Equals.field-0.0 c.from_residual-in_err-value-in-Equals.result c.from_residual-in_err-value-in-Equals.ensures.1
    (c.in_err-value-in-Equals.ensures.stands octets (at ∷ second ∷ []) (λ rest. string c.args.key ∷ equals ∷ rest) (with_key c.args.key (with_rows no_pairs (opened nothing))) Machine.bare
    (before-two at second (string c.args.key) equals l (ap lexeme_of c.in-Equals.is)) three (first_value-due c.args.key) inner)

pub returns-in_err-number-in-Equals-clause-stands : goal.returns-in_err-number-in-Equals-clause-stands
returns-in_err-number-in-Equals-clause-stands c octets at l s h i =
    passed_on (Stands octets) c.in_err-number-in-Equals.field-0.0 c.from_residual-in_err-number-in-Equals.result c.from_residual-in_err-number-in-Equals.ensures.1
    (memory-stands octets c.in_err-number-in-Equals.field-0.0 c.in_err-number-in-Equals.ensures.memory)

pub returns-in_err-number-in-Semicolon-clause-stands : goal.returns-in_err-number-in-Semicolon-clause-stands
returns-in_err-number-in-Semicolon-clause-stands c octets at l s h i =
    let second = located c.in-Some.second in
    let two = two-read (goal.at.returns-in_err-number-in-Semicolon-clause-stands c).In-Some octets at h in
    let keyed = c.first_key-in-Semicolon.new.self in
    let three : HasRead octets (at ∷ second ∷ []) keyed.tokens = same-read two c.in_ok-first_key-in-Semicolon.ensures.tokens in
    let inner = first_key-left c.args.key i c.in_ok-first_key-in-Semicolon.ensures.spent in
    passed_on (Stands octets) c.in_err-number-in-Semicolon.field-0.0 c.from_residual-in_err-number-in-Semicolon.result c.from_residual-in_err-number-in-Semicolon.ensures.1
    (c.in_err-number-in-Semicolon.ensures.stands octets (at ∷ second ∷ []) three
    (subst (λ us. MayRefuse octets c.args.octet 511 (2 * length us) keyed.left) (sym c.text-in-Semicolon.ensures.text)
    (first_alone-refuses at second c.args.octet c.args.key 511 keyed.left l s (ap lexeme_of c.in-Semicolon.is) three inner)))

pub returns-in_err-charge-in_default-kind-clause-stands : goal.returns-in_err-charge-in_default-kind-clause-stands
returns-in_err-charge-in_default-kind-clause-stands c octets at l s h i =
    let second = located c.in-Some.second in
    let two = two-read (goal.at.returns-in_err-charge-in_default-kind-clause-stands c).In-Some octets at h in
    let few : c.payload.result ≤ 2 * length c.args.key = omega (arith, c.payload.ensures.payload) in
    passed_on (Stands octets) c.in_err-charge-in_default-kind.field-0.0 c.from_residual-in_err-charge-in_default-kind.result c.from_residual-in_err-charge-in_default-kind.ensures.1
    (c.in_err-charge-in_default-kind.ensures.stands octets (at ∷ second ∷ []) two
    (front-refuses (second ∷ []) at c.args.octet c.args.key MAX_DEPTH c.payload.result c.args.self.now.left l s two few i))

pub returns-in_ok-charge-in_default-kind-clause-stands : goal.returns-in_ok-charge-in_default-kind-clause-stands
returns-in_ok-charge-in_default-kind-clause-stands c octets at l s h i =
    let second = located c.in-Some.second in
    let two = two-read (goal.at.returns-in_ok-charge-in_default-kind-clause-stands c).In-Some octets at h in
    let three = same-read two c.in_ok-charge-in_default-kind.ensures.tokens in
    c.refuse.ensures octets (at ∷ second ∷ []) three
    (junk-at (at ∷ []) second (λ rest. string c.args.key ∷ rest) (λ rest. ap (λ x. x ∷ rest) l) three (λ n. cc n) (scalar (text c.args.key), a_value a_string)
    (leads-nowhere (λ rest. string c.args.key ∷ rest) Machine.lone second.lexeme (λ rest. refl)
    (key-ended Machine.bare c.in-Some.second.kind c.in_default-kind.not-Equals c.in_default-kind.not-Semicolon)))

-- the first row, with a value
row-equals : (c : In_ok-value-in-Equals) (octets : List ℕ) (at : Located) → at.lexeme ≡ string c.args.key → HasRead octets (at ∷ []) c.args.self.now.tokens
    → IsLeft c.args.self.now.left MAX_DEPTH nothing → FirstRow octets c.args.key c.in_ok-value-in-Equals.ensures.built.meant c.row_value.new.self
row-equals c octets at l h i =
    let second = located c.in-Some.second in
    let two = two-read (goal.at.In_ok-value-in-Equals c).In-Some octets at h in
    let keyed = c.in_ok-first_key-in-Equals.ensures in
    let b = c.in_ok-value-in-Equals.ensures.built in
    first-row c.args.key b.meant c.row_value.new.self i keyed.spent b.taken keyed.valid
    (row-read [] at second c.args.key l (ap lexeme_of c.in-Equals.is) (b.read octets (at ∷ second ∷ []) (same-read two keyed.tokens)))

row-spelled : (c : In_ok-value-in-Equals) → SpellsRow (objects c.row_value.new.self.draft) c.args.key (c.in_ok-number-in-Equals.number, c.in_ok-value-in-Equals.value) c.in_ok-value-in-Equals.ensures.built.meant
row-spelled c =
    (c.in_ok-value-in-Equals.ensures.kept.value c.in_ok-number-in-Equals.number (scalar (text c.args.key)) c.in_ok-number-in-Equals.ensures.spells, c.in_ok-value-in-Equals.ensures.built.means_it)

pub returns-in_ok-value-in-Equals-clause-read : goal.returns-in_ok-value-in-Equals-clause-read
returns-in_ok-value-in-Equals-clause-read c octets at l s h i =
    let b = c.in_ok-value-in-Equals.ensures.built in
    let first = row-equals (goal.at.returns-in_ok-value-in-Equals-clause-read c).In_ok-value-in-Equals octets at l h i in
    c.bare_table.ensures.read octets first.left b.meant (row-spelled (goal.at.returns-in_ok-value-in-Equals-clause-read c).In_ok-value-in-Equals) first.is_left first.taken first.row

pub returns-in_ok-value-in-Equals-clause-stands : goal.returns-in_ok-value-in-Equals-clause-stands
returns-in_ok-value-in-Equals-clause-stands c octets at l s h i =
    let b = c.in_ok-value-in-Equals.ensures.built in
    let first = row-equals (goal.at.returns-in_ok-value-in-Equals-clause-stands c).In_ok-value-in-Equals octets at l h i in
    c.bare_table.ensures.stands octets first.left b.meant (row-spelled (goal.at.returns-in_ok-value-in-Equals-clause-stands c).In_ok-value-in-Equals) first.is_left first.taken first.row

-- the first row, with its key alone
row-semicolon : (c : In_ok-number-in-Semicolon) (octets : List ℕ) (at : Located) → at.lexeme ≡ string c.args.key → HasRead octets (at ∷ []) c.args.self.now.tokens
    → IsLeft c.args.self.now.left MAX_DEPTH nothing → FirstRow octets c.args.key (scalar (text c.args.key)) c.string-in-Semicolon.new.self
row-semicolon c octets at l h i =
    let two = two-read (goal.at.In_ok-number-in-Semicolon c).In-Some octets at h in
    let keyed = c.in_ok-first_key-in-Semicolon.ensures in
    let alone = c.in_ok-number-in-Semicolon.ensures in
    first-row c.args.key (scalar (text c.args.key)) c.string-in-Semicolon.new.self i keyed.spent
    (scalar-taken (text c.args.key) (spends-same alone.spent (ap (λ us. 2 * length us) c.text-in-Semicolon.ensures.text)) alone.deep keyed.valid) keyed.valid
    (alone-read [] at (located c.in-Some.second) c.args.key l (ap lexeme_of c.in-Semicolon.is) (same-read (same-read two keyed.tokens) alone.tokens))

alone-spelled : (c : In_ok-number-in-Semicolon) → SpellsRow (objects c.string-in-Semicolon.new.self.draft) c.args.key (c.in_ok-number-in-Semicolon.number, c.in_ok-number-in-Semicolon.number) (scalar (text c.args.key))
alone-spelled c =
    let spelled = subst (λ us. SpellsIn (objects c.string-in-Semicolon.new.self.draft) c.in_ok-number-in-Semicolon.number (scalar (text us))) c.text-in-Semicolon.ensures.text c.in_ok-number-in-Semicolon.ensures.spells in
    (spelled, spelled)

pub returns-in_ok-number-in-Semicolon-clause-read : goal.returns-in_ok-number-in-Semicolon-clause-read
returns-in_ok-number-in-Semicolon-clause-read c octets at l s h i =
    let alone = (goal.at.returns-in_ok-number-in-Semicolon-clause-read c).In_ok-number-in-Semicolon in
    let first = row-semicolon alone octets at l h i in
    c.bare_table-in-Semicolon.ensures.read octets first.left (scalar (text c.args.key)) (alone-spelled alone) first.is_left first.taken first.row

pub returns-in_ok-number-in-Semicolon-clause-stands : goal.returns-in_ok-number-in-Semicolon-clause-stands
returns-in_ok-number-in-Semicolon-clause-stands c octets at l s h i =
    let alone = (goal.at.returns-in_ok-number-in-Semicolon-clause-stands c).In_ok-number-in-Semicolon in
    let first = row-semicolon alone octets at l h i in
    c.bare_table-in-Semicolon.ensures.stands octets first.left (scalar (text c.args.key)) (alone-spelled alone) first.is_left first.taken first.row
