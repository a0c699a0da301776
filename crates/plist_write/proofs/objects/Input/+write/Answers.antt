use Rattle.std.proofs.Common.{◌≡◌, ℕ, List, ◌∙◌, ◌+◌, ◌-◌, ◌/◌, ◌<◌, ◌≤◌, [], ◌++◌, length, length-append, rules, refl, sym, ap, subst, arith}
use Rattle.std.proofs.lemmas.Bool.Decides.{nat_tests}
use Rattle.std.proofs.lemmas.List.{append-nil}
use Rattle.std.proofs.lemmas.Result.{err_from_is_err_and}
use Rattle.plist_value.specs.Plist.{list, table, text, Plist}
use Rattle.plist_value.specs.Scalars.{content_of}
use Rattle.plist_value.specs.Texts.{units_of}
use Rattle.plist_value.specs.declared.TheConstants.{MAX_DEPTH}
use Rattle.plist_object.specs.Objects.{holds_scalar}
use Rattle.plist_object.specs.Places.{Holds}
use Rattle.plist_keys.proofs.KeysInTurn.{same_text}
use Rattle.plist_object.specs.Spelled.{SpellsWithin}
use Rattle.plist_object.specs.Views.{octets_of, numbers_of}
use Rattle.plist_write.specs.declared.notation.Mark.TheVariants.{EmptyList, ListStart, ListEnd, ItemEnd, EmptyTable, TableStart, TableEnd, PairEnd}
use Rattle.plist_write.specs.Notation.{Parts, last_line, text_in, items_in, pairs_in, item_in, pair_in}
use Rattle.plist_write.specs.BufferedSink.{sink_state}
use Rattle.plist_write.specs.Spelling.{SpellWithin, TableWithin, sorted_references}
use Rattle.plist_write.proofs.Going.{Emits_put, Emits_same, Emits_out}
use Rattle.plist_write.proofs.Steps.{refused, brackets_unopened, brackets_unfilled, brackets_closed}
use Rattle.plist_write.proofs.Parts.{items_joined, pairs_joined, list_empty, list_filled, table_empty, table_filled}
use Rattle.plist_write.proofs.Turns.{items_more, items_stop, items_done, pair_named, pairs_more, pairs_stop, pairs_done, pairs_within, turn_within}
use Rattle.plist_write.proofs.Within.{read_within, levels_within, items_within, table_within, value_within, scalar_seen, list_seen, table_seen}
use Rattle.plist_write.proofs.objects.Input.+write.Goals as goal

pub write_value-object_of-requires : goal.write_value-object_of-requires
write_value-object_of-requires g t c =
    read_within (octets_of c.args.self.now.file) c.args.object (MAX_DEPTH - c.args.level) c.requires.spells

pub write_value-write_list-requires : goal.write_value-write_list-requires
write_value-write_list-requires g t c κs within =
    let f = octets_of c.args.self.now.file in
    let refs = numbers_of c.in-List.items in
    let some = levels_within f c.args.object (MAX_DEPTH - c.args.level) c.requires.spells in
    let below : c.args.level < MAX_DEPTH = omega arith in
    let less : MAX_DEPTH - c.args.level - 1 ≡ MAX_DEPTH - (c.args.level + 1) = omega arith in
    let inside = items_within f c.args.object (MAX_DEPTH - c.args.level) refs c.requires.spells c.in-List.ensures.holds in
    (omega (arith, c.decreases, some), (within.0, (within.1, (below, (subst (λ (n : ℕ). SpellWithin f refs n) less inside, c.requires.ready)))))

pub write_value-write_table-requires : goal.write_value-write_table-requires
write_value-write_table-requires g t c κs within =
    let f = octets_of c.args.self.now.file in
    let keys = numbers_of c.in-Table.keys in
    let values = numbers_of c.in-Table.values in
    let some = levels_within f c.args.object (MAX_DEPTH - c.args.level) c.requires.spells in
    let below : c.args.level < MAX_DEPTH = omega arith in
    let less : MAX_DEPTH - c.args.level - 1 ≡ MAX_DEPTH - (c.args.level + 1) = omega arith in
    let inside = table_within f c.args.object (MAX_DEPTH - c.args.level) keys values c.in-Table.ensures.valid c.requires.spells c.in-Table.ensures.holds in
    (omega (arith, c.decreases, some), (within.0, (within.1, (below, (subst (λ (n : ℕ). TableWithin f keys values n) less inside, c.requires.ready)))))

pub write_value-returns-in-Scalar-clause-emits : goal.write_value-returns-in-Scalar-clause-emits
write_value-returns-in-Scalar-clause-emits g t c = λ v valid spells.
    let text = text_in g.N.Notation.parts c.args.level in
    Emits_same _ (text v) _ _ c.write_scalar.result (ap text (scalar_seen (octets_of c.args.self.now.file) c.args.object (content_of c.in-Scalar.scalar) v c.in-Scalar.ensures.holds spells)) c.write_scalar.ensures.emits

pub write_value-returns-in-List-clause-emits : goal.write_value-returns-in-List-clause-emits
write_value-returns-in-List-clause-emits g t c = λ v valid spells.
    let text = text_in g.N.Notation.parts c.args.level in
    let seen = list_seen (octets_of c.args.self.now.file) (numbers_of c.in-List.items) c.args.object v c.in-List.ensures.holds valid spells in
    Emits_same (text (list seen.items)) (text v) _ _ c.write_list.result (ap text seen.is) (c.write_list.ensures.emits seen.items seen.valid seen.spell)

pub write_value-returns-in-Table-clause-emits : goal.write_value-returns-in-Table-clause-emits
write_value-returns-in-Table-clause-emits g t c = λ v valid spells.
    let text = text_in g.N.Notation.parts c.args.level in
    let seen = table_seen (octets_of c.args.self.now.file) (numbers_of c.in-Table.keys) (numbers_of c.in-Table.values) c.args.object v c.in-Table.ensures.holds valid spells in
    Emits_same (text (table seen.pairs)) (text v) _ _ c.write_table.result (ap text seen.is) (c.write_table.ensures.emits seen.rows seen.pairs seen.spell)

pub write_list-returns-then-is_empty-clause-emits : goal.write_list-returns-then-is_empty-clause-emits
write_list-returns-then-is_empty-clause-emits g t c = λ vs valid spell.
    let parts = g.N.Notation.parts in
    let refs = numbers_of c.args.items.now in
    let none : length refs ≡ 0 = first_of (search rules, grind (arith, nat_tests)) in
    Emits_same (parts.mark_text EmptyList) (text_in parts c.args.level (list vs)) _ _ c.write_mark.result (list_empty parts c.args.level (octets_of c.args.self.now.file) refs vs none spell) c.write_mark.ensures.emits

pub write_list-returns-in_err-write_mark-clause-emits : goal.write_list-returns-in_err-write_mark-clause-emits
write_list-returns-in_err-write_mark-clause-emits g t c = λ vs valid spell.
    let parts = g.N.Notation.parts in
    let refs = numbers_of c.args.items.now in
    let some : 0 < length refs = first_of (search rules, grind (arith, nat_tests)) in
    let is = list_filled parts c.args.level (octets_of c.args.self.now.file) refs vs some spell in
    refused c.from_residual.result c.from_residual.ensures.1 (brackets_unopened (parts.mark_text ListStart) (items_in parts (c.args.level + 1) vs) (last_line parts c.args.level ListEnd) (text_in parts c.args.level (list vs)) is _ _ _ c.in_err-write_mark.ensures.emits)

pub write_list-returns-in_err-write_items-clause-emits : goal.write_list-returns-in_err-write_items-clause-emits
write_list-returns-in_err-write_items-clause-emits g t c = λ vs valid spell.
    let parts = g.N.Notation.parts in
    let refs = numbers_of c.args.items.now in
    let some : 0 < length refs = first_of (search rules, grind (arith, nat_tests)) in
    let is = list_filled parts c.args.level (octets_of c.args.self.now.file) refs vs some spell in
    refused c.from_residual-in_err-write_items.result c.from_residual-in_err-write_items.ensures.1 (brackets_unfilled (parts.mark_text ListStart) (items_in parts (c.args.level + 1) vs) (last_line parts c.args.level ListEnd) (text_in parts c.args.level (list vs)) is _ _ _ _ _ c.in_ok-write_mark.ensures.emits (c.in_err-write_items.ensures.emits vs valid spell))

pub write_list-returns-clause-emits : goal.write_list-returns-clause-emits
write_list-returns-clause-emits g t c = λ vs valid spell.
    let parts = g.N.Notation.parts in
    let refs = numbers_of c.args.items.now in
    let some : 0 < length refs = first_of (search rules, grind (arith, nat_tests)) in
    let is = list_filled parts c.args.level (octets_of c.args.self.now.file) refs vs some spell in
    brackets_closed (parts.mark_text ListStart) (items_in parts (c.args.level + 1) vs) (last_line parts c.args.level ListEnd) (text_in parts c.args.level (list vs)) is _ _ _ _ _ _ c.end_lines.result c.in_ok-write_mark.ensures.emits (c.in_ok-write_items.ensures.emits vs valid spell) c.end_lines.ensures.emits

pub write_items-loop-i-init : goal.write_items-loop-i-init
write_items-loop-i-init g t c =
    let p = sink_state g.W.Sink c.args.out.now in
    record { emits = λ vs valid spell. Emits_put [] p.waiting p (sym (append-nil p.waiting)); ready = c.requires.ready }

pub write_items-write_value-requires : goal.write_items-write_value-requires
write_items-write_value-requires g t c κs within =
    let f = octets_of c.args.self.now.file in
    let refs = numbers_of c.args.items.now in
    let below : c.loop-i.i < length refs = omega (arith, c.loop-i-test.true, c.len-i-end.ensures) in
    let one = value_within f refs (MAX_DEPTH - c.args.level) c.loop-i.i c.requires.spell below in
    (omega (arith, c.decreases), (within.0, (within.1, (subst (λ (n : ℕ). SpellsWithin f n (MAX_DEPTH - c.args.level)) (sym c.get.ensures) one, c.loop-i.invariant.ready))))

pub write_items-returns-in_err-begin_line-clause-emits : goal.write_items-returns-in_err-begin_line-clause-emits
write_items-returns-in_err-begin_line-clause-emits g t c = λ vs valid spell.
    let parts = g.N.Notation.parts in
    let refs = numbers_of c.args.items.now in
    let level = c.args.level in
    refused c.from_residual.result c.from_residual.ensures.1 (Emits_same _ _ _ _ _ (items_joined parts level vs) (items_stop (octets_of c.args.self.now.file) (item_in parts level) refs c.loop-i.i vs valid spell {T = Unit {0}} _ _ _ _ refl (omega (arith, c.loop-i-test.true, c.len-i-end.ensures)) (c.loop-i.invariant.emits vs valid spell) _ (λ v plist spells. brackets_unopened (parts.line_start level) (text_in parts level v) (parts.mark_text ItemEnd) (item_in parts level v) refl _ _ _ c.in_err-begin_line.ensures.emits)))

pub write_items-returns-in_err-write_value-clause-emits : goal.write_items-returns-in_err-write_value-clause-emits
write_items-returns-in_err-write_value-clause-emits g t c = λ vs valid spell.
    let parts = g.N.Notation.parts in
    let refs = numbers_of c.args.items.now in
    let level = c.args.level in
    refused c.from_residual-in_err-write_value.result c.from_residual-in_err-write_value.ensures.1 (Emits_same _ _ _ _ _ (items_joined parts level vs) (items_stop (octets_of c.args.self.now.file) (item_in parts level) refs c.loop-i.i vs valid spell {T = Unit {0}} c.get.result _ _ _ c.get.ensures (omega (arith, c.loop-i-test.true, c.len-i-end.ensures)) (c.loop-i.invariant.emits vs valid spell) _ (λ v plist spells. brackets_unfilled (parts.line_start level) (text_in parts level v) (parts.mark_text ItemEnd) (item_in parts level v) refl _ _ _ _ _ c.in_ok-begin_line.ensures.emits (c.in_err-write_value.ensures.emits v plist spells))))

pub write_items-returns-in_err-write_mark-clause-emits : goal.write_items-returns-in_err-write_mark-clause-emits
write_items-returns-in_err-write_mark-clause-emits g t c = λ vs valid spell.
    let parts = g.N.Notation.parts in
    let refs = numbers_of c.args.items.now in
    let level = c.args.level in
    refused c.from_residual-in_err-write_mark.result c.from_residual-in_err-write_mark.ensures.1 (Emits_same _ _ _ _ _ (items_joined parts level vs) (items_stop (octets_of c.args.self.now.file) (item_in parts level) refs c.loop-i.i vs valid spell c.get.result _ _ _ c.get.ensures (omega (arith, c.loop-i-test.true, c.len-i-end.ensures)) (c.loop-i.invariant.emits vs valid spell) _ (λ v plist spells. brackets_closed (parts.line_start level) (text_in parts level v) (parts.mark_text ItemEnd) (item_in parts level v) refl _ _ _ _ _ _ _ c.in_ok-begin_line.ensures.emits (c.in_ok-write_value.ensures.emits v plist spells) c.in_err-write_mark.ensures.emits)))

pub write_items-loop-i-preserved : goal.write_items-loop-i-preserved
write_items-loop-i-preserved g t c = record {
  emits = λ vs valid spell.
      let parts = g.N.Notation.parts in
      let refs = numbers_of c.args.items.now in
      let level = c.args.level in
      items_more (octets_of c.args.self.now.file) (item_in parts level) refs c.loop-i.i vs valid spell c.get.result _ _ _ c.get.ensures (omega (arith, c.loop-i-test.true, c.len-i-end.ensures)) (c.loop-i.invariant.emits vs valid spell) _ (λ v plist spells. brackets_closed (parts.line_start level) (text_in parts level v) (parts.mark_text ItemEnd) (item_in parts level v) refl _ _ _ _ _ _ _ c.in_ok-begin_line.ensures.emits (c.in_ok-write_value.ensures.emits v plist spells) c.in_ok-write_mark.ensures.emits);
  ready = c.in_ok-write_value.ensures.ready;
}

pub write_items-returns-clause-emits : goal.write_items-returns-clause-emits
write_items-returns-clause-emits g t c = λ vs valid spell.
    let parts = g.N.Notation.parts in
    let refs = numbers_of c.args.items.now in
    let past : length refs ≤ c.loop-i.i = omega (arith, c.loop-i-test.false, c.len-i-end.ensures) in
    Emits_same _ _ _ _ _ (items_joined parts c.args.level vs) (items_done (octets_of c.args.self.now.file) (item_in parts c.args.level) refs c.loop-i.i vs valid spell _ _ _ past (c.loop-i.invariant.emits vs valid spell))

pub write_table-returns-then-is_empty-clause-emits : goal.write_table-returns-then-is_empty-clause-emits
write_table-returns-then-is_empty-clause-emits g t c = λ rows ps spell.
    let parts = g.N.Notation.parts in
    let keys = numbers_of c.args.refs.now.keys in
    let none : length keys ≡ 0 = first_of (search rules, grind (arith, nat_tests)) in
    Emits_same (parts.mark_text EmptyTable) (text_in parts c.args.level (table ps)) _ _ c.write_mark.result (table_empty parts c.args.level (octets_of c.args.self.now.file) keys (numbers_of c.args.refs.now.values) rows ps c.requires.spell.as_many spell none) c.write_mark.ensures.emits

pub write_table-returns-in_err-grown-clause-emits : goal.write_table-returns-in_err-grown-clause-emits
write_table-returns-in_err-grown-clause-emits g t c = λ rows ps spell.
    let p = sink_state g.W.Sink c.args.out.now in
    let e = err_from_is_err_and c.from_residual.result c.from_residual.ensures.1 in
    let parts = g.N.Notation.parts in
    let keys = numbers_of c.args.refs.now.keys in
    let some : 0 < length keys = first_of (search rules, grind (arith, nat_tests)) in
    let is = ap length (table_filled parts c.args.level (octets_of c.args.self.now.file) keys (numbers_of c.args.refs.now.values) rows ps c.requires.spell.as_many spell some) in
    let long = length-append (parts.mark_text TableStart) (pairs_in parts (c.args.level + 1) ps ++ last_line parts c.args.level TableEnd) in
    let begun = g.met.N.Notation.begun in
    rw (e.1, e.2, c.in_err-grown.ensures.refused.1) (Emits_out (text_in parts c.args.level (table ps)) p.waiting p (omega (arith, is, long, begun)))

pub write_table-returns-in_err-write_mark-clause-emits : goal.write_table-returns-in_err-write_mark-clause-emits
write_table-returns-in_err-write_mark-clause-emits g t c = λ rows ps spell.
    let parts = g.N.Notation.parts in
    let keys = numbers_of c.args.refs.now.keys in
    let some : 0 < length keys = first_of (search rules, grind (arith, nat_tests)) in
    let is = table_filled parts c.args.level (octets_of c.args.self.now.file) keys (numbers_of c.args.refs.now.values) rows ps c.requires.spell.as_many spell some in
    refused c.from_residual-in_err-write_mark.result c.from_residual-in_err-write_mark.ensures.1 (brackets_unopened (parts.mark_text TableStart) (pairs_in parts (c.args.level + 1) ps) (last_line parts c.args.level TableEnd) (text_in parts c.args.level (table ps)) is _ _ _ c.in_err-write_mark.ensures.emits)

pub write_table-write_pairs-requires : goal.write_table-write_pairs-requires
write_table-write_pairs-requires g t c κs within =
    let all = c.requires.spell in
    let turn = c.deref.ensures.value ∙ (rw c.in_ok-grown.ensures.value at c.push_sorted.ensures.pushed) all.rows all.pairs all.spell ∙ ap (λ refs. refs ++ sorted_references all.rows) c.new-references.ensures.items in
    let inside = pairs_within (octets_of c.args.self.now.file) (numbers_of c.args.refs.now.keys) (numbers_of c.args.refs.now.values) _ (MAX_DEPTH - (c.args.level + 1)) all turn in
    (omega (arith, c.decreases, c.requires.below), (within.0, (within.1, (inside, c.push_sorted.ensures.ready))))

pub write_table-returns-in_err-write_pairs-clause-emits : goal.write_table-returns-in_err-write_pairs-clause-emits
write_table-returns-in_err-write_pairs-clause-emits g t c = λ rows ps spell.
    let parts = g.N.Notation.parts in
    let keys = numbers_of c.args.refs.now.keys in
    let some : 0 < length keys = first_of (search rules, grind (arith, nat_tests)) in
    let is = table_filled parts c.args.level (octets_of c.args.self.now.file) keys (numbers_of c.args.refs.now.values) rows ps c.requires.spell.as_many spell some in
    let turn = c.deref.ensures.value ∙ (rw c.in_ok-grown.ensures.value at c.push_sorted.ensures.pushed) rows ps spell ∙ ap (λ refs. refs ++ sorted_references rows) c.new-references.ensures.items in
    refused c.from_residual-in_err-write_pairs.result c.from_residual-in_err-write_pairs.ensures.1 (brackets_unfilled (parts.mark_text TableStart) (pairs_in parts (c.args.level + 1) ps) (last_line parts c.args.level TableEnd) (text_in parts c.args.level (table ps)) is _ _ _ _ _ c.in_ok-write_mark.ensures.emits (c.in_err-write_pairs.ensures.emits rows ps turn spell.valid spell.spell))

pub write_table-returns-clause-emits : goal.write_table-returns-clause-emits
write_table-returns-clause-emits g t c = λ rows ps spell.
    let parts = g.N.Notation.parts in
    let keys = numbers_of c.args.refs.now.keys in
    let some : 0 < length keys = first_of (search rules, grind (arith, nat_tests)) in
    let is = table_filled parts c.args.level (octets_of c.args.self.now.file) keys (numbers_of c.args.refs.now.values) rows ps c.requires.spell.as_many spell some in
    let turn = c.deref.ensures.value ∙ (rw c.in_ok-grown.ensures.value at c.push_sorted.ensures.pushed) rows ps spell ∙ ap (λ refs. refs ++ sorted_references rows) c.new-references.ensures.items in
    brackets_closed (parts.mark_text TableStart) (pairs_in parts (c.args.level + 1) ps) (last_line parts c.args.level TableEnd) (text_in parts c.args.level (table ps)) is _ _ _ _ _ _ c.end_lines.result c.in_ok-write_mark.ensures.emits (c.in_ok-write_pairs.ensures.emits rows ps turn spell.valid spell.spell) c.end_lines.ensures.emits

pub write_pairs-loop-i-init : goal.write_pairs-loop-i-init
write_pairs-loop-i-init g t c =
    let p = sink_state g.W.Sink c.args.out.now in
    record { emits = λ rows ps turn valid spell. Emits_put [] p.waiting p (sym (append-nil p.waiting)); ready = c.requires.ready }

-- the pair at the index, whose key was decoded, as the text of a pair
pair_is : (parts : Parts) (level : ℕ) (f : List ℕ) (key : ℕ) (seen units : List ℕ) (v : Plist) → Holds f key (holds_scalar (text seen)) → Holds f key (holds_scalar (text units)) → parts.pair_start level seen ++ (text_in parts level v ++ parts.mark_text PairEnd) ≡ pair_in parts level units v
pair_is parts level f key seen units v holds named = ap (λ us. pair_in parts level us v) (same_text f key seen units holds named)

pub write_pairs-text_of-requires : goal.write_pairs-text_of-requires
write_pairs-text_of-requires g t c =
    let all = c.requires.spell in
    pair_named (octets_of c.args.self.now.file) (pair_in g.N.Notation.parts c.args.level) c.args.references.now c.loop-i.i all.rows all.pairs all.turn all.valid all.spell c.from-key.result c.from-object.result c.from-key.ensures c.from-object.ensures c.loop-i-test.true

pub write_pairs-write_value-requires : goal.write_pairs-write_value-requires
write_pairs-write_value-requires g t c κs within =
    let f = octets_of c.args.self.now.file in
    let refs = c.args.references.now in
    let i = c.loop-i.i in
    let far : length refs / 2 + i < length refs = omega (arith, c.loop-i-test.true) in
    let one = subst (λ (n : ℕ). SpellsWithin f n (MAX_DEPTH - c.args.level)) (sym c.from-object.ensures) (turn_within f refs (MAX_DEPTH - c.args.level) (length refs / 2 + i) c.requires.spell far) in
    (omega (arith, c.decreases), (within.0, (within.1, (one, c.loop-i.invariant.ready))))

pub write_pairs-returns-in_err-begin_pair-clause-emits : goal.write_pairs-returns-in_err-begin_pair-clause-emits
write_pairs-returns-in_err-begin_pair-clause-emits g t c = λ rows ps turn valid spell.
    let parts = g.N.Notation.parts in
    let f = octets_of c.args.self.now.file in
    let level = c.args.level in
    refused c.from_residual.result c.from_residual.ensures.1 (Emits_same _ _ _ _ _ (pairs_joined parts level ps) (pairs_stop f (pair_in parts level) c.args.references.now c.loop-i.i rows ps turn valid spell c.from-key.result c.from-object.result c.from-key.ensures c.from-object.ensures c.loop-i-test.true {T = Unit {0}} _ _ _ (c.loop-i.invariant.emits rows ps turn valid spell) _ (λ units v named plist spells. brackets_unopened (parts.pair_start level (units_of c.text_of.result)) (text_in parts level v) (parts.mark_text PairEnd) (pair_in parts level units v) (pair_is parts level f c.from-key.result (units_of c.text_of.result) units v c.text_of.ensures named) _ _ _ c.in_err-begin_pair.ensures.emits)))

pub write_pairs-returns-in_err-write_value-clause-emits : goal.write_pairs-returns-in_err-write_value-clause-emits
write_pairs-returns-in_err-write_value-clause-emits g t c = λ rows ps turn valid spell.
    let parts = g.N.Notation.parts in
    let f = octets_of c.args.self.now.file in
    let level = c.args.level in
    refused c.from_residual-in_err-write_value.result c.from_residual-in_err-write_value.ensures.1 (Emits_same _ _ _ _ _ (pairs_joined parts level ps) (pairs_stop f (pair_in parts level) c.args.references.now c.loop-i.i rows ps turn valid spell c.from-key.result c.from-object.result c.from-key.ensures c.from-object.ensures c.loop-i-test.true {T = Unit {0}} _ _ _ (c.loop-i.invariant.emits rows ps turn valid spell) _ (λ units v named plist spells. brackets_unfilled (parts.pair_start level (units_of c.text_of.result)) (text_in parts level v) (parts.mark_text PairEnd) (pair_in parts level units v) (pair_is parts level f c.from-key.result (units_of c.text_of.result) units v c.text_of.ensures named) _ _ _ _ _ c.in_ok-begin_pair.ensures.emits (c.in_err-write_value.ensures.emits v plist spells))))

pub write_pairs-returns-in_err-write_mark-clause-emits : goal.write_pairs-returns-in_err-write_mark-clause-emits
write_pairs-returns-in_err-write_mark-clause-emits g t c = λ rows ps turn valid spell.
    let parts = g.N.Notation.parts in
    let f = octets_of c.args.self.now.file in
    let level = c.args.level in
    refused c.from_residual-in_err-write_mark.result c.from_residual-in_err-write_mark.ensures.1 (Emits_same _ _ _ _ _ (pairs_joined parts level ps) (pairs_stop f (pair_in parts level) c.args.references.now c.loop-i.i rows ps turn valid spell c.from-key.result c.from-object.result c.from-key.ensures c.from-object.ensures c.loop-i-test.true _ _ _ (c.loop-i.invariant.emits rows ps turn valid spell) _ (λ units v named plist spells. brackets_closed (parts.pair_start level (units_of c.text_of.result)) (text_in parts level v) (parts.mark_text PairEnd) (pair_in parts level units v) (pair_is parts level f c.from-key.result (units_of c.text_of.result) units v c.text_of.ensures named) _ _ _ _ _ _ _ c.in_ok-begin_pair.ensures.emits (c.in_ok-write_value.ensures.emits v plist spells) c.in_err-write_mark.ensures.emits)))

pub write_pairs-loop-i-preserved : goal.write_pairs-loop-i-preserved
write_pairs-loop-i-preserved g t c = record {
  emits = λ rows ps turn valid spell.
      let parts = g.N.Notation.parts in
      let f = octets_of c.args.self.now.file in
      let level = c.args.level in
      pairs_more f (pair_in parts level) c.args.references.now c.loop-i.i rows ps turn valid spell c.from-key.result c.from-object.result c.from-key.ensures c.from-object.ensures c.loop-i-test.true _ _ _ (c.loop-i.invariant.emits rows ps turn valid spell) _ (λ units v named plist spells. brackets_closed (parts.pair_start level (units_of c.text_of.result)) (text_in parts level v) (parts.mark_text PairEnd) (pair_in parts level units v) (pair_is parts level f c.from-key.result (units_of c.text_of.result) units v c.text_of.ensures named) _ _ _ _ _ _ _ c.in_ok-begin_pair.ensures.emits (c.in_ok-write_value.ensures.emits v plist spells) c.in_ok-write_mark.ensures.emits);
  ready = c.in_ok-write_value.ensures.ready;
}

pub write_pairs-returns-clause-emits : goal.write_pairs-returns-clause-emits
write_pairs-returns-clause-emits g t c = λ rows ps turn valid spell.
    let parts = g.N.Notation.parts in
    Emits_same _ _ _ _ _ (pairs_joined parts c.args.level ps) (pairs_done (octets_of c.args.self.now.file) (pair_in parts c.args.level) c.args.references.now c.loop-i.i rows ps turn valid spell _ _ _ c.loop-i-test.false (c.loop-i.invariant.emits rows ps turn valid spell))
