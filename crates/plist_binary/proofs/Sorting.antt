-- The keys of a dictionary as they are sorted.
use Rattle.std.proofs.Common.{◌≡◌, ℕ, List, [], length, arith, get_or, slice_index, sym, ap, subst, ◌∙◌}
use Rattle.std.specs.List.{IsDistinct, range_with_len}
use Rattle.std.specs.List.Sorted.{IsPermutation}
use Rattle.std.proofs.lemmas.Cmp.{nat_list_cmp_total, eq_by_cmp_equiv}
use Rattle.std.proofs.lemmas.List.FromFn.{fill_by_all}
use Rattle.std.proofs.lemmas.List.Sorted.{IsPermutation-map, IsPermutation-sym}
use Rattle.std.proofs.lemmas.Map.Keys.{IsDistinct-IsPermutation}
use Rattle.plist_value.specs.declared.budget.Budget.{Budget}
use Rattle.plist_keys.specs.Order.{Ascend, IsInOrder, NameTexts, strings_at}
use Rattle.plist_object.specs.Places.{units_in}
use Rattle.plist_value.specs.Plist.{text}
use Rattle.plist_object.specs.Objects.{holds_scalar}
use Rattle.plist_object.specs.Places.{Holds, what_holds}
use Rattle.plist_object.specs.Spelled.{SpellItems}
use Rattle.plist_keys.proofs.Ascents.{same_key, distinct_from_ascent, strict_from_distinct}
use Rattle.plist_binary.specs.declared.fault.BinaryFault.TheVariants.{DuplicateKey}
use Rattle.plist_binary.specs.Paths.{EndsPath, HasKeys}
use Rattle.plist_binary.specs.Readings.{ReadsItems, RefusesKeys, texts}
use Rattle.plist_binary.proofs.TableSteps.{length-texts, key_held, twice}

-- the strings at all positions are those read
strings_read : (f refs : List ℕ) (us : List (List ℕ)) → SpellItems f refs (texts us) → us ≡ strings_at f refs (range_with_len 0 (length refs))
strings_read f refs us spell =
    let long = length-texts f refs us spell in
    fill_by_all (λ place. units_in (what_holds f (slice_index refs place))) us (length refs) [] (omega arith) (λ k h. let holds = key_held f refs us k (omega arith) spell in sym (ap units_in holds.reads))

-- the strings in order
strings_moved : (f refs places : List ℕ) (us : List (List ℕ)) → SpellItems f refs (texts us) → IsInOrder f refs places → IsPermutation us (strings_at f refs places)
strings_moved f refs places us spell order =
    subst (λ (ts : List (List ℕ)). IsPermutation ts (strings_at f refs places)) (sym (strings_read f refs us spell)) (IsPermutation-map (λ place. units_in (what_holds f (slice_index refs place))) (range_with_len 0 (length refs)) places order.moved)

-- strings that were read, as the keys that are sorted
pub NameTexts-read : (f refs : List ℕ) (us : List (List ℕ)) → SpellItems f refs (texts us) → NameTexts f refs
NameTexts-read f refs us spell k h =
    let long = length-texts f refs us spell in
    (get_or us k [], key_held f refs us k (omega arith) spell)

-- distinct strings ascend in their order
pub ascend_distinct : (f refs places : List ℕ) (us : List (List ℕ)) → SpellItems f refs (texts us) → IsInOrder f refs places → IsDistinct same_key us → Ascend f refs places
ascend_distinct f refs places us spell order distinct =
    let moved = strings_moved f refs places us spell order in
    strict_from_distinct (strings_at f refs places) order.sorted (IsDistinct-IsPermutation same_key (eq_by_cmp_equiv nat_list_cmp_total).symm us (strings_at f refs places) moved distinct)

-- strings that ascend in their order are distinct
pub distinct_ascend : (f refs places : List ℕ) (us : List (List ℕ)) → SpellItems f refs (texts us) → IsInOrder f refs places → Ascend f refs places → IsDistinct same_key us
distinct_ascend f refs places us spell order ascend =
    let strings = strings_at f refs places in
    IsDistinct-IsPermutation same_key (eq_by_cmp_equiv nat_list_cmp_total).symm strings us (IsPermutation-sym us strings (strings_moved f refs places us spell order)) (distinct_from_ascent strings ascend)

-- references point to strings in only one way
same_texts : (f refs : List ℕ) (us ws : List (List ℕ)) → SpellItems f refs (texts us) → SpellItems f refs (texts ws) → us ≡ ws
same_texts f refs us ws first second = strings_read f refs us first ∙ sym (strings_read f refs ws second)

-- two of the keys are equal
pub RefusesKeys-twice : (f keys : List ℕ) (owner levels : ℕ) (before left : Budget) (us : List (List ℕ)) → EndsPath f owner → HasKeys f owner keys → ReadsItems f keys levels before (texts us) left → (IsDistinct same_key us → ⊥) → RefusesKeys f keys levels before (DuplicateKey owner)
RefusesKeys-twice f keys owner levels before left us ends has read not_distinct =
    let found = twice us not_distinct in
    record {
      stands = record {
        ends = ends;
        keys = keys;
        values = has.values;
        holds = has.holds;
        first = found.first;
        second = found.second;
        apart = found.apart;
        within = omega (arith, found.within, length-texts f keys us read.spell);
        units = get_or us found.second [];
        first_reads = subst (λ (u : List ℕ). Holds f (slice_index keys found.first) (holds_scalar (text u))) found.same (key_held f keys us found.first (omega (arith, found.apart, found.within)) read.spell);
        second_reads = key_held f keys us found.second found.within read.spell;
      };
      none = λ _ ws valid spell distinct deep affords. not_distinct (subst (λ (l : List (List ℕ)). IsDistinct same_key l) (same_texts f keys ws us spell read.spell) distinct);
    }
