-- Objects encode whatever objects with the same contents encode.
use Rattle.std.proofs.Common.{◌≡◌, ℕ, ◌<◌, List, [], ◌∷◌, ◌++◌, length, get_or, Some, refl, ap, ◌∙◌, arith, length-append}
use Rattle.std.proofs.lemmas.List.{get_or_append_left}
use Rattle.std.proofs.lemmas.Option.{slice_get_within, get_or_from_slice_get, slice_get-get_or}
use Rattle.plist_value.specs.Plist.{text, Plist, scalar, list, table, Items, no_items, item, Pairs, no_pairs, pair}
use Rattle.plist_object.specs.Objects.{Content, holds_scalar}
use Rattle.plist_draft.specs.Encoded.{SpellsBy, SpellItemsBy, SpellPairsBy, HasContent}
use Rattle.plist_draft.specs.Laws.{AppendingKeeps}

-- the first description of each object implies the second
module _ (HasContent_old HasContent_new : ℕ → Content → Type 0) (encoded : (i : ℕ) (held : Content) → HasContent_old i held → HasContent_new i held) where
  mutual
    pub SpellsBy-encoded : (i : ℕ) (v : Plist) → SpellsBy HasContent_old i v → SpellsBy HasContent_new i v
    SpellsBy-encoded i (scalar s) h = encoded i (holds_scalar s) h
    SpellsBy-encoded i (list vs) h = (h.0, (encoded i _ h.1.0, SpellItemsBy-encoded h.0 vs h.1.1))
    SpellsBy-encoded i (table ps) h =
        (h.0, (h.1.0, (h.1.1.0, (encoded i _ h.1.1.1.0, (h.1.1.1.1.0, SpellPairsBy-encoded h.1.1.0 ps h.1.1.1.1.1)))))

    pub SpellItemsBy-encoded : (refs : List ℕ) (vs : Items) → SpellItemsBy HasContent_old refs vs → SpellItemsBy HasContent_new refs vs
    SpellItemsBy-encoded refs no_items h = h
    SpellItemsBy-encoded [] (item v vs) h = absurd h
    SpellItemsBy-encoded (i ∷ refs) (item v vs) h = (SpellsBy-encoded i v h.0, SpellItemsBy-encoded refs vs h.1)

    pub SpellPairsBy-encoded : (rows : List (ℕ × ℕ)) (ps : Pairs) → SpellPairsBy HasContent_old rows ps → SpellPairsBy HasContent_new rows ps
    SpellPairsBy-encoded rows no_pairs h = h
    SpellPairsBy-encoded [] (pair key v ps) h = absurd h
    SpellPairsBy-encoded (row ∷ rows) (pair key v ps) h =
        (encoded row.0 (holds_scalar (text key)) h.0, SpellsBy-encoded row.1 v h.1, SpellPairsBy-encoded rows ps h.2)

pub HasContent-append : (helds more : List Content) (i : ℕ) (held : Content) → HasContent helds i held → HasContent (helds ++ more) i held
HasContent-append helds more i held h =
    let within : i < length helds = slice_get_within helds i held h in
    let longer : i < length (helds ++ more) = omega (arith, length-append helds more) in
    let same : get_or (helds ++ more) i held ≡ held = get_or_append_left helds more held i within ∙ get_or_from_slice_get helds i held held h in
    slice_get-get_or (helds ++ more) i held longer ∙ ap Some same

pub appending_keeps : AppendingKeeps
appending_keeps helds more =
    let encoded = HasContent-append helds more in
    record {
      value = SpellsBy-encoded (HasContent helds) (HasContent (helds ++ more)) encoded;
      items = SpellItemsBy-encoded (HasContent helds) (HasContent (helds ++ more)) encoded;
      pairs = SpellPairsBy-encoded (HasContent helds) (HasContent (helds ++ more)) encoded;
    }

-- the appended object is the last
pub HasContent-last : (helds : List Content) (held : Content) → HasContent (helds ++ (held ∷ [])) (length helds) held
HasContent-last [] held = refl
HasContent-last (first ∷ helds) held = HasContent-last helds held
