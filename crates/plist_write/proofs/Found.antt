-- The content of the positions of a tree can be encoded, and its bytes are those of the canonical
-- file's objects.
use Rattle.std.proofs.Common.{◌≡◌, ℕ, suc, ◌+◌, ◌^◌, ◌<◌, eqb, cond, true, false, List, [], ◌∷◌, length, map, refl, arith}
use Rattle.std.proofs.lemmas.List.{length-map}
use Rattle.std.proofs.lemmas.List.Elements.{All-map}
use Rattle.plist_value.specs.Plist.{Plist, scalar, list, table}
use Rattle.plist_object.specs.Shortest.{spelling_of}
use Rattle.plist_write.specs.Tree.{key_texts, item_positions, key_positions, value_positions}
use Rattle.plist_write.specs.Sharing.{first_position, kept_from}
use Rattle.plist_write.specs.Canonical.{object_octets}
use Rattle.plist_write.specs.Found.{held_at}
use Rattle.plist_write.specs.Pieces.{AreSpellable, CanSpell, CanSpellAll}
use Rattle.plist_write.proofs.Sizes.{length-item_positions, item_count-nodes, key_count-nodes}
use Rattle.plist_write.proofs.Sound.{IsSound, EachSound, IsSmall-sound}
use Rattle.plist_write.proofs.Trees.{length-key_positions, length-value_positions}

spellable_refs : (number : ℕ → ℕ) (width : ℕ) → ((k : ℕ) → number k < 256 ^ width) → (positions : List ℕ) → length positions < 2 ^ 32 → AreSpellable width (map number positions)
spellable_refs number width below positions few = record {
  few = rw length-map few;
  fit = All-map (λ r. r < 256 ^ width) number positions (λ i x h. below _);
}

spellable_at : (number : ℕ → ℕ) (width : ℕ) → ((k : ℕ) → number k < 256 ^ width) → (k : ℕ) (v : Plist) → IsSound v → CanSpell width (held_at number k v)
spellable_at number width below k (scalar s) h = IsSmall-sound s h.payload_fits
spellable_at number width below k (list vs) h =
    spellable_refs number width below (item_positions (suc k) vs) (omega (arith, length-item_positions (suc k) vs, item_count-nodes vs, h.nodes_fit))
spellable_at number width below k (table ps) h =
    let keys = length-key_positions (suc k) ps in
    let values = length-value_positions (suc k + length (key_texts ps)) ps in (
      rw (length-map, length-map, keys, values) refl,
      spellable_refs number width below (key_positions (suc k) ps) (omega (arith, key_count-nodes ps, h.nodes_fit)),
      spellable_refs number width below (value_positions (suc k + length (key_texts ps)) ps) (omega (arith, key_count-nodes ps, h.nodes_fit)),
    )

pub octets-held : (number : ℕ → ℕ) (width k : ℕ) (v : Plist) → spelling_of width (held_at number k v) ≡ object_octets number width k v
octets-held number width k (scalar s) = refl
octets-held number width k _ = refl

pub octets-all : (number : ℕ → ℕ) (width : ℕ) (kept : List (ℕ × Plist)) → map (spelling_of width) (map (λ p. held_at number p.0 p.1) kept) ≡ map (λ p. object_octets number width p.0 p.1) kept
octets-all number width [] = refl
octets-all number width (p ∷ kept) =
    let first = octets-held number width p.0 p.1 in let others = octets-all number width kept in cc

pub spellable_all : (all : List Plist) (number : ℕ → ℕ) (width : ℕ) → ((k : ℕ) → number k < 256 ^ width) → (k : ℕ) (rest : List Plist) → EachSound rest → CanSpellAll width (map (λ p. held_at number p.0 p.1) (kept_from all k rest))
spellable_all all number width below k [] h = tt
spellable_all all number width below k (v ∷ rest) h =
    let others = spellable_all all number width below (suc k) rest h.1 in
    elim (eqb (first_position all k v) k) as (λ t. CanSpellAll width (map (λ p. held_at number p.0 p.1) (cond t ((k, v) ∷ kept_from all (suc k) rest) (kept_from all (suc k) rest)))) [
      | true ↦ (spellable_at number width below k v h.0, others)
      | false ↦ others
    ]
