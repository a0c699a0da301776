-- The lines that are printed for refusals and for broken rules name what they report.
use Rattle.std.proofs.Common.{ap, append_assoc, arith, refl, suc, sym, List, None, Option, Some, [], ◌∷◌, ◌++◌, ◌∙◌, ◌≡◌, ◌<◌, ℕ}
use Rattle.std.specs.Prelude.{codes, if◌then◌else◌, option_map, unwrap_or}
use Rattle.std.specs.Fmt.{decimal, digits}
use Rattle.std.specs.Option.{option_or}
use Rattle.plist_value.specs.Refusals.{name_of, number_of, report_text}
use Rattle.plist_value.specs.declared.refusals.Place.{Place}
use Rattle.plist_value.specs.declared.refusals.Place.TheVariants.{Nowhere, Object, Octet, After}
use Rattle.plist_value.specs.declared.refusals.Refusal.{Refusal}
use Rattle.plist_value.specs.declared.refusals.Refusal.TheVariants.{TooShort}
use Rattle.plist_explain.specs.declared.topics.Subject.{Subject}
use Rattle.plist_explain.specs.declared.topics.Subject.TheVariants as subject
use Rattle.plist_explain.specs.Topics.{ExplainsReports, ExplainsVerdicts, entry_named, first_of, is_mark, refusal_entries, reported, rule_entries, word_in, words}
use Rattle.plist_explain.proofs.Numbers.{quiet_before, quiet_number}
use Rattle.plist_explain.proofs.Words.{words_before}

-- a report after any words
behind : (front ws : List (List ℕ)) (word : List ℕ) → reported ws ≡ Some word → reported (front ++ ws) ≡ Some word
behind [] ws word e = e
behind (w ∷ front) ws word e = ap (λ r. option_or r (if is_mark w then first_of (front ++ ws) else None)) (behind front ws word e)

-- the word of a line, and of the line behind a path
alone : (line word : List ℕ) → reported (words line) ≡ Some word → word_in line ≡ word
alone line word e = ap (λ r. unwrap_or (option_or r (first_of (words line))) []) e

at_path : (path line word : List ℕ) → reported (words line) ≡ Some word → word_in (path ++ (58 ∷ (32 ∷ line))) ≡ word
at_path path line word e =
    let front = path ++ (58 ∷ []) in
    ap word_in (sym (append_assoc path (58 ∷ []) (32 ∷ line)))
    ∙ ap (λ ws. unwrap_or (option_or (reported ws) (first_of ws)) []) (words_before front 32 line refl)
    ∙ ap (λ r. unwrap_or (option_or r (first_of (words front ++ words line))) []) (behind (words front) (words line) word e)

-- no mark is in the place of a report
object_quiet : (n : ℕ) → reported (words (codes "at object " ++ decimal n)) ≡ None
object_quiet n = rw (quiet_number n) refl

octet_quiet : (n : ℕ) → reported (words (codes "at octet " ++ decimal n)) ≡ None
octet_quiet n = rw (quiet_number n) refl

after_quiet : (n : ℕ) → reported (words (codes "after " ++ (decimal n ++ codes " octets"))) ≡ None
after_quiet n = rw (quiet_before n (codes " octets") refl refl) refl

-- the number of a refusal, without a place and with one
refused_nowhere : (refusal : Refusal) → reported (words (codes "refused " ++ (decimal (number_of refusal) ++ (32 ∷ (name_of refusal ++ []))))) ≡ Some (decimal (number_of refusal))
unfolding digits
refused_nowhere TooShort = refl
refused_nowhere _ = refl

refused_at : (refusal : Refusal) (rest : List ℕ) → reported (words rest) ≡ None
    → reported (words (codes "refused " ++ (decimal (number_of refusal) ++ (32 ∷ (name_of refusal ++ (32 ∷ rest)))))) ≡ Some (decimal (number_of refusal))
unfolding digits
refused_at TooShort rest none = rw none refl
refused_at _ rest none = rw none refl

refused : (refusal : Refusal) (place : Place)
    → reported (words (codes "refused " ++ report_text (record { 0 = refusal; 1 = place }))) ≡ Some (decimal (number_of refusal))
refused refusal Nowhere = refused_nowhere refusal
refused refusal (Object n) = refused_at refusal (codes "at object " ++ decimal n) (object_quiet n)
refused refusal (Octet n) = refused_at refusal (codes "at octet " ++ decimal n) (octet_quiet n)
refused refusal (After n) = refused_at refusal (codes "after " ++ (decimal n ++ codes " octets")) (after_quiet n)

abbrev subject_of : List ℕ → Option Subject
subject_of word = option_map (λ entry. entry.subject) (entry_named word)

refusal_named : (refusal : Refusal) → subject_of (decimal (number_of refusal)) ≡ Some (subject.Refusal refusal)
unfolding digits refusal_entries rule_entries
refusal_named TooShort = refl
refusal_named _ = refl

pub explains_reports : ExplainsReports
explains_reports path report =
    let line = codes "refused " ++ report_text report in
    let number = decimal (number_of report.0) in
    let found = refused report.0 report.1 in (
      ap subject_of (at_path path line number found) ∙ refusal_named report.0,
      ap subject_of (alone line number found) ∙ refusal_named report.0,
    )

-- a broken rule, at any object
broken_at : (rule : ℕ) (rest : List ℕ) → rule < 8 → reported (words rest) ≡ None
    → reported (words (codes "broken C" ++ (decimal rule ++ (32 ∷ rest)))) ≡ Some (codes "C" ++ decimal rule)
unfolding digits
broken_at (suc (suc (suc (suc (suc (suc (suc (suc rule)))))))) rest below none = absurd (omega (arith, below))
broken_at _ rest below none = rw none refl

rule_named : (rule : ℕ) → rule < 8 → subject_of (codes "C" ++ decimal rule) ≡ Some (subject.Rule rule)
unfolding digits refusal_entries rule_entries
rule_named (suc (suc (suc (suc (suc (suc (suc (suc rule)))))))) below = absurd (omega (arith, below))
rule_named _ below = refl

pub explains_verdicts : ExplainsVerdicts
explains_verdicts path rule object below =
    let line = codes "broken C" ++ (decimal rule ++ (codes " at object " ++ decimal object)) in
    let name = codes "C" ++ decimal rule in
    let found = broken_at rule (codes "at object " ++ decimal object) below (object_quiet object) in (
      ap subject_of (at_path path line name found) ∙ rule_named rule below,
      ap subject_of (alone line name found) ∙ rule_named rule below,
    )
