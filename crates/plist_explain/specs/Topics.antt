-- What can be explained, the words that name it, and what is printed.
use Rattle.std.specs.Prelude.{◌≡◌, ◌<◌, ℕ, Bool, List, [], ◌∷◌, Option, Some, None, ◌++◌, ◌||◌}
use Rattle.std.specs.Prelude.{codes, find, flat_map, if◌then◌else◌, map, option_map, unwrap_or}
use Rattle.std.specs.Borrow.{Bor}
use Rattle.std.specs.Char.{is_ascii_whitespace}
use Rattle.std.specs.Io.BufRead.{strip_last}
use Rattle.std.specs.Option.{option_or}
use Rattle.std.specs.Str.{bytes_eq, str_eq_ignore_ascii_case, str_to_ascii_lowercase}
use Rattle.std.specs.Fmt.{decimal}
use Rattle.plist_value.specs.Refusals.{name_of, number_of, report_text}
use Rattle.plist_value.specs.declared.refusals.Refusal.{Refusal}
use Rattle.plist_value.specs.declared.refusals.Report.{Report}
use Rattle.plist_explain.specs.declared.topics.Subject.{Subject}
use Rattle.plist_explain.specs.declared.topics.Subject.TheVariants as subject
use Rattle.plist_explain.specs.declared.refusals.TheConstants.{REFUSALS}
use Rattle.plist_explain.specs.declared.rules.TheConstants.{RULES}

-- a subject, its meaning, and its text
pub record Entry : Type 0 where
  pub subject : Subject
  pub meaning : List ℕ
  pub text : List ℕ

-- a row of a table
abbrev pub entry_of : Subject × Bor (List ℕ) × Bor (List ℕ) → Entry
entry_of row = record { subject = row.0; meaning = row.1.now; text = row.2.now }

-- the tables
unfoldable pub refusal_entries : List Entry
refusal_entries =
    map (λ row. record { subject = row.0; meaning = row.1.now; text = row.2.now }) REFUSALS

unfoldable pub rule_entries : List Entry
rule_entries =
    map (λ row. record { subject = row.0; meaning = row.1.now; text = row.2.now }) RULES

abbrev pub entries : List Entry
entries = refusal_entries ++ rule_entries

-- a word without the colon at its end, if it has one
abbrev pub without_colon : List ℕ → List ℕ
without_colon = strip_last 58

-- the word is the refusal's name, in any case, or its number; or `C` or `c` and the rule's number,
-- perhaps with the colon that follows them in the list
abbrev pub is_named : Subject → List ℕ → Bool
is_named (subject.Refusal refusal) word =
    str_eq_ignore_ascii_case word (name_of refusal) || bytes_eq word (decimal (number_of refusal))
is_named (subject.Rule rule) word =
    bytes_eq (without_colon word) (codes "C" ++ decimal rule)
    || bytes_eq (without_colon word) (codes "c" ++ decimal rule)

-- the first entry that a word names
abbrev pub entry_named : List ℕ → Option Entry
entry_named word = find (λ entry. is_named entry.subject word) entries

-- a word in front of others, unless it is empty
abbrev pub with_word : List ℕ → List (List ℕ) → List (List ℕ)
with_word [] words = words
with_word (c ∷ word) words = (c ∷ word) ∷ words

-- the word that a text begins with, which is empty in front of white space, and the words after it
abbrev pub cut : List ℕ → List ℕ × List (List ℕ)
cut [] = ([], [])
cut (c ∷ text) =
    if is_ascii_whitespace c then ([], with_word (cut text).0 (cut text).1)
    else (c ∷ (cut text).0, (cut text).1)

-- the words of a text, which ASCII white space separates
abbrev pub words : List ℕ → List (List ℕ)
words text = with_word (cut text).0 (cut text).1

abbrev pub first_of : List (List ℕ) → Option (List ℕ)
first_of [] = None
first_of (word ∷ _) = Some word

-- the word before what a printed line reports
abbrev pub is_mark : List ℕ → Bool
is_mark word = bytes_eq word (codes "refused") || bytes_eq word (codes "broken")

-- the word after the last mark that has one
abbrev pub reported : List (List ℕ) → Option (List ℕ)
reported [] = None
reported (word ∷ words) =
    option_or (reported words) (if is_mark word then first_of words else None)

-- the word that names the subject: what a printed line reports, or else the first word
abbrev pub word_in : List ℕ → List ℕ
word_in text = unwrap_or (option_or (reported (words text)) (first_of (words text))) []

-- `14 DuplicateKey`, or `C5`
abbrev pub label : Subject → List ℕ
label (subject.Refusal refusal) = decimal (number_of refusal) ++ (codes " " ++ name_of refusal)
label (subject.Rule rule) = codes "C" ++ decimal rule

-- an entry in one line
abbrev pub line_of : Entry → List ℕ
line_of entry = label entry.subject ++ (codes ": " ++ (entry.meaning ++ codes "\n"))

-- an entry in full: its line, an empty line, and its text
abbrev pub explained : Entry → List ℕ
explained entry =
    label entry.subject
    ++ (codes ": " ++ (entry.meaning ++ (codes "\n\n" ++ (entry.text ++ codes "\n"))))

-- what is printed for a text, by the word in it
abbrev pub explanation_of : List ℕ → Option (List ℕ)
explanation_of text = option_map explained (entry_named (word_in text))

-- all entries, one line each
abbrev pub all_lines : List ℕ
all_lines = flat_map line_of entries

-- the subject that the word in a text names
abbrev pub subject_named : List ℕ → Option Subject
subject_named text = option_map (λ entry. entry.subject) (entry_named (word_in text))

-- the text names the subject
abbrev pub Names : List ℕ → Subject → Type 0
Names text named = subject_named text ≡ Some named

-- each refusal is named by its name, its name in lower case, and its number
abbrev pub ExplainsRefusals : Type 0
ExplainsRefusals = (refusal : Refusal) → Names (name_of refusal) (subject.Refusal refusal)
    × Names (str_to_ascii_lowercase (name_of refusal)) (subject.Refusal refusal)
    × Names (decimal (number_of refusal)) (subject.Refusal refusal)

-- each rule is named by C0 to C7, and by c0 to c7
abbrev pub ExplainsRules : Type 0
ExplainsRules = (rule : ℕ) → rule < 8 → Names (codes "C" ++ decimal rule) (subject.Rule rule)
    × Names (codes "c" ++ decimal rule) (subject.Rule rule)

-- each line of the list names its subject
abbrev pub ExplainsLines : Type 0
ExplainsLines =
    map (λ entry. subject_named (line_of entry)) entries ≡ map (λ entry. Some entry.subject) entries

-- the line that is printed for a refusal, with any path or without one, names that refusal
abbrev pub ExplainsReports : Type 0
ExplainsReports = (path : List ℕ) (report : Report)
    → Names (path ++ (codes ": refused " ++ report_text report)) (subject.Refusal report.0)
    × Names (codes "refused " ++ report_text report) (subject.Refusal report.0)

-- the line that `check` prints for a broken rule, with any path or without one, names that rule
abbrev pub ExplainsVerdicts : Type 0
ExplainsVerdicts = (path : List ℕ) (rule object : ℕ) → rule < 8
    → let place = decimal rule ++ (codes " at object " ++ decimal object) in
    Names (path ++ (codes ": broken C" ++ place)) (subject.Rule rule)
    × Names (codes "broken C" ++ place) (subject.Rule rule)
