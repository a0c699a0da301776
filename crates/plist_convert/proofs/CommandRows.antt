-- Examples of command lines: the request of some arguments, and the kinds of error of others.
use Rattle.std.proofs.Common.{ℕ, ap, codes, false, map, refl, true, List, Option, None, Some, [], ◌∷◌, ◌∙◌, ◌≡◌}
use Rattle.std.specs.Borrow.{Bor}
use Rattle.clap.specs.Words.{Kinds, Text, fault_of, subcommand_of}
use Rattle.clap.proofs.OnLiterals.{clap_on_literals}
use Rattle.clap.specs.declared.error.ErrorKind.TheVariants as kind
use Rattle.plist_convert.specs.Asked.{Asked, Checks, Compares, Converts, Explains, Lints, asked_at, asked_unparsed}
use Rattle.plist_convert.specs.CommandLine.{NamesForms, program}
use Rattle.plist_convert.specs.Reading.{IsParse}
use Rattle.plist_forms.specs.declared.forms.Form.TheVariants.{Binary1}
use Rattle.plist_convert.proofs.CommandLine.{forms_at}

named_forms : (forms : Bor (List (Bor Text))) → NamesForms forms
    → (p : ℕ × ℕ) × (q : ℕ × ℕ) × (r : ℕ × ℕ) × (forms ≡ forms_at p q r)
named_forms forms named = go forms.now refl named
  where
    go : (ns : List (Bor Text)) → forms.now ≡ ns → map (λ name. name.now) ns ≡ codes "binary1" ∷ (codes "openstep" ∷ [])
        → (p : ℕ × ℕ) × (q : ℕ × ℕ) × (r : ℕ × ℕ) × (forms ≡ forms_at p q r)
    go [] is e = let no : [] ≡ codes "binary1" ∷ (codes "openstep" ∷ []) = e in cc
    go (x ∷ []) is e = let no : x.now ∷ [] ≡ codes "binary1" ∷ (codes "openstep" ∷ []) = e in cc
    go (x ∷ y ∷ []) is e =
        let both : x.now ∷ (y.now ∷ []) ≡ codes "binary1" ∷ (codes "openstep" ∷ []) = e in
        let first : x.now ≡ codes "binary1" = cc in
        let second : y.now ≡ codes "openstep" = cc in
        let listed : forms ≡ record { ref_ptr = forms.ref_ptr; now = x ∷ (y ∷ []) } = ap (λ ns. record { ref_ptr = forms.ref_ptr; now = ns }) is in (
          forms.ref_ptr,
          x.ref_ptr,
          y.ref_ptr,
          listed
              ∙ ap (λ t. record { ref_ptr = forms.ref_ptr; now = record { ref_ptr = x.ref_ptr; now = t } ∷ (y ∷ []) }) first
              ∙ ap (λ t. record { ref_ptr = forms.ref_ptr; now = record { ref_ptr = x.ref_ptr; now = codes "binary1" } ∷ (record { ref_ptr = y.ref_ptr; now = t } ∷ []) }) second,
        )
    go (x ∷ y ∷ z ∷ ns) is e =
        let no : x.now ∷ (y.now ∷ (z.now ∷ map (λ name. name.now) ns)) ≡ codes "binary1" ∷ (codes "openstep" ∷ []) = e in
        cc

-- the arguments are taken, and are this request
abbrev pub AsksFor : List Text → Asked → Type 0
AsksFor words it = (kinds : Kinds) (asked : Option Asked) → IsParse words kinds asked → (kinds ≡ []) × (asked ≡ Some it)

-- the arguments are refused with an error of one of these kinds
abbrev pub FailsAs : List Text → Kinds → Type 0
FailsAs words expected = (kinds : Kinds) (asked : Option Asked) → IsParse words kinds asked → kinds ≡ expected

fails : (words : List Text) (expected : Kinds) → ((p q r : ℕ × ℕ) → fault_of (program (forms_at p q r)) words ≡ expected)
    → FailsAs words expected
fails words expected each kinds asked parse =
    let names = named_forms parse.program.forms parse.program.named in
    parse.kinds_are ∙ ap (λ a. fault_of a words) parse.program.is
    ∙ ap (λ forms. fault_of (program forms) words) names.3 ∙ each names.0 names.1 names.2

asks : (words : List Text) (it : Asked) → ((p q r : ℕ × ℕ) → fault_of (program (forms_at p q r)) words ≡ [])
    → ((p q r : ℕ × ℕ) → asked_at (subcommand_of (program (forms_at p q r)) words) ≡ Some it) → AsksFor words it
asks words it taken each kinds asked parse =
    let names = named_forms parse.program.forms parse.program.named in (
      fails words [] taken kinds asked parse,
      parse.asked_is ∙ ap (λ a. asked_at (subcommand_of a words)) parse.program.is
          ∙ ap (λ forms. asked_at (subcommand_of (program forms) words)) names.3 ∙ each names.0 names.1 names.2,
    )

help : FailsAs (codes "plistconv" ∷ (codes "--help" ∷ [])) (kind.DisplayHelp ∷ [])
unfolding clap_on_literals
help = fails _ _ (λ p q r. refl)

no-such-word : FailsAs (codes "plistconv" ∷ (codes "turn" ∷ (codes "a" ∷ []))) (kind.UnknownArgument ∷ (kind.InvalidSubcommand ∷ []))
unfolding clap_on_literals
no-such-word = fails _ _ (λ p q r. refl)

no-out : FailsAs (codes "plistconv" ∷ (codes "convert" ∷ (codes "binary1" ∷ (codes "a" ∷ [])))) (kind.MissingRequiredArgument ∷ [])
unfolding clap_on_literals
no-out = fails _ _ (λ p q r. refl)

no-subcommand : FailsAs (codes "plistconv" ∷ (codes "--" ∷ [])) (kind.MissingSubcommand ∷ [])
unfolding clap_on_literals
no-subcommand = fails _ _ (λ p q r. refl)

to-binary : AsksFor (codes "plistconv" ∷ (codes "convert" ∷ (codes "binary1" ∷ (codes "a" ∷ (codes "b" ∷ []))))) (Converts Binary1 (codes "a") (codes "b"))
unfolding clap_on_literals
to-binary = asks _ _ (λ p q r. refl) (λ p q r. refl)

compares : AsksFor (codes "plistconv" ∷ (codes "same" ∷ (codes "a" ∷ (codes "b" ∷ [])))) (Compares (codes "a") (codes "b"))
unfolding clap_on_literals
compares = asks _ _ (λ p q r. refl) (λ p q r. refl)

a-path-behind-two-lines : AsksFor (codes "plistconv" ∷ (codes "check" ∷ (codes "--" ∷ (codes "-x" ∷ [])))) (Checks false (codes "-x" ∷ []))
unfolding clap_on_literals
a-path-behind-two-lines = asks _ _ (λ p q r. refl) (λ p q r. refl)

paths-in-order : AsksFor (codes "plistconv" ∷ (codes "lint" ∷ (codes "b" ∷ (codes "a" ∷ (codes "b" ∷ []))))) (Lints (codes "b" ∷ (codes "a" ∷ (codes "b" ∷ []))))
unfolding clap_on_literals
paths-in-order = asks _ _ (λ p q r. refl) (λ p q r. refl)

paths-before-and-behind-two-lines : AsksFor (codes "plistconv" ∷ (codes "check" ∷ (codes "a" ∷ (codes "--" ∷ (codes "-b" ∷ (codes "--" ∷ [])))))) (Checks false (codes "a" ∷ (codes "-b" ∷ (codes "--" ∷ []))))
unfolding clap_on_literals
paths-before-and-behind-two-lines = asks _ _ (λ p q r. refl) (λ p q r. refl)

with-filename : AsksFor (codes "plistconv" ∷ (codes "check" ∷ (codes "--with-filename" ∷ (codes "a" ∷ [])))) (Checks true (codes "a" ∷ []))
unfolding clap_on_literals
with-filename = asks _ _ (λ p q r. refl) (λ p q r. refl)

with-filename-last : AsksFor (codes "plistconv" ∷ (codes "check" ∷ (codes "a" ∷ (codes "b" ∷ (codes "--with-filename" ∷ []))))) (Checks true (codes "a" ∷ (codes "b" ∷ [])))
unfolding clap_on_literals
with-filename-last = asks _ _ (λ p q r. refl) (λ p q r. refl)

no-path : FailsAs (codes "plistconv" ∷ (codes "check" ∷ [])) (kind.MissingRequiredArgument ∷ [])
unfolding clap_on_literals
no-path = fails _ _ (λ p q r. refl)

a-number-explained : AsksFor (codes "plistconv" ∷ (codes "explain" ∷ (codes "14" ∷ []))) (Explains (Some (codes "14")))
unfolding clap_on_literals
a-number-explained = asks _ _ (λ p q r. refl) (λ p q r. refl)

a-refusal-explained : AsksFor (codes "plistconv" ∷ (codes "explain" ∷ (codes "14" ∷ (codes "DuplicateKey" ∷ [])))) (Explains (Some (codes "14")))
unfolding clap_on_literals
a-refusal-explained = asks _ _ (λ p q r. refl) (λ p q r. refl)

all-explained : AsksFor (codes "plistconv" ∷ (codes "explain" ∷ [])) (Explains None)
unfolding clap_on_literals
all-explained = asks _ _ (λ p q r. refl) (λ p q r. refl)

-- lines that begin with a dash
a-line-explained : asked_unparsed (codes "plistconv" ∷ (codes "explain" ∷ (codes "-: refused 1 TooShort" ∷ []))) ≡ Some (Explains (Some (codes "-: refused 1 TooShort")))
a-line-explained = refl

no-line : asked_unparsed (codes "plistconv" ∷ (codes "explain" ∷ (codes "--help" ∷ []))) ≡ None
no-line = refl

another-command : asked_unparsed (codes "plistconv" ∷ (codes "lint" ∷ (codes "-: refused 1 TooShort" ∷ []))) ≡ None
another-command = refl
