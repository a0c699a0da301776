-- Storing in a file that is created at its first write, and then closed.
use Rattle.std.proofs.Common.{ap, arith, refl, sym, inl, inr, Err, List, None, Ok, Option, Result, Some, [], ◌∷◌, ◌++◌, ℕ, ◌≡◌, ◌∙◌, ◌⊎◌}
use Rattle.std.specs.Prelude.{◌≢◌, ◌<◌, Bool, IfSome, cond, false, length, option_map, take, true}
use Rattle.std.specs.Option.{ForSome}
use Rattle.std.specs.Str.{bytes_eq}
use Rattle.std.specs.Io.KnownBytes.{Appends}
use Rattle.std.proofs.lemmas.List.{length-take-le}
use Rattle.std.proofs.lemmas.Slice.Eq.{bytes_eq-Decides}
use Rattle.plist_write.specs.Canonical.{canon}
use Rattle.plist_write.specs.Sending.{IsBlamed, IsWritten, sent_of}
use Rattle.plist_write.proofs.Going.{less_within}
use Rattle.plist_write.specs.declared.faults.WriteFault.{WriteFault}
use Rattle.plist_write.specs.declared.faults.WriteFault.TheVariants as write
use Rattle.plist_forms.specs.Fault.{write_fault_for}
use Rattle.plist_forms.specs.Output.{IsOutput, IsOutputFault}
use Rattle.plist_forms.specs.Sent.{answer_of}
use Rattle.plist_forms.specs.Transfer.{Writes}
use Rattle.plist_forms.specs.declared.faults.Fault.{Fault}
use Rattle.plist_forms.specs.declared.faults.Fault.TheVariants.{OutOfMemory, ReadFailed, WriteFailed}
use Rattle.plist_forms.specs.declared.forms.Form.{Form}
use Rattle.plist_forms.specs.declared.forms.Form.TheVariants.{Binary1, OpenStep}
use Rattle.plist_value.specs.Writable.{is_writable}
use Rattle.ostep_text.specs.Written.{written}
use Rattle.plist_convert.specs.Files.{CountsFailure, FileName, Files, HoldsFront, IsStored, SameBeside, SameFiles, Stores, Turns}
use Rattle.plist_convert.specs.FileDisk.{result_of}
use Rattle.plist_convert.specs.Opens.{IsUntouched, MayEmpty, Settles, held_by, is_begun, taken_by, written_of}
use Rattle.plist_convert.specs.declared.opens.Created.{Created}
use Rattle.plist_convert.proofs.FilesBefore.{same_trans}

-- no output is empty
ends_some : (xs : List ℕ) (y : ℕ) → xs ++ (y ∷ []) ≢ []
ends_some [] y none = absurd cc
ends_some (x ∷ xs) y none = absurd cc

chosen : (b : Bool) (xs ys : List ℕ) → cond b (Some xs) None ≡ Some ys → xs ≡ ys
chosen true xs ys is = cc
chosen false xs ys is = absurd cc

output_some : (form : Form) (octets output : List ℕ) → IsOutput form octets output → output ≢ []
unfolding canon
output_some Binary1 octets output of none = absurd (let is : Some (canon of.value) ≡ Some [] = rw none at of.written in cc)
output_some OpenStep octets output of none =
    ends_some (written of.value) 10 (chosen (is_writable of.value) _ _ of.written ∙ none)

output_long : (xs : List ℕ) → xs ≢ [] → 0 < length xs
output_long [] some = absurd (some refl)
output_long (x ∷ xs) some = omega arith

-- a file that may only have been emptied is what it was or empty
abbrev IsWasOrEmpty : Option (List ℕ) → Option (List ℕ) → Type 0
IsWasOrEmpty old new = (new ≡ old) ⊎ (new ≡ Some [])

was_or_empty : (old new : Option (List ℕ)) → (new ≢ old → new ≡ Some []) → IsWasOrEmpty old new
was_or_empty None None may = inl refl
was_or_empty None (Some ys) may = inr (may (λ same. absurd cc))
was_or_empty (Some xs) None may = inr (may (λ same. absurd cc))
was_or_empty (Some xs) (Some ys) may = decided (bytes_eq ys xs) refl where
  decided : (b : Bool) → bytes_eq ys xs ≡ b → IsWasOrEmpty (Some xs) (Some ys)
  decided true is = inl (ap Some ((bytes_eq-Decides ys xs).0 is))
  decided false is = inr (may (λ same.
      let equal : ys ≡ xs = cc in
      let yes : bytes_eq ys xs ≡ true = (bytes_eq-Decides ys xs).1 equal in
      absurd cc))

-- at most this file is emptied, and then no file changes
pub emptied_same : (path : FileName) (f m n : Option Files) → MayEmpty path f m → SameFiles m n → MayEmpty path f n
emptied_same path None m n may same = tt
emptied_same path (Some old) None n may same = absurd may
emptied_same path (Some old) (Some mid) None may same = absurd same
emptied_same path (Some old) (Some mid) (Some new) may same =
    (λ differs. same path ∙ may.0 (λ is. differs (same path ∙ is)), λ other beside. same other ∙ may.1 other beside)

-- the path has these bytes, or if there are none, what it had; every other file is what it was
abbrev pub Leaves : FileName → Option (List ℕ) → Option Files → Option Files → Type 0
Leaves path taken None after = Unit {0}
Leaves path taken (Some old) None = ⊥
Leaves path None (Some old) (Some new) = ⊥
Leaves path (Some taken) (Some old) (Some new) =
    ((new path ≡ Some taken) ⊎ ((taken ≡ []) × (new path ≡ old path)))
    × ((other : FileName) → other ≢ path → new other ≡ old other)

-- so it is if the file was closed
pub settled : {W : Type 0} (writes : W → Option (List ℕ)) (path : FileName) (files middle rest : Option Files) (made : Option (Created W))
    → ForSome made (λ file. file.path.now ≡ path) → is_begun files (option_map (written_of writes) made) ≡ true → MayEmpty path files middle
    → Settles writes made middle rest → Leaves path (taken_by writes files made) files rest
settled writes path None middle rest made there begun may settles = tt
settled writes path (Some old) None rest made there begun may settles = absurd may
settled writes path (Some old) (Some mid) None None there begun may same = absurd same
settled writes path (Some old) (Some mid) None (Some file) there begun may puts = absurd puts
settled writes path (Some old) (Some mid) (Some new) None there begun may same = (had (was_or_empty (old path) (mid path) may.0), λ other beside. same other ∙ may.1 other beside) where
  had : IsWasOrEmpty (old path) (mid path) → (new path ≡ Some []) ⊎ (◌≡◌ {A = List ℕ} [] [] × (new path ≡ old path))
  had (inl is) = inr (refl, same path ∙ is)
  had (inr empty) = inl (same path ∙ empty)
settled writes path (Some old) (Some mid) (Some new) (Some file) there begun may puts =
    has (writes file.writer) begun (rw (there file refl) at puts) where
      has : (contents : Option (List ℕ)) → is_begun (Some old) (Some contents) ≡ true
          → (new path ≡ contents) × ((other : FileName) → other ≢ path → new other ≡ mid other) → Leaves path contents (Some old) (Some new)
      has None begun puts = absurd (let no = begun in cc)
      has (Some octets) begun puts = (inl puts.0, λ other beside. puts.1 other beside ∙ may.1 other beside)

-- no file changes if none is closed
pub unsettled : {W : Type 0} (writes : W → Option (List ℕ)) (middle rest : Option Files) (made : Option (Created W))
    → Settles writes made middle rest → made ≡ None → SameFiles middle rest
unsettled writes middle rest made settles none = rw none at settles

-- if nothing was written, the file was not created
pub unmade : {W : Type 0} (writes : W → Option (List ℕ)) (files : Option Files) (made : Option (Created W))
    → is_begun files (option_map (written_of writes) made) ≡ true → taken_by writes files made ≡ held_by files None → IfSome files (λ _. made ≡ None)
unmade writes None made begun nothing = tt
unmade writes (Some at) None begun nothing = refl
unmade writes (Some at) (Some file) begun nothing = absurd (empty (writes file.writer) begun nothing) where
  empty : (contents : Option (List ℕ)) → is_begun (Some at) (Some contents) ≡ true → contents ≡ Some [] → ⊥
  empty None begun nothing = absurd (let no = begun in cc)
  empty (Some []) begun nothing = absurd (let no = begun in cc)
  empty (Some (x ∷ xs)) begun nothing = absurd cc

-- no file changes if nothing was written and no write failed
pub unchanged : {W : Type 0} (writes : W → Option (List ℕ)) (files middle rest : Option Files) (made : Option (Created W)) (failures : ℕ)
    → is_begun files (option_map (written_of writes) made) ≡ true → IsUntouched made failures files middle
    → (made ≡ None → SameFiles middle rest) → taken_by writes files made ≡ held_by files None → failures ≡ 0 → SameFiles files rest
unchanged writes None middle rest made failures begun untouched same nothing none = tt
unchanged writes (Some old) middle rest made failures begun untouched same nothing none =
    let uncreated : made ≡ None = unmade writes (Some old) made begun nothing in
    same_trans (Some old) middle rest (untouched uncreated none) (same uncreated)

-- the first bytes of an output are at the path
fronted : (path : FileName) (files rest : Option Files) (taken : Option (List ℕ)) (output : List ℕ) (n : ℕ) → n < length output
    → Leaves path taken files rest → Appends (held_by files None) taken (take n output) → HoldsFront files rest path output n
fronted path None rest taken output n short leaves appends = tt
fronted path (Some old) (Some new) (Some taken) output n short (inl is, others) appends = inr (is ∙ ap Some appends)
fronted path (Some old) (Some new) (Some taken) output n short (inr same, others) appends =
    let none : [] ≡ take n output = sym same.0 ∙ appends in
    inl (sym (ap length none ∙ length-take-le n output (less_within n (length output) short)), same.1)
fronted path (Some old) (Some new) None output n short leaves appends = absurd leaves
fronted path (Some old) None taken output n short leaves appends = absurd leaves

-- all of it is
wholly : (path : FileName) (files rest : Option Files) (taken : Option (List ℕ)) (output : List ℕ) → output ≢ [] → Leaves path taken files rest
    → Appends (held_by files None) taken output → Turns files rest (λ old new. new path ≡ Some output)
wholly path None rest taken output some leaves appends = tt
wholly path (Some old) (Some new) (Some taken) output some (inl is, others) appends = is ∙ ap Some appends
wholly path (Some old) (Some new) (Some taken) output some (inr same, others) appends = absurd (some (sym appends ∙ same.0))
wholly path (Some old) (Some new) None output some leaves appends = absurd leaves
wholly path (Some old) None taken output some leaves appends = absurd leaves

beside : (path : FileName) (files rest : Option Files) (taken : Option (List ℕ)) → Leaves path taken files rest → SameBeside path files rest
beside path None rest taken leaves = tt
beside path (Some old) (Some new) (Some taken) leaves = leaves.1
beside path (Some old) (Some new) None leaves = absurd leaves
beside path (Some old) None taken leaves = absurd leaves

-- a file that may only have been emptied, after out of memory
emptied : (path : FileName) (files rest : Option Files) (before after : ℕ) (output : List ℕ) → MayEmpty path files rest → 0 < length output
    → after ≡ before → IsStored files rest before after path output (Err (write.OutOfMemory 0))
emptied path files rest before after output may short unfailed = record {
  others = others files rest may;
  count = tt;
  whole = tt;
  within = short;
  front = (front files rest may, unfailed);
} where
  others : (files rest : Option Files) → MayEmpty path files rest → SameBeside path files rest
  others None rest may = tt
  others (Some old) None may = absurd may
  others (Some old) (Some new) may = may.1

  front : (files rest : Option Files) → MayEmpty path files rest → HoldsFront files rest path output 0
  front None rest may = tt
  front (Some old) None may = absurd may
  front (Some old) (Some new) may = elim (was_or_empty (old path) (new path) may.0) [
    | inl is ↦ inl (refl, is)
    | inr empty ↦ inr empty
  ]

module _ (form : Form) (octets : List ℕ) (path : FileName) (files rest : Option Files) (before after : ℕ) where
  -- the bytes are refused
  unstored : (fault : Fault) (needs_memory : Bool) → IsOutputFault form octets fault → SameFiles files rest
      → CountsFailure before after (result_of (Err fault) needs_memory)
      → Stores form octets files rest before after path (result_of (Err fault) needs_memory)
  unstored (WriteFailed sent) needs_memory (inl refused) kept counts = absurd refused.stands
  unstored (WriteFailed sent) needs_memory (inr none) kept counts = absurd (let is = none.is in cc)
  unstored ReadFailed needs_memory (inl refused) kept counts = absurd refused.stands
  unstored ReadFailed needs_memory (inr none) kept counts = absurd (let is = none.is in cc)
  unstored fault needs_memory cause kept counts =
      inl (record { fault = fault; is = refl; cause = cause; kept = kept; unfailed = counts })

  -- the output is cut
  cut : (output : List ℕ) (taken : Option (List ℕ)) (failures : ℕ) (fault told : WriteFault) → IsOutput form octets output
      → Leaves path taken files rest → IsWritten output (held_by files None) taken 0 failures (Err fault) → sent_of told ≡ sent_of fault
      → IsBlamed told before after → Stores form octets files rest before after path (Err (write_fault_for told))
  cut output taken failures fault told of leaves written same blamed = inr (record {
    output = output;
    of = of;
    sent = Err told;
    is = refl;
    stored = record {
      others = beside path files rest taken leaves;
      count = tt;
      whole = tt;
      within = rw same written.within;
      front = (rw same (fronted path files rest taken output (sent_of fault) written.within leaves written.front.0), blamed);
    };
  })

  -- the output is sent
  sent : (output : List ℕ) (taken : Option (List ℕ)) (failures : ℕ) (result : Result ℕ WriteFault) (needs_memory : Bool)
      → IsOutput form octets output → Leaves path taken files rest
      → IsWritten output (held_by files None) taken 0 failures result → CountsFailure before after (result_of (answer_of result) needs_memory)
      → Stores form octets files rest before after path (result_of (answer_of result) needs_memory)
  sent output taken failures (Ok n) needs_memory of leaves written counts = inr (record {
    output = output;
    of = of;
    sent = Ok n;
    is = refl;
    stored = record {
      others = beside path files rest taken leaves;
      count = (written.count, counts);
      whole = wholly path files rest taken output (output_some form octets output of) leaves written.whole.0;
      within = tt;
      front = tt;
    };
  })
  sent output taken failures (Err (write.WriteFailed n)) true of leaves written counts =
      cut output taken failures (write.WriteFailed n) (write.OutOfMemory n) of leaves written refl counts
  sent output taken failures (Err (write.WriteFailed n)) false of leaves written counts =
      cut output taken failures (write.WriteFailed n) (write.WriteFailed n) of leaves written refl counts
  sent output taken failures (Err (write.OutOfMemory n)) needs_memory of leaves written counts =
      cut output taken failures (write.OutOfMemory n) (write.OutOfMemory n) of leaves written refl counts

  pub closed : (taken : Option (List ℕ)) (failures : ℕ) (result : Result ℕ Fault) (needs_memory : Bool)
      → Leaves path taken files rest → (taken ≡ held_by files None → failures ≡ 0 → SameFiles files rest)
      → Writes form octets (held_by files None) taken 0 failures result → CountsFailure before after (result_of result needs_memory)
      → Stores form octets files rest before after path (result_of result needs_memory)
  closed taken failures result needs_memory leaves same (inl unsent) counts =
      rw unsent.is (unstored unsent.fault needs_memory unsent.cause (same unsent.nothing unsent.unfailed) (rw unsent.is at counts))
  closed taken failures result needs_memory leaves same (inr goes) counts =
      rw goes.is (sent goes.output taken failures goes.sent needs_memory goes.of leaves goes.written (rw goes.is at counts))

  -- out of memory to close the file
  pub unclosed : (taken : Option (List ℕ)) (failures : ℕ) (result : Result ℕ Fault) → MayEmpty path files rest
      → (taken ≡ held_by files None → failures ≡ 0 → SameFiles files rest) → Writes form octets (held_by files None) taken 0 failures result
      → after ≡ before → Stores form octets files rest before after path (Err (OutOfMemory 0))
  unclosed taken failures result may same (inl unsent) unfailed =
      unstored (OutOfMemory 0) true (inl (record { stands = refl; none = λ other v accepted. other refl })) (same unsent.nothing unsent.unfailed) unfailed
  unclosed taken failures result may same (inr goes) unfailed =
      let short = output_long goes.output (output_some form octets goes.output goes.of) in
      inr (record {
        output = goes.output;
        of = goes.of;
        sent = Err (write.OutOfMemory 0);
        is = refl;
        stored = emptied path files rest before after goes.output may short unfailed;
      })

  -- the files at the end are these
  pub ending_with : (seen : Option Files) (result : Result ℕ Fault) → seen ≡ rest → Stores form octets files rest before after path result
      → Stores form octets files seen before after path result
  ending_with seen result same stores = rw same stores
