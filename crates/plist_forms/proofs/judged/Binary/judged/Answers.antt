use Rattle.std.proofs.Common.{◌≡◌, ◌∙◌, ap, subst, sym, List, ℕ}
use Rattle.plist_object.specs.Spelled.{IsBinary}
use Rattle.plist_object.specs.Views.{octets_of}
use Rattle.plist_forms.specs.Accepted.{IsAccepted}
use Rattle.plist_forms.specs.Fault.{fault_for}
use Rattle.plist_forms.proofs.Accepting.{as_binary, as_text}
use Rattle.plist_forms.proofs.Judging.{encoded_writable}
use Rattle.plist_forms.proofs.Refusing.{binary_refused, refused_as}
use Rattle.plist_forms.proofs.judged.Binary.judged.Goals as goal

pub returns-in_err-judge_file-in-Input-clause-refused : goal.returns-in_err-judge_file-in-Input-clause-refused
returns-in_err-judge_file-in-Input-clause-refused g c = λ input read.
    let fault = c.in_err-judge_file-in-Input.field-0.0 in
    let owned = rw c.in-Input.is at read in
    let same : c.as_slice.result.now ≡ input = c.as_slice.ensures ∙ owned.1 in
    let stands = rw same at c.in_err-judge_file-in-Input.ensures.stands in
    let none = rw same at c.in_err-judge_file-in-Input.ensures.refused in
    refused_as input (fault_for fault) c.from_residual.result c.from_residual.ensures.1 (binary_refused input owned.0 fault stands none)

pub returns-in_ok-judge_file-in-Input-clause-encodes : goal.returns-in_ok-judge_file-in-Input-clause-encodes
returns-in_ok-judge_file-in-Input-clause-encodes g c = λ input read.
    let owned = rw c.in-Input.is at read in
    let given : c.as_slice.result.now ≡ input = c.as_slice.ensures ∙ owned.1 in
    let same = c.in_ok-judge_file-in-Input.ensures.file in
    let found = rw given at c.in_ok-judge_file-in-Input.ensures.ok in
    let file = same ∙ given in
    record {
      value = found.0;
      accepted = as_binary input found.0 owned.0 found.1;
      binary = subst (λ (os : List ℕ). IsBinary os found.0) (sym file) found.1;
      told = λ v is. c.in_ok-judge_file-in-Input.ensures.writable v (subst (λ (os : List ℕ). IsBinary os v) same is);
    }

pub returns-in-Draft-clause-encodes : goal.returns-in-Draft-clause-encodes
returns-in-Draft-clause-encodes g c = λ input read.
    let drafted = rw c.in-Draft.is at read in
    let same : octets_of c.of_draft.result.file ≡ c.in-Draft.draft.items =
    ap octets_of c.of_draft.ensures.file ∙ c.layout.ensures ∙ c.as_slice-in-Draft.ensures.value in
    let accepted : IsAccepted input drafted.1.0 = as_text input drafted.1.0 drafted.0 drafted.1.1.0 in
    record {
      value = drafted.1.0;
      accepted = accepted;
      binary = subst (λ (os : List ℕ). IsBinary os drafted.1.0) (sym same) drafted.1.1.1;
      told = λ v is.
          let binary = subst (λ (os : List ℕ). IsBinary os v) same is in
          encoded_writable input c.in-Draft.draft.items drafted.0 drafted.1.0 accepted drafted.1.1.1 v binary ∙ sym c.of_draft.ensures.writable;
    }

pub returns-in-Draft-clause-ready : goal.returns-in-Draft-clause-ready
returns-in-Draft-clause-ready g c = c.of_draft.ensures.ready _
