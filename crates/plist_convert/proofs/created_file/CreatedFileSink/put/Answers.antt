use Rattle.std.proofs.Common.{arith, rules, Some, ◌≡◌, ◌∙◌, true}
use Rattle.std.specs.Prelude.{◌<◌, length}
use Rattle.std.proofs.lemmas.Bool.Decides.{nat_tests}
use Rattle.plist_convert.specs.Opens.{is_begun}
use Rattle.plist_convert.proofs.Created.{begun_after, same_emptied}
use Rattle.plist_convert.proofs.Limits.{filled_after, filled_same, kept_begun, kept_within, other_kind, unknown_before, unneeded, within_same}
use Rattle.plist_convert.proofs.created_file.CreatedFileSink.put.Goals as goal

pub invariant_of-self-in-Err : goal.invariant_of-self-in-Err
invariant_of-self-in-Err g c =
    let old = c.args.self.now in
    let some : 0 < length c.args.piece.now = first_of (search rules, grind (arith, nat_tests)) in
    let begun : is_begun g.K.KnownTarget.files (Some (g.O.Writer.Write.contents c.in-Some.created.writer)) ≡ true = rw c.in-Some.is at old.begun in
    let keeps = c.in-Err.ensures.octets in
    record {
      known = old.known;
      placed = λ x is.
          let same : record { path = c.in-Some.created.path; writer = c.write_some.new.writer } ≡ x = cc in
          rw (← same) (old.placed c.in-Some.created c.in-Some.is);
      begun = kept_begun _ _ _ begun keeps;
      emptied = old.emptied;
      same = λ uncreated. absurd cc;
      limited = old.limited;
      within = kept_within _ _ _ _ begun (rw c.in-Some.is at old.within) keeps;
      full = λ _ no. filled_after _ _ _ _ _ _ _ c.in-Err.error old.emptied old.limited begun keeps (c.in-Err.ensures.full some)
          (other_kind c.is_out_of_memory-self.result c.is_out_of_memory-self.ensures no);
      memory = λ unknown. unneeded c.is_out_of_memory-self.result c.is_out_of_memory-self.ensures (c.in-Err.ensures.memory unknown);
    }

pub invariant_of-self-in-Ok-begin : goal.invariant_of-self-in-Ok-begin
invariant_of-self-in-Ok-begin g c =
    let old = c.args.self.now in
    let none : old.failures ≡ 0 = omega (arith, c.if-self-gt0.false) in
    let same = old.same c.in-None.is none in
    let has = c.in-Ok-begin.ensures in
    record {
      known = old.known;
      placed = λ x is. let same_file : c.in-Ok-begin.begun.0 ≡ x = cc in rw (← same_file) (has.path ∙ old.known);
      begun = begun_after _ _ _ _ _ same has.written has.some has.within;
      emptied = same_emptied _ _ _ _ same (rw old.known at c.begin.ensures.emptied);
      same = λ uncreated. absurd cc;
      limited = c.begin.ensures.limit ∙ old.limited;
      within = within_same _ _ _ _ _ same old.limited has.fits;
      full = λ failed. absurd (omega (arith, failed));
      memory = λ unknown. old.memory (unknown_before _ _ _ c.begin.ensures.emptied unknown);
    }

pub invariant_of-self-in-Err-begin : goal.invariant_of-self-in-Err-begin
invariant_of-self-in-Err-begin g c =
    let old = c.args.self.now in
    let some : 0 < length c.args.piece.now = first_of (search rules, grind (arith, nat_tests)) in
    let none : old.failures ≡ 0 = omega (arith, c.if-self-gt0.false) in
    let same = old.same c.in-None.is none in
    record {
      known = old.known;
      placed = old.placed;
      begun = old.begun;
      emptied = same_emptied _ _ _ _ same (rw old.known at c.begin.ensures.emptied);
      same = λ uncreated failed. absurd (omega (arith, failed));
      limited = c.begin.ensures.limit ∙ old.limited;
      within = old.within;
      full = λ _ no. rw c.in-None.is (filled_same _ _ _ _ c.in-Err-begin.error same old.limited (c.in-Err-begin.ensures.full some)
          (other_kind c.is_out_of_memory-self-in-Err-begin.result c.is_out_of_memory-self-in-Err-begin.ensures no));
      memory = λ unknown. unneeded c.is_out_of_memory-self-in-Err-begin.result c.is_out_of_memory-self-in-Err-begin.ensures (c.in-Err-begin.ensures.memory unknown);
    }
