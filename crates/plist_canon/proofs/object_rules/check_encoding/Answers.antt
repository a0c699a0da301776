use Rattle.std.proofs.Common.{◌≡◌, ◌∙◌, inl, refl}
use Rattle.plist_object.specs.Places.{place_of}
use Rattle.plist_object.specs.Views.{held_of, octets_of}
use Rattle.plist_canon.specs.Rules.{breaks_c3, breaks_c4}
use Rattle.plist_object.proofs.Readable.{Holds-reads}
use Rattle.plist_keys.proofs.KeysInTurn.{refuted}
use Rattle.plist_canon.proofs.Checks.{not-Adjoins, span-offset}
use Rattle.plist_canon.proofs.Occupied.{Holds-inside, begins-shortest}
use Rattle.plist_canon.proofs.Firsts.{not-Follows}
use Rattle.plist_canon.proofs.object_rules.check_encoding.Goals as goal

pub returns-then-read-offset-clause-err : goal.returns-then-read-offset-clause-err
returns-then-read-offset-clause-err c =
    let f = octets_of c.args.input.now.file in
    let read = c.args.read.now in
    rw c.at.ensures
    (breaks_c3 c.args.i c.requires.holds.listed (not-Adjoins f c.args.i c.args.offset read.start read.end c.requires.before c.requires.span c.if-read-offset.true))

pub slice_bounds-begins_canonically-count : goal.slice_bounds-begins_canonically-count
slice_bounds-begins_canonically-count c =
    let f = octets_of c.args.input.now.file in
    let read = c.args.read.now in
    let held = held_of read.object in
    let starts : place_of f c.args.i ≡ c.args.offset = span-offset f c.args.i read.start read.end (Holds-reads f c.args.i held c.requires.holds) c.requires.span ∙ c.if-read-offset.false in
    Holds-inside f c.args.i c.args.offset c.args.input.now.objects.now held c.args.input.now.file.laid.trailed c.requires.holds starts c.args.input.now.cut

pub slice_bounds-begins_canonically-start : goal.slice_bounds-begins_canonically-start
slice_bounds-begins_canonically-start c =
    let f = octets_of c.args.input.now.file in
    let read = c.args.read.now in
    let held = held_of read.object in
    let starts : place_of f c.args.i ≡ c.args.offset = span-offset f c.args.i read.start read.end (Holds-reads f c.args.i held c.requires.holds) c.requires.span ∙ c.if-read-offset.false in
    Holds-inside f c.args.i c.args.offset c.args.input.now.objects.now held c.args.input.now.file.laid.trailed c.requires.holds starts c.args.input.now.cut

pub returns-then-not-begins_canonically-clause-err : goal.returns-then-not-begins_canonically-clause-err
returns-then-not-begins_canonically-clause-err c =
    let f = octets_of c.args.input.now.file in
    let read = c.args.read.now in
    let held = held_of read.object in
    let reads = Holds-reads f c.args.i held c.requires.holds in
    let begins = c.begins_canonically.ensures in
    let starts : place_of f c.args.i ≡ c.args.offset = span-offset f c.args.i read.start read.end reads c.requires.span ∙ c.if-read-offset.false in
    let both = begins-shortest f c.args.i c.args.offset c.args.input.now.objects.now held c.requires.holds c.requires.valid begins.counted starts c.args.input.now.cut begins.octets in
    rw c.at-then-not-begins_canonically.ensures
    (breaks_c4 c.args.i c.requires.holds.listed (λ spelled. refuted _ c.begins_canonically.result begins.begins c.if-not-begins_canonically.true (both.1 (spelled reads))))

pub returns-clause-spelled : goal.returns-clause-spelled
returns-clause-spelled c = λ reads.
    let f = octets_of c.args.input.now.file in
    let read = c.args.read.now in
    let begins = c.begins_canonically.ensures in
    let starts : place_of f c.args.i ≡ c.args.offset = span-offset f c.args.i read.start read.end reads c.requires.span ∙ c.if-read-offset.false in
    let both = begins-shortest f c.args.i c.args.offset c.args.input.now.objects.now (held_of read.object) c.requires.holds c.requires.valid begins.counted starts c.args.input.now.cut begins.octets in
    both.0 (begins.begins.0 c.if-not-begins_canonically.false)

pub returns-clause-follows : goal.returns-clause-follows
returns-clause-follows c = record { offset = c.args.offset; end = c.args.read.now.end; before = c.requires.before; span = rw c.if-read-offset.false at c.requires.span }

pub returns-then-read-offset-clause-first : goal.returns-then-read-offset-clause-first
returns-then-read-offset-clause-first c = λ well.
    let f = octets_of c.args.input.now.file in
    let read = c.args.read.now in
    rw c.at.ensures (inl (refl, (well, not-Follows f c.args.i c.args.offset read.start read.end c.requires.before c.requires.span c.if-read-offset.true)))

pub returns-then-not-begins_canonically-clause-first : goal.returns-then-not-begins_canonically-clause-first
returns-then-not-begins_canonically-clause-first c = λ well.
    rw c.at-then-not-begins_canonically.ensures
    (inl (refl, (well, record { offset = c.args.offset; end = c.args.read.now.end; before = c.requires.before; span = rw c.if-read-offset.false at c.requires.span })))
