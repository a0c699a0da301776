use Rattle.std.proofs.Common.{◌≡◌, ◌≤◌, List, false, length, slice_index_or, ap, sym, subst, ◌∙◌, arith, rules}
use Rattle.std.specs.Prelude.{All}
use Rattle.std.proofs.lemmas.List.{length-set}
use Rattle.std.proofs.lemmas.List.Elements.{All-push}
use Rattle.plist_object.specs.Places.{units_in}
use Rattle.plist_object.specs.Views.{octets_of}
use Rattle.plist_keys.specs.declared.keys.Key.{Key}
use Rattle.plist_keys.specs.Overlap.{length_at}
use Rattle.plist_keys.specs.Ranks.{HoldsKey}
use Rattle.plist_keys.proofs.Counting.{Counted-read}
use Rattle.plist_keys.proofs.keys.Keys.add.Goals as goal

pub returns-in_default-clause-counted : goal.returns-in_default-clause-counted
returns-in_default-clause-counted c = λ i key counted.
    let f = octets_of c.args.file.now in
    let old = c.args.self.now in
    let unmarked : slice_index_or old.seen.items c.args.object false ≡ false = search rules in
    let fits : c.ascii_length.result ≤ length_at f c.args.object = omega (arith, c.ascii_length.ensures) in
    Counted-read f i c.args.object c.ascii_length.result old.room c.less-self.result old.named old.seen.items (omega (arith, c.requires.marked, c.count.ensures, c.if-object-count.false)) unmarked
    fits c.less-self.ensures.some c.less-self.ensures.none key counted

pub returns-clause-keys : goal.returns-clause-keys
returns-clause-keys c =
    let f = octets_of c.args.file.now in
    let old = c.args.self.now in
    let told = c.in-Some.ensures in
    let key : Key = record { text = c.in-Some.text; object = c.args.object } in
    record {
      held = subst (λ (keys : List Key). All (HoldsKey f) keys) (sym c.in_ok-push.ensures.items) (All-push (HoldsKey f) old.entries.items key c.requires.held (told.some, told.valid));
      marked = length-set old.seen.items c.args.object _ ∙ c.requires.marked;
    }

pub returns-clause-counted : goal.returns-clause-counted
returns-clause-counted c = λ i key counted.
    let f = octets_of c.args.file.now in
    let old = c.args.self.now in
    let unmarked : slice_index_or old.seen.items c.args.object false ≡ false = search rules in
    let reads = c.in-Some.ensures.some.reads in
    let long = ap (λ held. length (units_in held)) reads in
    let fits : c.len.result ≤ length_at f c.args.object = omega (arith, long, c.len.ensures) in
    Counted-read f i c.args.object c.len.result old.room c.less-self-2.result old.named old.seen.items (omega (arith, c.requires.marked, c.count.ensures, c.if-object-count.false)) unmarked
    fits c.less-self-2.ensures.some c.less-self-2.ensures.none key counted
