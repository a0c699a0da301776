use Rattle.plist_forms.proofs.canonicals.judge_any.Goals as goal

pub judged-requires : goal.judged-requires
judged-requires c = (c.args.octets.now, c.in_ok-binary.ensures.read)

pub returns-clause-ok : goal.returns-clause-ok
returns-clause-ok c =
    let encoded = c.in_ok-judged.ensures.encodes c.args.octets.now c.in_ok-binary.ensures.read in
    (encoded.value, encoded.accepted)
