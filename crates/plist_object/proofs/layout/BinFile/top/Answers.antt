use Rattle.plist_object.proofs.layout.BinFile.top.Goals as goal

pub returns-clause-value : goal.returns-clause-value
returns-clause-value c = c.args.self.now.top_read
