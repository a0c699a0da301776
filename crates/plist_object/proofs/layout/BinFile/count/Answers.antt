use Rattle.plist_object.proofs.layout.BinFile.count.Goals as goal

pub returns : goal.returns
returns c = c.args.self.now.count_read
