use Rattle.std.proofs.Common.{string_bytes}
use Rattle.std.proofs.lemmas.Map.Text.{btree_map_updates_text}
use Rattle.test_files.proofs.OtherPaths.{other_value}
use Rattle.test_files.proofs.memory_files.MemoryFiles.put.Goals as goal

pub returns-clause-others : goal.returns-clause-others
returns-clause-others c = λ other differs.
    let sets = btree_map_updates_text (string_bytes c.in_ok-key.key) c.args.self.now.files c.insert.new.self _ c.in_ok-insert.ensures.updates other in
    other_value _ _ _ (string_bytes c.in_ok-key.key) c.args.path.now other _ sets c.in_ok-key.ensures.ok differs
