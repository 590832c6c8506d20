use Rattle.file_tree.proofs.KeptEntries.{others_keep_entries}
use Rattle.file_tree.proofs.laws.others_keep_entries.Goals as goal

pub returns : goal.returns
returns c = others_keep_entries
