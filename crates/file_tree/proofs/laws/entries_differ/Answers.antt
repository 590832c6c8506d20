use Rattle.file_tree.proofs.EntriesDiffer.{entries_differ}
use Rattle.file_tree.proofs.laws.entries_differ.Goals as goal

pub returns : goal.returns
returns c = entries_differ
