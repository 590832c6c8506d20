use Rattle.file_tree.proofs.OneEntryMore.{hanging_adds_an_entry}
use Rattle.file_tree.proofs.laws.hanging_adds_an_entry.Goals as goal

pub returns : goal.returns
returns c = hanging_adds_an_entry
