use Rattle.file_tree.proofs.KeptEntries.{entries_come_in_order}
use Rattle.file_tree.proofs.laws.entries_come_in_order.Goals as goal

pub returns : goal.returns
returns c = entries_come_in_order
