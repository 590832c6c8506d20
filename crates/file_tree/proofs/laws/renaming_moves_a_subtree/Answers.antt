use Rattle.file_tree.proofs.Renames.{moves}
use Rattle.file_tree.proofs.laws.renaming_moves_a_subtree.Goals as goal

pub returns : goal.returns
returns c = moves
