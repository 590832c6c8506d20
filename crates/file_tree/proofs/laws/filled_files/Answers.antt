use Rattle.file_tree.proofs.Filled.{filled_files}
use Rattle.file_tree.proofs.laws.filled_files.Goals as goal

pub returns : goal.returns
returns c = filled_files
