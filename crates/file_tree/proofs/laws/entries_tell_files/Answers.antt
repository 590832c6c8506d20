use Rattle.file_tree.proofs.FilesTold.{entries_tell_files}
use Rattle.file_tree.proofs.laws.entries_tell_files.Goals as goal

pub returns : goal.returns
returns c = entries_tell_files
