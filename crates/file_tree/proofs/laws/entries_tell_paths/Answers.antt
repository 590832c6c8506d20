use Rattle.file_tree.proofs.EntriesTell.{entries_tell_paths}
use Rattle.file_tree.proofs.laws.entries_tell_paths.Goals as goal

pub returns : goal.returns
returns c = entries_tell_paths
