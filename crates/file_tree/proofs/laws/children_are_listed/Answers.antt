use Rattle.file_tree.proofs.EntriesDiffer.{children_are_listed}
use Rattle.file_tree.proofs.laws.children_are_listed.Goals as goal

pub returns : goal.returns
returns c = children_are_listed
