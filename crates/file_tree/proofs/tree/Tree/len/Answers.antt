use Rattle.std.proofs.Common.{subst}
use Rattle.file_tree.specs.rules.Files.{IsFiles}
use Rattle.file_tree.proofs.IsFiles.{are_files}
use Rattle.file_tree.proofs.tree.Tree.len.Goals as goal

pub returns-clause-shape : goal.returns-clause-shape
returns-clause-shape c =
    subst IsFiles c.self.view_is
    (are_files c.self.inside.nodes c.self.inside.next c.self.invariant.0)
