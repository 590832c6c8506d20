use Rattle.std.proofs.Common.{◌≡◌}
use Rattle.file_tree.proofs.RemovedNodes.{files_from}
use Rattle.file_tree.proofs.tree.Tree.forget_removed.Given as goal

abbrev pub invariant-loop-place : goal.invariant-loop-place
invariant-loop-place l = l.self ≡ files_from l.place l.initial.self
