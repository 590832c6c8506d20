use Rattle.std.proofs.Common.{ap, ◌∙◌, length, eqb}
use Rattle.file_tree.specs.rules.Files.{Files, entries_of}
use Rattle.file_tree.proofs.NearestNodes.{none_nearest}
use Rattle.file_tree.proofs.tree.Tree.is_empty.Goals as goal

pub returns : goal.returns
returns c =
    none_nearest c.self.inside.nodes c.self.inside.next c.args.directory c.nearest_after.result
    c.is_none.result c.self.invariant.0 c.nearest_after.ensures c.is_none.ensures
    ∙ ap (λ (fs : Files). eqb (length (entries_of fs c.args.directory)) 0) c.self.view_is
