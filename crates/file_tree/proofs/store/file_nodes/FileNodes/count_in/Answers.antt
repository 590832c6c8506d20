use Rattle.std.proofs.Common.{subst, List}
use Rattle.file_tree.specs.declared.store.node.Node.{Node}
use Rattle.file_tree.specs.Nearest.{IsCountListed}
use Rattle.file_tree.proofs.StoreLemmas.JoinedNodes.{count_joined}
use Rattle.file_tree.proofs.store.file_nodes.FileNodes.count_in.Goals as goal

pub returns : goal.returns
returns c =
    subst (λ (ns : List Node). IsCountListed ns c.args.directory c.count_in.result) c.self.view_is
    (count_joined c.self.inside.chunks c.self.inside.nodes c.args.directory c.count_in.result
    c.count_in.ensures)
