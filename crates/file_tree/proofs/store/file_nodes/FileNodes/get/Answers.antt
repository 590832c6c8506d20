use Rattle.file_tree.proofs.StoreLemmas.JoinedNodes.{within_nodes}
use Rattle.file_tree.proofs.StoreLemmas.KeptChunks.{seen_kept}
use Rattle.file_tree.proofs.store.file_nodes.FileNodes.get.Goals as goal

pub returns : goal.returns
returns c =
    seen_kept c.self.inside.chunks c.self.inside.nodes c.args.place c.get.result.now c.args.self.now
    c.self.view_is c.self.invariant
    (within_nodes c.self.inside.chunks c.self.inside.nodes c.args.place c.args.self.now
    c.self.view_is c.requires) c.get.ensures
