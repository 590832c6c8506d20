use Rattle.file_tree.proofs.StoreLemmas.JoinedNodes.{within_nodes}
use Rattle.file_tree.proofs.StoreLemmas.KeptChunks.{gone_kept, gone_joined}
use Rattle.file_tree.proofs.store.file_nodes.FileNodes.remove.Goals as goal

pub invariant_of-self : goal.invariant_of-self
invariant_of-self c =
    let lt = within_nodes c.self.inside.chunks c.self.inside.nodes c.args.place c.args.self.now
    c.self.view_is c.requires in
    rw c.remove-node.ensures.others
    (gone_kept c.self.inside.chunks c.free_node.new.chunks c.self.inside.nodes c.args.place
    c.remove-node.result c.self.invariant lt c.remove-node.ensures.node c.free_node.ensures)

pub returns : goal.returns
returns c =
    let lt = within_nodes c.self.inside.chunks c.self.inside.nodes c.args.place c.args.self.now
    c.self.view_is c.requires in
    rw c.remove-node.ensures.others
    (gone_joined c.self.inside.chunks c.free_node.new.chunks c.self.inside.nodes c.args.place
    c.remove-node.result c.self.invariant lt c.remove-node.ensures.node c.free_node.ensures
    c.args.self.now c.self.view_is)
