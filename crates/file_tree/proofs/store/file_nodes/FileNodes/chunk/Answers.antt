use Rattle.std.proofs.Common.{List, ℕ, ap, ◌∙◌}
use Rattle.file_tree.specs.rules.Chunks.{chunk_of}
use Rattle.file_tree.proofs.StoreLemmas.JoinedNodes.{within_nodes}
use Rattle.file_tree.proofs.StoreLemmas.KeptChunks.{held_at, seen_bytes}
use Rattle.file_tree.proofs.store.file_nodes.FileNodes.chunk.Goals as goal

pub chunk-requires : goal.chunk-requires
chunk-requires c =
    held_at c.self.inside.chunks c.self.inside.nodes c.args.place c.get-node.result.now
    c.self.invariant
    (within_nodes c.self.inside.chunks c.self.inside.nodes c.args.place c.args.self.now
    c.self.view_is c.requires) c.get-node.ensures

pub returns : goal.returns
returns c = λ m is.
    let lt = within_nodes c.self.inside.chunks c.self.inside.nodes c.args.place c.args.self.now
    c.self.view_is c.requires in
    c.chunk.ensures
    ∙ ap (λ (xs : List ℕ). chunk_of xs c.args.index)
    (seen_bytes c.self.inside.chunks c.self.inside.nodes c.args.place c.get-node.result.now m
    c.args.self.now c.self.view_is lt c.get-node.ensures is)
