use Rattle.std.proofs.Common.{List, ℕ, ◌++◌, length, take, drop, ap, ◌∙◌}
use Rattle.file_tree.proofs.StoreLemmas.JoinedNodes.{within_nodes}
use Rattle.file_tree.proofs.StoreLemmas.KeptChunks.{held_at, seen_bytes}
use Rattle.file_tree.proofs.store.file_nodes.FileNodes.read.Goals as goal

pub read-requires : goal.read-requires
read-requires c =
    held_at c.self.inside.chunks c.self.inside.nodes c.args.place c.get-node.result.now
    c.self.invariant
    (within_nodes c.self.inside.chunks c.self.inside.nodes c.args.place c.args.self.now
    c.self.view_is c.requires) c.get-node.ensures

pub returns-clause-count : goal.returns-clause-count
returns-clause-count c = λ m is.
    let lt = within_nodes c.self.inside.chunks c.self.inside.nodes c.args.place c.args.self.now
    c.self.view_is c.requires in
    c.read.ensures.count
    ∙ ap (λ (xs : List ℕ). length (take (length c.args.into.now) (drop c.args.from xs)))
    (seen_bytes c.self.inside.chunks c.self.inside.nodes c.args.place c.get-node.result.now m
    c.args.self.now c.self.view_is lt c.get-node.ensures is)

pub returns-clause-bytes : goal.returns-clause-bytes
returns-clause-bytes c = λ m is.
    let lt = within_nodes c.self.inside.chunks c.self.inside.nodes c.args.place c.args.self.now
    c.self.view_is c.requires in
    c.read.ensures.bytes
    ∙ ap (λ (xs : List ℕ). take (length c.args.into.now) (drop c.args.from xs)
    ++ drop c.read.result c.args.into.now)
    (seen_bytes c.self.inside.chunks c.self.inside.nodes c.args.place c.get-node.result.now m
    c.args.self.now c.self.view_is lt c.get-node.ensures is)
