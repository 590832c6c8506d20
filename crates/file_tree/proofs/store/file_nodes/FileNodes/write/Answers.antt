use Rattle.std.proofs.Common.{length, ap, arith}
use Rattle.file_tree.specs.Store.Joined.{file_body, joined_node}
use Rattle.file_tree.proofs.StoreLemmas.JoinedNodes.{within_nodes, held_size, bytes_joined}
use Rattle.file_tree.proofs.StoreLemmas.KeptChunks.{seen_file, seen_node, held_at, written_kept}
use Rattle.file_tree.proofs.StoreLemmas.KeptChunks.{written_joined}
use Rattle.file_tree.proofs.store.file_nodes.FileNodes.write.Goals as goal

pub write-requires-clause-file : goal.write-requires-clause-file
write-requires-clause-file c =
    let lt = within_nodes c.self.inside.chunks c.self.inside.nodes c.args.place c.args.self.now
    c.self.view_is c.requires.place in
    seen_file c.self.inside.chunks c.self.inside.nodes c.args.place c.get-node.result.now
    c.args.self.now c.self.view_is lt c.get-node.ensures c.requires.file

pub write-requires-clause-held : goal.write-requires-clause-held
write-requires-clause-held c =
    let lt = within_nodes c.self.inside.chunks c.self.inside.nodes c.args.place c.args.self.now
    c.self.view_is c.requires.place in
    held_at c.self.inside.chunks c.self.inside.nodes c.args.place c.get-node.result.now
    c.self.invariant lt c.get-node.ensures

pub write-requires-clause-within : goal.write-requires-clause-within
write-requires-clause-within c =
    let chunks = c.self.inside.chunks in
    let ns = c.self.inside.nodes in
    let n = c.get-node.result.now in
    let lt = within_nodes chunks ns c.args.place c.args.self.now c.self.view_is c.requires.place in
    omega (
      arith,
      c.requires.within (joined_node chunks n)
          (seen_node chunks ns c.args.place n c.args.self.now c.self.view_is lt c.get-node.ensures),
      ap length (bytes_joined chunks n),
      held_size chunks (file_body n.content)
          (held_at chunks ns c.args.place n c.self.invariant lt c.get-node.ensures),
    )

pub invariant_of-self : goal.invariant_of-self
invariant_of-self c =
    let chunks = c.self.inside.chunks in
    let ns = c.self.inside.nodes in
    let n = c.get-node.result.now in
    let lt = within_nodes chunks ns c.args.place c.args.self.now c.self.view_is c.requires.place in
    written_kept chunks c.write.new.chunks ns c.args.place n c.args.self.now c.self.view_is
    c.self.invariant lt c.get-node.ensures
    (seen_file chunks ns c.args.place n c.args.self.now c.self.view_is lt c.get-node.ensures
    c.requires.file) c.args.from c.args.bytes.now c.write.ensures

pub returns : goal.returns
returns c =
    let chunks = c.self.inside.chunks in
    let ns = c.self.inside.nodes in
    let n = c.get-node.result.now in
    let lt = within_nodes chunks ns c.args.place c.args.self.now c.self.view_is c.requires.place in
    written_joined chunks c.write.new.chunks ns c.args.place n c.args.self.now c.self.view_is
    c.self.invariant lt c.get-node.ensures
    (seen_file chunks ns c.args.place n c.args.self.now c.self.view_is lt c.get-node.ensures
    c.requires.file) c.args.from c.args.bytes.now c.write.ensures
