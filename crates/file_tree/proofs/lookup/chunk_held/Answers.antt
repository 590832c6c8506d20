use Rattle.std.proofs.Common.{List, ℕ, sym, ap, ◌∙◌}
use Rattle.file_tree.specs.Links.{bytes_held_in}
use Rattle.file_tree.specs.rules.Chunks.{chunk_of}
use Rattle.file_tree.proofs.Contents.{node_placed, placed_bytes, nothing_in_chunk}
use Rattle.file_tree.proofs.Lookups.{node_nowhere}
use Rattle.file_tree.proofs.lookup.chunk_held.Goals as goal

pub returns-in-Some : goal.returns-in-Some
returns-in-Some c =
    let ns = c.args.nodes.now in
    let n = node_placed ns c.args.number c.in-Some.place c.in-Some.ensures.there in
    c.chunk.ensures n.0 n.1
    ∙ ap (λ (xs : List ℕ). chunk_of xs c.args.index)
    (placed_bytes ns c.args.number c.in-Some.place c.in-Some.ensures.there)

pub returns-in-None : goal.returns-in-None
returns-in-None c =
    nothing_in_chunk c.args.index
    ∙ sym (ap (λ (xs : List ℕ). chunk_of xs c.args.index)
    (ap bytes_held_in (node_nowhere c.args.nodes.now c.args.number c.in-None.ensures.nowhere)))
