use Rattle.std.proofs.Common.{sym, ap, ◌∙◌}
use Rattle.file_tree.specs.Links.{chunks_in}
use Rattle.file_tree.proofs.StoreLemmas.KeptChunks.{chunks_joined}
use Rattle.file_tree.proofs.store.file_nodes.FileNodes.chunks.Goals as goal

pub returns : goal.returns
returns c =
    c.len.ensures ∙ c.self.invariant.count
    ∙ sym (chunks_joined c.self.inside.chunks c.self.inside.nodes c.self.invariant.held)
    ∙ ap chunks_in c.self.view_is
