use Rattle.std.proofs.Common.{sym, ap, ◌∙◌}
use Rattle.file_tree.specs.rules.Chunks.{chunks_of}
use Rattle.file_tree.proofs.Lookups.{chunks_shown}
use Rattle.file_tree.proofs.tree.Tree.chunks.Goals as goal

pub returns : goal.returns
returns c = c.chunks.ensures ∙ sym (chunks_shown c.self.inside.nodes c.self.inside.next)
    ∙ ap chunks_of c.self.view_is
