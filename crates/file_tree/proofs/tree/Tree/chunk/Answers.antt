use Rattle.std.proofs.Common.{ℕ, List, sym, ap, ◌∙◌}
use Rattle.file_tree.specs.rules.Chunks.{chunk_of}
use Rattle.file_tree.specs.rules.Files.{Files, bytes_of_node}
use Rattle.file_tree.proofs.Lookups.{bytes_shown}
use Rattle.file_tree.proofs.tree.Tree.chunk.Goals as goal

pub returns : goal.returns
returns c =
    c.chunk_held.ensures
    ∙ ap (λ (bytes : List ℕ). chunk_of bytes c.args.index)
    (sym (bytes_shown c.self.inside.nodes c.self.inside.next c.args.number)
    ∙ ap (λ (fs : Files). bytes_of_node fs c.args.number) c.self.view_is)
