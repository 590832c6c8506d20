use Rattle.std.proofs.Common.{sym, ap, ◌∙◌, length}
use Rattle.std.specs.Prelude.{option_copied}
use Rattle.file_tree.specs.rules.Files.{Files, bytes_of_node}
use Rattle.file_tree.specs.Links.{node_in}
use Rattle.file_tree.proofs.Lookups.{bytes_shown}
use Rattle.file_tree.proofs.StoreLemmas.KeptAs.{len_kept}
use Rattle.file_tree.proofs.tree.Tree.size.Goals as goal

pub returns : goal.returns
returns c =
    c.size_held.ensures
    ∙ len_kept (option_copied c.node_of.result) (node_in c.self.inside.nodes c.args.number)
    c.node_of.ensures
    ∙ ap length
    (sym (bytes_shown c.self.inside.nodes c.self.inside.next c.args.number)
    ∙ ap (λ (fs : Files). bytes_of_node fs c.args.number) c.self.view_is)
