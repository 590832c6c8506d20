use Rattle.std.proofs.Common.{sym, ap, ◌∙◌}
use Rattle.std.specs.Prelude.{option_copied}
use Rattle.file_tree.specs.rules.Files.{Files, is_directory}
use Rattle.file_tree.specs.Links.{node_in}
use Rattle.file_tree.proofs.Lookups.{directory_shown}
use Rattle.file_tree.proofs.StoreLemmas.KeptAs.{directory_kept}
use Rattle.file_tree.proofs.tree.Tree.is_directory.Goals as goal

pub returns : goal.returns
returns c =
    c.holds_directory.ensures
    ∙ directory_kept (option_copied c.node_of.result) (node_in c.self.inside.nodes c.args.number)
    c.node_of.ensures
    ∙ sym (directory_shown c.self.inside.nodes c.self.inside.next c.args.number)
    ∙ ap (λ (fs : Files). is_directory fs c.args.number) c.self.view_is
