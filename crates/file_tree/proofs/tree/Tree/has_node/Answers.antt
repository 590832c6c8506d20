use Rattle.std.proofs.Common.{sym, ap, ◌∙◌}
use Rattle.std.specs.Prelude.{is_some, option_copied}
use Rattle.file_tree.specs.Links.{node_in}
use Rattle.file_tree.specs.rules.Files.{Files, node_of}
use Rattle.file_tree.proofs.Lookups.{there_shown}
use Rattle.file_tree.proofs.StoreLemmas.KeptAs.{some_kept}
use Rattle.file_tree.proofs.tree.Tree.has_node.Goals as goal

pub returns : goal.returns
returns c =
    c.holds_node.ensures
    ∙ some_kept (option_copied c.node_of.result) (node_in c.self.inside.nodes c.args.number)
    c.node_of.ensures
    ∙ sym (there_shown c.self.inside.nodes c.self.inside.next c.args.number)
    ∙ ap (λ (fs : Files). is_some (node_of fs c.args.number)) c.self.view_is
