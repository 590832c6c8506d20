use Rattle.std.proofs.Common.{sym, ap, ◌∙◌}
use Rattle.file_tree.specs.rules.Files.{Files}
use Rattle.file_tree.specs.rules.Changes.{is_within}
use Rattle.file_tree.proofs.Within.{within_shown}
use Rattle.file_tree.proofs.tree.Tree.is_within.Goals as goal

pub returns : goal.returns
returns c =
    c.leads_to.ensures
    ∙ sym (within_shown c.self.inside.nodes c.self.inside.next c.args.number c.args.directory
    c.self.invariant.0)
    ∙ ap (λ (fs : Files). is_within fs c.args.number c.args.directory) c.self.view_is
