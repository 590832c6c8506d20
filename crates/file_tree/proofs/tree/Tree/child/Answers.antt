use Rattle.std.proofs.Common.{sym, ap, ◌∙◌}
use Rattle.file_tree.specs.rules.Files.{Files, child}
use Rattle.file_tree.proofs.Seen.{child_shown}
use Rattle.file_tree.proofs.tree.Tree.child.Goals as goal

pub returns : goal.returns
returns c =
    c.child.ensures
    ∙ sym (child_shown c.self.inside.nodes c.self.inside.next c.args.directory c.args.name.now
    c.self.invariant.0)
    ∙ ap (λ (fs : Files). child fs c.args.directory c.args.name.now) c.self.view_is
