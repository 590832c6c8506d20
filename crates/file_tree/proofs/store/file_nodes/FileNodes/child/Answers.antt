use Rattle.std.proofs.Common.{List, sym, ap, ◌∙◌}
use Rattle.file_tree.specs.declared.store.node.Node.{Node}
use Rattle.file_tree.specs.Links.{child_in}
use Rattle.file_tree.proofs.StoreLemmas.JoinedNodes.{child_joined}
use Rattle.file_tree.proofs.store.file_nodes.FileNodes.child.Goals as goal

pub returns : goal.returns
returns c =
    c.child.ensures
    ∙ sym (child_joined c.self.inside.chunks c.self.inside.nodes c.args.directory c.args.name.now)
    ∙ ap (λ (ns : List Node). child_in ns c.args.directory c.args.name.now) c.self.view_is
