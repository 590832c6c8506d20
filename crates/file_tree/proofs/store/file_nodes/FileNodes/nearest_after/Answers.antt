use Rattle.std.proofs.Common.{List, None, sym, ap, ◌∙◌}
use Rattle.std.specs.Prelude.{option_map}
use Rattle.file_tree.specs.declared.store.node.Node.{Node}
use Rattle.file_tree.specs.Nearest.{nearest_node}
use Rattle.file_tree.specs.Store.Joined.{kept_number}
use Rattle.file_tree.proofs.StoreLemmas.JoinedNodes.{nearest_number}
use Rattle.file_tree.proofs.store.file_nodes.FileNodes.nearest_after.Goals as goal

pub returns : goal.returns
returns c =
    ap (option_map kept_number) c.nearest_after.ensures
    ∙ sym (nearest_number c.self.inside.chunks c.args.directory c.args.name.now c.self.inside.nodes)
    ∙ ap (λ (ns : List Node).
    option_map kept_number (nearest_node c.args.directory c.args.name.now None ns)) c.self.view_is
