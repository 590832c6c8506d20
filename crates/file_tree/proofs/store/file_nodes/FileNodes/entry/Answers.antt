use Rattle.std.proofs.Common.{List, sym, ap, ◌∙◌}
use Rattle.std.specs.Prelude.{option_map}
use Rattle.file_tree.specs.declared.store.node.Node.{Node}
use Rattle.file_tree.specs.Nearest.{node_listed}
use Rattle.file_tree.specs.Store.Joined.{kept_number}
use Rattle.file_tree.proofs.StoreLemmas.JoinedNodes.{listed_number}
use Rattle.file_tree.proofs.store.file_nodes.FileNodes.entry.Goals as goal

pub returns : goal.returns
returns c =
    ap (option_map kept_number) c.entry.ensures
    ∙ sym (listed_number c.self.inside.chunks c.self.inside.nodes c.args.directory c.args.place)
    ∙ ap (λ (ns : List Node). option_map kept_number (node_listed ns c.args.directory c.args.place))
    c.self.view_is
