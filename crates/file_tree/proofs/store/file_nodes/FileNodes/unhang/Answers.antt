use Rattle.std.proofs.Common.{List, refl, ap, ◌∙◌}
use Rattle.file_tree.specs.declared.store.node.Hook.TheVariants.{Removed}
use Rattle.file_tree.specs.declared.store.node.Node.{Node}
use Rattle.file_tree.specs.Store.Changes.{with_hook}
use Rattle.file_tree.specs.Store.Joined.{joined_nodes}
use Rattle.file_tree.specs.Store.Stored.{changed}
use Rattle.file_tree.proofs.StoreLemmas.JoinedNodes.{changed_joined}
use Rattle.file_tree.proofs.StoreLemmas.KeptChunks.{hooked_kept}
use Rattle.file_tree.proofs.store.file_nodes.FileNodes.unhang.Goals as goal

pub invariant_of-self : goal.invariant_of-self
invariant_of-self c =
    rw c.unhang.ensures
    (hooked_kept Removed c.self.inside.chunks c.self.inside.nodes c.args.place c.self.invariant)

pub returns : goal.returns
returns c =
    ap (joined_nodes c.self.inside.chunks) c.unhang.ensures
    ∙ changed_joined c.self.inside.chunks (with_hook Removed) (with_hook Removed) c.args.place
    c.self.inside.nodes (λ n. refl)
    ∙ ap (λ (ns : List Node). changed (with_hook Removed) c.args.place ns) c.self.view_is
