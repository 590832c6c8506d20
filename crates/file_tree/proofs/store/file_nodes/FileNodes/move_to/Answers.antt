use Rattle.std.proofs.Common.{List, refl, sym, ap, ◌∙◌}
use Rattle.file_tree.specs.declared.store.node.Hook.TheVariants.{In}
use Rattle.file_tree.specs.declared.store.node.Node.{Node}
use Rattle.file_tree.specs.Links.{child_in}
use Rattle.file_tree.specs.Store.Changes.{with_hook}
use Rattle.file_tree.specs.Store.Joined.{joined_nodes}
use Rattle.file_tree.specs.Store.Stored.{changed}
use Rattle.file_tree.proofs.StoreLemmas.JoinedNodes.{changed_joined, child_joined}
use Rattle.file_tree.proofs.StoreLemmas.KeptChunks.{hooked_kept}
use Rattle.file_tree.proofs.store.file_nodes.FileNodes.move_to.Goals as goal

pub move_to-requires-clause-free : goal.move_to-requires-clause-free
move_to-requires-clause-free c =
    sym (child_joined c.self.inside.chunks c.self.inside.nodes c.args.directory c.args.name)
    ∙ ap (λ (ns : List Node). child_in ns c.args.directory c.args.name) c.self.view_is
    ∙ c.requires.free

pub invariant_of-self : goal.invariant_of-self
invariant_of-self c =
    rw c.move_to.ensures
    (hooked_kept (In c.args.directory c.args.name) c.self.inside.chunks c.self.inside.nodes
    c.args.place c.self.invariant)

pub returns : goal.returns
returns c =
    let hook = In c.args.directory c.args.name in
    ap (joined_nodes c.self.inside.chunks) c.move_to.ensures
    ∙ changed_joined c.self.inside.chunks (with_hook hook) (with_hook hook) c.args.place
    c.self.inside.nodes (λ n. refl)
    ∙ ap (λ (ns : List Node). changed (with_hook hook) c.args.place ns) c.self.view_is
