use Rattle.std.proofs.Common.{◌<◌, List, sym, subst}
use Rattle.std.specs.List.{AllByRecursion}
use Rattle.file_tree.specs.declared.store.node.Node.{Node}
use Rattle.file_tree.specs.Store.Named.{IsFreeHook}
use Rattle.file_tree.proofs.StoreLemmas.JoinedNodes.{lower_joined, free_joined}
use Rattle.file_tree.proofs.StoreLemmas.KeptChunks.{push_kept, push_seen, push_same}
use Rattle.file_tree.proofs.store.file_nodes.FileNodes.push.Goals as goal

pub push-requires-clause-number : goal.push-requires-clause-number
push-requires-clause-number c =
    lower_joined c.self.inside.chunks c.args.node.number c.self.inside.nodes
    (subst (λ (ns : List Node). AllByRecursion (λ (n : Node). n.number < c.args.node.number) ns)
    (sym c.self.view_is) c.requires.number)

pub push-requires-clause-free : goal.push-requires-clause-free
push-requires-clause-free c =
    free_joined c.self.inside.chunks c.args.node.hook c.self.inside.nodes
    (subst (IsFreeHook c.args.node.hook) (sym c.self.view_is) c.requires.free)

pub invariant_of-self : goal.invariant_of-self
invariant_of-self c =
    push_kept c.self.inside.chunks c.self.inside.nodes c.push.new.self c.args.node c.requires.empty
    c.self.invariant c.push.result c.push.ensures.pushed c.push.ensures.unchanged

pub returns-clause-pushed : goal.returns-clause-pushed
returns-clause-pushed c =
    push_seen c.self.inside.chunks c.self.inside.nodes c.push.new.self c.args.self.now c.args.node
    c.self.view_is c.requires.empty c.push.result c.push.ensures.pushed

pub returns-clause-unchanged : goal.returns-clause-unchanged
returns-clause-unchanged c =
    push_same c.self.inside.chunks c.self.inside.nodes c.push.new.self c.args.self.now
    c.self.view_is c.push.result c.push.ensures.unchanged
