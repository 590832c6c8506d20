use Rattle.std.proofs.Common.{sym, ◌∙◌}
use Rattle.file_tree.proofs.StoreLemmas.NamedLookups.{keys_in_order, nearest_at}
use Rattle.file_tree.proofs.store.nodes.Nodes.nearest_after.Goals as goal

pub count_up_to-place-requires : goal.count_up_to-place-requires
count_up_to-place-requires c = keys_in_order c.self.invariant.0 c.as_slice-names.ensures.value

pub node_named-requires : goal.node_named-requires
node_named-requires c = keys_in_order c.self.invariant.0 c.as_slice-names.ensures.value

pub returns : goal.returns
returns c =
    c.node_named.ensures
    ∙ sym (nearest_at c.self.invariant.0 c.as_slice-names.ensures.value c.self.view_is
    c.args.directory c.args.name.now c.count_up_to-place.result c.count_up_to-place.ensures.cut)
