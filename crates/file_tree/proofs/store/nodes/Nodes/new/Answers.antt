use Rattle.std.proofs.Common.{arith}
use Rattle.file_tree.proofs.StoreLemmas.KeptNodes.{none_kept}
use Rattle.file_tree.proofs.store.nodes.Nodes.new.Goals as goal

pub invariant_of-result : goal.invariant_of-result
invariant_of-result c = (
  none_kept c.new.result c.new-2.result.items c.new-3.result.items c.new-2.ensures.items
      c.new-3.ensures.items,
  omega (arith, c.new-3.ensures.len),
  omega (arith, c.new-2.ensures.len),
)
