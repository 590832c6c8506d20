use Rattle.std.proofs.Common.{arith, ap, length, subst}
use Rattle.file_tree.specs.Store.Cuts.{AreOrdered}
use Rattle.file_tree.specs.Store.Kept.{IsLower}
use Rattle.file_tree.proofs.StoreLemmas.Keys.{length-stored}
use Rattle.file_tree.proofs.store.nodes.Nodes.len.Goals as goal

pub returns-clause-count : goal.returns-clause-count
returns-clause-count c =
    omega (
      arith,
      length-stored c.self.inside.slab c.self.inside.order.items c.self.invariant.0.are.present,
      ap length c.self.view_is,
      c.len.ensures,
    )

pub returns-clause-rising : goal.returns-clause-rising
returns-clause-rising c = subst (AreOrdered IsLower) c.self.view_is c.self.invariant.0.rising
