use Rattle.std.proofs.Common.{subst, ap, length, arith}
use Rattle.file_tree.specs.Store.Cuts.{AreOrdered}
use Rattle.file_tree.specs.Store.Kept.{IsLower}
use Rattle.file_tree.proofs.StoreLemmas.JoinedNodes.{length-joined_nodes, rising_joined}
use Rattle.file_tree.proofs.store.file_nodes.FileNodes.len.Goals as goal

pub returns-clause-count : goal.returns-clause-count
returns-clause-count c =
    omega (
      arith,
      length-joined_nodes c.self.inside.chunks c.self.inside.nodes,
      ap length c.self.view_is,
      c.len.ensures.count,
    )

pub returns-clause-rising : goal.returns-clause-rising
returns-clause-rising c =
    subst (AreOrdered IsLower) c.self.view_is
    (rising_joined c.self.inside.chunks c.self.inside.nodes c.len.ensures.rising)
