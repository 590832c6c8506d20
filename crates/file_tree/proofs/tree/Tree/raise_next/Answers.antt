use Rattle.std.proofs.Common.{arith, ap}
use Rattle.file_tree.specs.rules.Files.{Files}
use Rattle.file_tree.proofs.Rises.{risen_nodes, risen_files}
use Rattle.file_tree.proofs.tree.Tree.raise_next.Goals as goal

pub invariant_of-self : goal.invariant_of-self
invariant_of-self c = (
  risen_nodes c.self.inside.nodes c.self.inside.next c.args.next c.self.invariant.0
      (omega (arith, c.requires, ap (λ (fs : Files). fs.next) c.self.view_is)),
  c.self.invariant.1,
)

pub returns : goal.returns
returns c =
    risen_files c.self.inside.nodes c.self.inside.next c.args.next c.args.self.now c.self.view_is
    c.self.invariant.0 (omega (arith, c.requires, ap (λ (fs : Files). fs.next) c.self.view_is))
