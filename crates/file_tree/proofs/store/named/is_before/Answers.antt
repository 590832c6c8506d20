use Rattle.std.proofs.Common.{arith}
use Rattle.file_tree.specs.rules.Files.{is_before}
use Rattle.file_tree.proofs.Order.{other_ends, name_ends}
use Rattle.file_tree.proofs.store.named.is_before.Goals as goal

pub returns-then-index-other : goal.returns-then-index-other
returns-then-index-other c =
    other_ends c.args.name.now c.args.other.now c.loop-index.index
    (is_before c.args.name.now c.args.other.now) (omega arith) c.loop-index.invariant.1

pub returns : goal.returns
returns c =
    name_ends c.args.name.now c.args.other.now c.loop-index.index
    (is_before c.args.name.now c.args.other.now) (omega (
      arith,
      c.loop-index-test.false,
      c.loop-index.auto.index-end,
    )) c.loop-index.invariant.1
