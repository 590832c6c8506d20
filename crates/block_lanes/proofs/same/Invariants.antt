use Rattle.block_lanes.proofs.Lanes.{Compared}
use Rattle.block_lanes.proofs.same.Given as goal

abbrev pub invariant-loop-x : goal.invariant-loop-x
invariant-loop-x l = Compared l.a l.b l.x-iterator.a.rest.now l.x-iterator.b.rest.now l.differing
