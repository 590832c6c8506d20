use Rattle.std.proofs.Common.{arith}
use Rattle.state_image.proofs.RestoreLemmas.Lent.{fault_of}
use Rattle.state_image.proofs.RestoreLemmas.OpenAgain.{one_more_comes, one_more_opened}
use Rattle.state_image.proofs.restoring.descriptors.open_descriptors.Goals as goal

pub returns-in_err-open_descriptor-clause-refused :
    goal.returns-in_err-open_descriptor-clause-refused
returns-in_err-open_descriptor-clause-refused c refused ds rest all many is =
    let next = one_more_comes c.args.tree.now c.loop.counter c.loop.descriptors.items ds
    c.args.reader.now c.loop.reader rest c.loop.invariant all
    (omega (arith, c.loop-test.true, many)) is in
    c.in_err-open_descriptor.ensures.refused
    (fault_of c.from_residual.result _ c.from_residual.ensures.1 refused) next.next next.rest
    next.can next.is

pub loop-preserved : goal.loop-preserved
loop-preserved c =
    one_more_opened c.args.tree.now c.loop.counter c.loop.descriptors.items
    c.open_descriptor.new.descriptors.items c.args.reader.now c.loop.reader
    c.open_descriptor.new.reader c.loop.invariant c.in_ok-open_descriptor.ensures.made
