use Rattle.std.proofs.Common.{arith}
use Rattle.machine.proofs.CycleLemmas.Halted.{halts_now}
use Rattle.machine.proofs.CycleLemmas.Whole.{less_work}
use Rattle.machine.proofs.execution.machine_loop.opcode_cycle.Goals as goal

pub halted_cycle-requires-clause-halted : goal.halted_cycle-requires-clause-halted
halted_cycle-requires-clause-halted c =
    halts_now c.requires.stands c.advance-stop.ensures.advances

pub returns-clause-cycles : goal.returns-clause-cycles
returns-clause-cycles c = λ functions program d stands.
    c.halted_cycle.ensures.cycles functions program d c.args.fuel
    (c.advance-stop.ensures.advances functions program d stands)

pub returns-clause-less : goal.returns-clause-less
returns-clause-less c =
    let r = c.requires.stands in
    less_work c.args.state.now c.advance-stop.new.state c.halted_cycle.new.state c.args.fuel
    c.args.fuel c.halted_cycle.result c.advance-stop.ensures.kept (omega arith)
    (c.halted_cycle.ensures.less r.functions r.program r.configuration c.args.fuel
    (c.advance-stop.ensures.advances r.functions r.program r.configuration r.stands))
