use Rattle.std.proofs.Common.{◌-◌, refl, arith}
use Rattle.machine.proofs.CycleLemmas.Halted.{at_end, at_return}
use Rattle.machine.proofs.CycleLemmas.Whole.{called_there, ended, enters_next, indirect_there}
use Rattle.machine.proofs.CycleLemmas.Whole.{less_at_entry, less_fuel, less_work, one_frame_less}
use Rattle.machine.proofs.CycleLemmas.Whole.{pauses_lessen, returned_from, spent, trapped_there}
use Rattle.machine.proofs.execution.machine_loop.halted_cycle.Goals as goal

pub returns-in-Spent-clause-cycles : goal.returns-in-Spent-clause-cycles
returns-in-Spent-clause-cycles c = λ functions program d fuel advances.
    spent advances c.in-Spent.is c.requires.runs

pub returns-in-Spent-clause-less : goal.returns-in-Spent-clause-less
returns-in-Spent-clause-less c = λ functions program d fuel advances. tt

pub returns-in-Entry-clause-cycles : goal.returns-in-Entry-clause-cycles
returns-in-Entry-clause-cycles c = λ functions program d fuel advances.
    enters_next advances c.in-Entry.is

pub returns-in-Entry-clause-less : goal.returns-in-Entry-clause-less
returns-in-Entry-clause-less c = λ functions program d fuel advances.
    less_at_entry advances c.in-Entry.is

pub leave_function-requires-clause-stands : goal.leave_function-requires-clause-stands
leave_function-requires-clause-stands c =
    (at_end c.requires.halted c.in-Ended.is).0

pub leave_function-requires-clause-ends : goal.leave_function-requires-clause-ends
leave_function-requires-clause-ends c =
    (at_end c.requires.halted c.in-Ended.is).1

pub returns-in-Ended-clause-cycles : goal.returns-in-Ended-clause-cycles
returns-in-Ended-clause-cycles c = λ functions program d fuel advances.
    ended advances c.in-Ended.is c.leave_function.ensures.exited

pub returns-in-Ended-clause-less : goal.returns-in-Ended-clause-less
returns-in-Ended-clause-less c = λ functions program d fuel advances.
    one_frame_less c.args.state.now c.args.state.now c.leave_function.new.state fuel
    c.args.stop.fuel_left c.args.stop.fuel_left (refl, refl) c.leave_function.ensures.less
    (less_fuel advances) (omega arith)

pub leave_function-requires-in-Return-clause-stands :
    goal.leave_function-requires-in-Return-clause-stands
leave_function-requires-in-Return-clause-stands c =
    (at_return c.requires.halted c.in-Return.is).0

pub leave_function-requires-in-Return-clause-ends :
    goal.leave_function-requires-in-Return-clause-ends
leave_function-requires-in-Return-clause-ends c =
    (at_return c.requires.halted c.in-Return.is).1

pub returns-in-Return-clause-cycles : goal.returns-in-Return-clause-cycles
returns-in-Return-clause-cycles c = λ functions program d fuel advances.
    returned_from advances c.in-Return.is c.leave_function-in-Return.ensures.exited

pub returns-in-Return-clause-less : goal.returns-in-Return-clause-less
returns-in-Return-clause-less c = λ functions program d fuel advances.
    one_frame_less c.args.state.now c.args.state.now c.leave_function-in-Return.new.state fuel
    c.args.stop.fuel_left (c.args.stop.fuel_left - 1) (refl, refl)
    c.leave_function-in-Return.ensures.less (less_fuel advances) (omega arith)

pub returns-in-Call-clause-cycles : goal.returns-in-Call-clause-cycles
returns-in-Call-clause-cycles c = λ functions program d fuel advances.
    called_there advances c.in-Call.is c.call.new.state c.call.result c.call.ensures.cycles

pub returns-in-Call-clause-less : goal.returns-in-Call-clause-less
returns-in-Call-clause-less c = λ functions program d fuel advances.
    less_work c.args.state.now c.args.state.now c.call.new.state fuel c.args.stop.fuel_left
    c.call.result (refl, refl) (less_fuel advances) c.call.ensures.less

pub returns-in-CallIndirect-clause-cycles : goal.returns-in-CallIndirect-clause-cycles
returns-in-CallIndirect-clause-cycles c = λ functions program d fuel advances.
    indirect_there advances c.in-CallIndirect.is c.call_indirect.new.state c.call_indirect.result
    c.call_indirect.ensures.cycles

pub returns-in-CallIndirect-clause-less : goal.returns-in-CallIndirect-clause-less
returns-in-CallIndirect-clause-less c = λ functions program d fuel advances.
    less_work c.args.state.now c.args.state.now c.call_indirect.new.state fuel c.args.stop.fuel_left
    c.call_indirect.result (refl, refl) (less_fuel advances) c.call_indirect.ensures.less

pub returns-in-Trapped-clause-cycles : goal.returns-in-Trapped-clause-cycles
returns-in-Trapped-clause-cycles c = λ functions program d fuel advances.
    trapped_there advances c.in-Trapped.why c.in-Trapped.is c.trap.ensures.cleared
    c.trap.ensures.traps

pub returns-in-Trapped-clause-less : goal.returns-in-Trapped-clause-less
returns-in-Trapped-clause-less c = λ functions program d fuel advances.
    pauses_lessen c.args.state.now c.trap.new.state fuel c.trap.ensures.traps
