use Rattle.std.proofs.Common.{◌≡◌, length, refl, sym, ap, ◌∙◌, arith}
use Rattle.machine.proofs.CycleLemmas.CalledCycles.{returned}
use Rattle.machine.proofs.CycleLemmas.Ending.{none_left, has_ended, calls, few_declared, host_comes}
use Rattle.machine.proofs.CycleLemmas.Ending.{called_next}
use Rattle.machine.proofs.execution.machine_loop.next_call.Goals as goal

pub returns-then-is_empty-clause-cycles : goal.returns-then-is_empty-clause-cycles
returns-then-is_empty-clause-cycles c = λ functions program d stands.
    let none = none_left c.as_slice.result.now (sym c.if-is_empty.true ∙ c.is_empty.ensures) in
    returned stands c.args.fuel (has_ended c.args.code.now c.args.state.now functions program d
    stands c.requires.over (sym c.as_slice.ensures.value ∙ none))

pub routine_of-routine-requires : goal.routine_of-routine-requires
routine_of-routine-requires c =
    let r = c.requires.stands in
    let h = (calls c.args.code.now c.args.state.now r.functions r.program r.configuration r.stands
    c.in-Some.function c.pop.new.self.items c.requires.over c.in-Some.ensures.items) in
    record { functions = r.functions; program = r.program; is_code = r.stands.is_code; own = h.own }

pub push-requires : goal.push-requires
push-requires c = rw c.requires.over (omega arith)

pub push_zeros-requires : goal.push_zeros-requires
push_zeros-requires c =
    let r = c.requires.stands in
    let h = (calls c.args.code.now c.args.state.now r.functions r.program r.configuration r.stands
    c.in-Some.function c.pop.new.self.items c.requires.over c.in-Some.ensures.items) in
    let few = few_declared c.args.code.now c.args.state.now r.functions r.program r.configuration
    r.stands h in
    let count = host_comes c.args.code.now c.args.state.now r.functions r.program r.configuration
    r.stands h c.routine_of-routine.ensures in
    let none : length c.args.state.now.slots ≡ 0 = ap length h.no_words in
    omega (arith, few, count, none)

pub returns-clause-cycles : goal.returns-clause-cycles
returns-clause-cycles c = λ functions program d stands.
    let h = calls c.args.code.now c.args.state.now functions program d stands c.in-Some.function
    c.pop.new.self.items c.requires.over c.in-Some.ensures.items in
    let count = host_comes c.args.code.now c.args.state.now functions program d stands h
    c.routine_of-routine.ensures in
    called_next c.args.code.now c.args.state.now functions program d stands c.args.fuel h _ count
    c.push.ensures c.push_zeros.ensures refl refl refl c.requires.over
