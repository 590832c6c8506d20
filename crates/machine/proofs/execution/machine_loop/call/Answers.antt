use Rattle.std.proofs.Common.{[], refl}
use Rattle.machine.proofs.CycleLemmas.Codes.{read_at, none_at}
use Rattle.machine.proofs.CycleLemmas.CalledCycles.{direct_import, direct_own, arguments_there}
use Rattle.machine.proofs.CycleLemmas.CalledCycles.{asked, enough, more_locals, few_locals, entered}
use Rattle.machine.proofs.execution.machine_loop.call.Goals as goal

pub ask-requires : goal.ask-requires
ask-requires c =
    let r = c.requires.stands in
    let at = read_at c.args.function c.as_slice.ensures.value c.in-Some.ensures.lookup.3.0
    c.in-Some.ensures.lookup.1 in
    arguments_there r.stands 0 [] (direct_import r.stands c.requires.here at) refl refl

pub routine_of-requires : goal.routine_of-requires
routine_of-requires c =
    let r = c.requires.stands in
    let at = none_at c.args.function c.as_slice.ensures.value c.in-None.ensures.lookup.3 in
    record {
      functions = r.functions;
      program = r.program;
      is_code = r.stands.is_code;
      own = (direct_own r.stands c.requires.here at).own;
    }

pub enter_or_trap-requires-clause-parameters : goal.enter_or_trap-requires-clause-parameters
enter_or_trap-requires-clause-parameters c =
    let r = c.requires.stands in
    let at = none_at c.args.function c.as_slice.ensures.value c.in-None.ensures.lookup.3 in
    enough r.stands (direct_own r.stands c.requires.here at) c.routine_of.ensures

pub enter_or_trap-requires-clause-locals : goal.enter_or_trap-requires-clause-locals
enter_or_trap-requires-clause-locals c =
    let r = c.requires.stands in
    let at = none_at c.args.function c.as_slice.ensures.value c.in-None.ensures.lookup.3 in
    more_locals r.stands (direct_own r.stands c.requires.here at) c.routine_of.ensures

pub enter_or_trap-requires-clause-few : goal.enter_or_trap-requires-clause-few
enter_or_trap-requires-clause-few c =
    let r = c.requires.stands in
    let at = none_at c.args.function c.as_slice.ensures.value c.in-None.ensures.lookup.3 in
    few_locals r.stands (direct_own r.stands c.requires.here at) c.routine_of.ensures

pub returns-in-Some-clause-cycles : goal.returns-in-Some-clause-cycles
returns-in-Some-clause-cycles c = λ functions program d stands.
    let at = read_at c.args.function c.as_slice.ensures.value c.in-Some.ensures.lookup.3.0
    c.in-Some.ensures.lookup.1 in
    asked stands 0 c.args.fuel [] c.ask.result c.requires.some at
    (direct_import stands c.requires.here at) refl refl c.ask.ensures.asks

pub returns-in-None-clause-cycles : goal.returns-in-None-clause-cycles
returns-in-None-clause-cycles c = λ functions program d stands.
    let at = none_at c.args.function c.as_slice.ensures.value c.in-None.ensures.lookup.3 in
    entered stands (direct_own stands c.requires.here at) c.routine_of.ensures c.args.fuel
    c.args.state.now c.enter_or_trap.new.state c.enter_or_trap.result c.requires.some refl
    c.enter_or_trap.ensures
