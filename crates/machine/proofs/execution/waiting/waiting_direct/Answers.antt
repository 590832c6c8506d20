use Rattle.std.proofs.Common.{[], refl}
use Rattle.machine.proofs.CycleLemmas.Codes.{read_at, none_at}
use Rattle.machine.proofs.CycleLemmas.CalledCycles.{direct_import, direct_own, arguments_there}
use Rattle.machine.proofs.CycleLemmas.WaitingCalls.{none_where_own, told_asked}
use Rattle.machine.proofs.execution.waiting.waiting_direct.Goals as goal

pub call_below-requires : goal.call_below-requires
call_below-requires c =
    let r = c.requires.stands in
    let at = read_at c.args.function c.as_slice.ensures.value c.in-Some.ensures.lookup.3.0
    c.in-Some.ensures.lookup.1 in
    arguments_there r.stands 0 [] (direct_import r.stands c.requires.here at) refl refl

pub returns-in-Some : goal.returns-in-Some
returns-in-Some c = λ functions program d stands.
    let at = read_at c.args.function c.as_slice.ensures.value c.in-Some.ensures.lookup.3.0
    c.in-Some.ensures.lookup.1 in
    told_asked stands [] 0 c.call_below.result at (direct_import stands c.requires.here at) refl
    refl c.call_below.ensures

pub returns-in-None : goal.returns-in-None
returns-in-None c = λ functions program d stands.
    let at = none_at c.args.function c.as_slice.ensures.value c.in-None.ensures.lookup.3 in
    none_where_own (direct_own stands c.requires.here at)
