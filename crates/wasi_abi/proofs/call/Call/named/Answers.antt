use Rattle.std.proofs.Common.{arith}
use Rattle.wasi_abi.specs.rules.Calls.{all_calls}
use Rattle.wasi_abi.proofs.CallLemmas.{every_call, passed}
use Rattle.wasi_abi.proofs.call.Call.named.Goals as goal

pub returns-clause-none : goal.returns-clause-none
returns-clause-none c call e =
    let place = every_call call in
    c.loop-call.invariant place.0 call (omega (arith, place.1)) (rw place.2 e)

pub loop-call-preserved : goal.loop-call-preserved
loop-call-preserved c k d h =
    passed all_calls c.loop-call.call-index c.args.name.now c.name.result.now c.loop-call-test.true
    c.name.ensures c.if-eq.ensures (λ j e below. c.loop-call.invariant j e below) k d h
