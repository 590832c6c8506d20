use Rattle.std.proofs.Common.{◌≢◌, ℕ, ◌<◌, get_or}
use Rattle.wasi_abi.specs.declared.call.Call.{Call}
use Rattle.wasi_abi.specs.rules.Calls.{name_of}
use Rattle.wasi_abi.proofs.call.Call.named.Given as goal

abbrev pub invariant-loop-call : goal.invariant-loop-call
invariant-loop-call l = (k : ℕ) (d : Call) → k < l.call-index
    → l.name ≢ name_of (get_or l.call-items k d)
