-- What the code of one call answers, as an outcome of a call.
use Rattle.std.specs.Prelude.{Result, Ok, Err}
use Rattle.wasi_abi.specs.declared.errno.Errno.{Errno}
use Rattle.wasi_calls.specs.declared.outcome.CallOutcome.{CallOutcome}
use Rattle.wasi_calls.specs.declared.stop.CallStop.{CallStop}
use Rattle.wasi_calls.specs.declared.outcome.CallOutcome.TheVariants as outcome
use Rattle.wasi_calls.specs.declared.stop.CallStop.TheVariants as stop

-- how a call ends that is done, or refused
abbrev pub check_outcome : Result (Unit {0}) Errno → CallOutcome
check_outcome (Ok done) = outcome.Done
check_outcome (Err e) = outcome.Refused e

-- how a call ends that is done, or stopped
abbrev pub call_outcome : Result (Unit {0}) CallStop → CallOutcome
call_outcome (Ok done) = outcome.Done
call_outcome (Err (stop.Refused e)) = outcome.Refused e
call_outcome (Err (stop.Asks question)) = outcome.Ask question
call_outcome (Err stop.Memory) = outcome.Memory
