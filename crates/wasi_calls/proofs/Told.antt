-- What is told of calls of every host that is shown.
use Rattle.std.proofs.Common.{◌≡◌, refl, ap}
use Rattle.std.specs.Prelude.{Result, Ok, Err, OnOk, IfErr}
use Rattle.guest_memory.specs.rules.Memories.{LinearMemory}
use Rattle.wasi_abi.specs.declared.errno.Errno.{Errno}
use Rattle.wasi_calls_rules.specs.WasiStates.{WasiState}
use Rattle.wasi_calls_rules.specs.Checks.{Bytes, Refuses, Ruling}
use Rattle.wasi_calls_rules.specs.CallRules.{TellsCallRule}
use Rattle.wasi_calls.specs.rules.Held.{HeldWasiState}
use Rattle.wasi_calls.specs.rules.Calls.{ending_of_call}
use Rattle.wasi_calls.specs.Calls.{check_outcome, call_outcome}
use Rattle.wasi_calls.specs.declared.stop.CallStop.{CallStop}
use Rattle.wasi_calls.specs.declared.stop.CallStop.TheVariants as stop
use Rattle.wasi_calls.specs.Steps.{StopsStep}

same_host : (held old : HeldWasiState) → held ≡ old → held.host ≡ old.host
same_host held old e = ap (λ (x : HeldWasiState). x.host) e

-- a call that takes no memory, and whatever memory holds
pub checked_told : (r : Result (Unit {0}) Errno) (held old : HeldWasiState) (rule : Bytes → Ruling)
    → ((m : Bytes) → OnOk r (rule m ≡ Ok (record { memory = m; host = held.host })))
    → ((m : Bytes) → IfErr r (λ e. rule m ≡ Err (Refuses e))) → IfErr r (λ _. held ≡ old)
    → (m : Bytes) → TellsCallRule (ending_of_call (check_outcome r)) m held.host m old.host (rule m)
checked_told (Ok x) held old rule done refused kept m = done m
checked_told (Err e) held old rule done refused kept m =
    (refused m, refl, same_host held old kept)

-- a call that changes nothing
pub unchanged_told : (r : Result (Unit {0}) Errno) (held : HeldWasiState) (rule : Bytes → Ruling)
    → ((m : Bytes) → OnOk r (rule m ≡ Ok (record { memory = m; host = held.host })))
    → ((m : Bytes) → IfErr r (λ e. rule m ≡ Err (Refuses e)))
    → (m : Bytes) → TellsCallRule (ending_of_call (check_outcome r)) m held.host m
    held.host (rule m)
unchanged_told (Ok x) held rule done refused m = done m
unchanged_told (Err e) held rule done refused m = (refused m, refl, refl)

-- a call that changes memory alone
pub memory_told : (r : Result (Unit {0}) Errno) (m old : LinearMemory) (host : WasiState)
    (rule : Ruling) → OnOk r (rule ≡ Ok (record { memory = m.bytes; host = host }))
    → IfErr r (λ e. rule ≡ Err (Refuses e)) → IfErr r (λ _. m ≡ old)
    → TellsCallRule (ending_of_call (check_outcome r)) m.bytes host old.bytes host rule
memory_told (Ok x) m old host rule done refused kept = done
memory_told (Err e) m old host rule done refused kept =
    (refused, ap (λ (x : LinearMemory). x.bytes) kept, refl)

-- a call that may want memory, and whatever memory holds
pub stopped_told : (r : Result (Unit {0}) CallStop) (held old : HeldWasiState)
    (rule : Bytes → Ruling) → ((m : Bytes) → OnOk r (rule m
    ≡ Ok (record { memory = m; host = held.host }))) → ((m : Bytes)
    → IfErr r (λ why. StopsStep why (rule m))) → IfErr r (λ _. held ≡ old)
    → (m : Bytes) → TellsCallRule (ending_of_call (call_outcome r)) m held.host m old.host (rule m)
stopped_told (Ok x) held old rule done stops kept m = done m
stopped_told (Err (stop.Refused e)) held old rule done stops kept m =
    (stops m, refl, same_host held old kept)
stopped_told (Err (stop.Asks question)) held old rule done stops kept m =
    (stops m, refl, same_host held old kept)
stopped_told (Err stop.Memory) held old rule done stops kept m =
    (stops m, refl, same_host held old kept)
