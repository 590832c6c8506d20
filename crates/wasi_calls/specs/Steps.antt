-- How steps of the code keep to steps of a rule: what they give, or why they don't. Want of memory
-- comes only where the rule's step gives something.
use Rattle.std.specs.Prelude.{◌≡◌, Result, Ok, Err, IsOk}
use Rattle.wasi_abi.specs.declared.errno.Errno.{Errno}
use Rattle.wasi_calls_rules.specs.Checks.{Halt, Refuses, Asks}
use Rattle.wasi_calls.specs.declared.stop.CallStop.{CallStop}
use Rattle.wasi_calls.specs.declared.stop.CallStop.TheVariants as stop

-- a step that takes no memory
abbrev pub GivesValue : {X Y : Type 0} → (X → Y) → Result X Errno → Result Y Halt → Type 0
GivesValue view (Ok x) step = step ≡ Ok (view x)
GivesValue view (Err e) step = step ≡ Err (Refuses e)

-- why a step gives nothing
abbrev pub StopsStep : {Y : Type 0} → CallStop → Result Y Halt → Type 0
StopsStep (stop.Refused e) step = step ≡ Err (Refuses e)
StopsStep (stop.Asks question) step = step ≡ Err (Asks question)
StopsStep stop.Memory step = IsOk step
