-- What becomes of a machine when the bytes of its memory are written, and that it shows one
-- configuration.
use Rattle.std.specs.Prelude.{◌≡◌, ℕ, List, length}
use Rattle.std.specs.List.{AllByRecursion}
use Rattle.wasm_syntax.specs.declared.value.Value.{Value}
use Rattle.wasi_abi.specs.declared.call.Call.{Call}
use Rattle.wasi_abi.specs.rules.Calls.{call_type_of}
use Rattle.guest_memory.specs.rules.Bytes.{IsByte}
use Rattle.guest_memory.specs.rules.Memories.{LinearMemory}
use Rattle.wasm_rules.specs.Types.{AreOf, gives_of}
use Rattle.wasm_rules.specs.Configuration.{Program, Thread, Configuration, Asks}
use Rattle.wasm_rules.specs.Steps.{counted_step}
use Rattle.machine.specs.rules.Values.{MachineValue, ShowsIn, with_memory}
use Rattle.machine.specs.rules.Runs.{AsksFor, WaitsFor}

-- the same with these bytes in memory
abbrev pub with_memory_bytes : Configuration → List ℕ → Configuration
with_memory_bytes d bytes = record d { store = record d.store { memory = bytes } }

-- With another memory of as many bytes and the same limit in the place of its own, a machine shows
-- the configuration that it showed, with the other bytes.
abbrev pub ShowsWhatIsWritten : Type 0
ShowsWhatIsWritten =
    (v : MachineValue) (memory : LinearMemory) (program : Program) (d : Configuration)
    → length memory.bytes ≡ length v.state.memory → AllByRecursion IsByte memory.bytes
    → memory.limit ≡ v.limit
    → ShowsIn v program d
    → ShowsIn (with_memory v memory) program (with_memory_bytes d memory.bytes)

-- Where a function of the host is asked for, the same is asked for whatever bytes are in memory.
abbrev pub AsksTheSame : Type 0
AsksTheSame =
    (program : Program) (d : Configuration) (bytes : List ℕ) (f : ℕ) (arguments : List Value)
    (waits : Thread)
    → counted_step program d ≡ Asks f arguments waits
    → counted_step program (with_memory_bytes d bytes) ≡ Asks f arguments waits

-- So a machine that has asked for a call waits for what the call gives, also with such a memory.
abbrev pub WaitsForTheCall : Type 0
WaitsForTheCall =
    (v : MachineValue) (memory : LinearMemory) (program : Program) (d : Configuration) (call : Call)
    (numbers : List ℕ) (results : List Value)
    → length memory.bytes ≡ length v.state.memory → AllByRecursion IsByte memory.bytes
    → memory.limit ≡ v.limit
    → ShowsIn v program d → AsksFor v.guest program d call numbers
    → AreOf (gives_of (call_type_of call)) results
    → WaitsFor results (with_memory v memory)

-- A machine shows one configuration at most, of one program.
abbrev pub MachineShowsOne : Type 0
MachineShowsOne = (v : MachineValue) (p q : Program) (d e : Configuration) → ShowsIn v p d
    → ShowsIn v q e → (p ≡ q) × (d ≡ e)
