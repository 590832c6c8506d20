-- Where a machine comes to on fuel, and after an answer of the host.
use Rattle.std.specs.Prelude.{◌≡◌, ◌≢◌, ◌↔◌, ℕ, suc, ◌+◌, ◌<◌, Bool, IsTrue, List, [], map, reverse}
use Rattle.std.specs.Prelude.{Option, Some, None, slice_get}
use Rattle.wasm_syntax.specs.declared.types.FunctionType.{FunctionType}
use Rattle.wasm_syntax.specs.declared.value.Value.{Value}
use Rattle.wasm_syntax.specs.declared.value.Trap.{Trap}
use Rattle.wasm_syntax.specs.declared.module.Module.{Module}
use Rattle.wasi_abi.specs.declared.call.Call.{Call}
use Rattle.wasi_abi.specs.rules.Calls.{call_type_of}
use Rattle.wasm_rules.specs.Types.{AreOf, number_in, takes_of, gives_of}
use Rattle.wasm_rules.specs.Configuration.{Imported, Program, Thread, Configuration, Asks, Traps}
use Rattle.wasm_rules.specs.Steps.{counted_step, stopped, answered, IsEnded, ReducesTo, Steps}
use Rattle.wasm_rules.specs.Instantiation.{Begins}
use Rattle.wasm_rules.specs.Linking.{IsLinkable}
use Rattle.machine.specs.rules.Offers.{offer, AreImportedCalls}
use Rattle.machine.specs.declared.execution.pause.Pause.{Pause}
use Rattle.machine.specs.declared.execution.pause.Pause.TheVariants as pause
use Rattle.machine.specs.declared.execution.pause.Paused.{Paused}
use Rattle.machine.specs.declared.execution.pause.HostCall.{HostCall}
use Rattle.machine.specs.rules.Values.{MachineValue, HoldsMemory, ShowsIn}

-- ---- the beginning

-- The machine is of this module, and has begun. For each program of the module under so many pages,
-- of which there is one, it shows where that begins.
pub record HasBegun (pages : ℕ) (m : Module) (v : MachineValue) : Type 0 where
  pub guest : v.guest ≡ m
  pub linkable : IsLinkable offer pages m
  pub holds : HoldsMemory v
  pub shows : (program : Program) (d : Configuration) → Begins m pages linkable.entry program d
      → ShowsIn v program d
  pub begins : (program : Program) × (d : Configuration) × Begins m pages linkable.entry program d

-- ---- fuel

-- so many counted steps of the fuel lead to a configuration that the machine then shows
pub record Arrives (new : MachineValue) (program : Program) (d : Configuration)
    (fuel fuel_left : ℕ) : Type 0 where
  pub configuration : Configuration
  pub steps : ℕ
  pub used : steps + fuel_left ≡ fuel
  pub ran : Steps program steps d configuration
  pub shows : ShowsIn new program configuration

-- The counted step asks the host for the function that is this call of the module's imports, with
-- arguments of its types, the first one first.
pub record AsksFor (m : Module) (program : Program) (d : Configuration) (call : Call)
    (arguments : List ℕ) : Type 0 where
  pub function : ℕ
  pub operands : List Value
  pub waits : Thread
  pub asks : counted_step program d ≡ Asks function operands waits
  pub calls : List Call
  pub are_calls : AreImportedCalls m.imports calls
  pub is_call : slice_get calls function ≡ Some call
  pub is_imported : slice_get program.functions function ≡ Some (Imported (call_type_of call))
  pub typed : AreOf (takes_of (call_type_of call)) operands
  pub are : arguments ≡ reverse (map number_in operands)

-- The counted step after so many traps, which is one more of the fuel. The machine then shows that
-- configuration without a thread.
pub record TrapsAfter (new : MachineValue) (program : Program) (d : Configuration)
    (fuel fuel_left : ℕ) (why : Trap) : Type 0 where
  pub configuration : Configuration
  pub steps : ℕ
  pub used : suc steps + fuel_left ≡ fuel
  pub ran : Steps program steps d configuration
  pub traps : counted_step program configuration ≡ Traps why
  pub shows : ShowsIn new program (stopped configuration)

-- Why it pauses. The fuel is spent and the program has not ended. Or some is left, and a call of
-- the host waits. Or it has ended, or it has trapped.
abbrev pub RunsFor : MachineValue → Program → Configuration → ℕ → ℕ → Pause → Type 0
RunsFor new program d fuel fuel_left pause.Spent = (a : Arrives new program d fuel fuel_left)
    × (a.configuration.thread ≢ []) × (fuel_left ≡ 0)
RunsFor new program d fuel fuel_left (pause.Host asked) = (a : Arrives new program d fuel fuel_left)
    × AsksFor new.guest program a.configuration asked.call asked.arguments × (0 < fuel_left)
RunsFor new program d fuel fuel_left pause.Returned = (a : Arrives new program d fuel fuel_left)
    × IsEnded a.configuration
RunsFor new program d fuel fuel_left (pause.Trapped why) = TrapsAfter new program d
    fuel fuel_left why

-- whichever configuration of whichever program it showed
abbrev pub RunsOnFuel : MachineValue → ℕ → Paused → MachineValue → Type 0
RunsOnFuel old fuel paused new = (program : Program) (d : Configuration) → ShowsIn old program d
    → RunsFor new program d fuel paused.fuel_left paused.why

-- ---- what waits

-- the counted step asks the host for nothing
abbrev pub AsksNothing : Program → Configuration → Type 0
AsksNothing program d = (f : ℕ) (arguments : List Value) (waits : Thread)
    → counted_step program d ≡ Asks f arguments waits → ⊥

-- the call that the counted step asks the host for, or none where it asks for nothing
abbrev pub TellsCall : Module → Program → Configuration → Option HostCall → Type 0
TellsCall m program d None = AsksNothing program d
TellsCall m program d (Some asked) = AsksFor m program d asked.call asked.arguments

-- whichever configuration of whichever program it shows
abbrev pub TellsWaiting : MachineValue → Option HostCall → Type 0
TellsWaiting v told = (program : Program) (d : Configuration) → ShowsIn v program d
    → TellsCall v.guest program d told

-- whether that configuration has ended
abbrev pub TellsEnd : MachineValue → Bool → Type 0
TellsEnd v told = (program : Program) (d : Configuration) → ShowsIn v program d → IsTrue told
    ↔ IsEnded d

-- ---- answers

-- the machine waits at a call of the host, of a type that gives such results
pub record WaitsFor (results : List Value) (v : MachineValue) : Type 0 where
  pub program : Program
  pub configuration : Configuration
  pub shows : ShowsIn v program configuration
  pub function : ℕ
  pub arguments : List Value
  pub waits : Thread
  pub signature : FunctionType
  pub asks : counted_step program configuration ≡ Asks function arguments waits
  pub is_imported : slice_get program.functions function ≡ Some (Imported signature)
  pub gives : AreOf (gives_of signature) results

-- The answer reduces to a configuration that the machine then shows.
pub record Finishes (new : MachineValue) (program : Program) (answer : Configuration) : Type 0 where
  pub configuration : Configuration
  pub reduces : ReducesTo program answer configuration
  pub shows : ShowsIn new program configuration

-- whichever call of the host it waited at that gives such results, with the bytes that memory had
-- then
abbrev pub Answers : List Value → MachineValue → MachineValue → Type 0
Answers results old new =
    (program : Program) (d : Configuration) (f : ℕ) (arguments : List Value) (waits : Thread)
    (signature : FunctionType)
    → ShowsIn old program d → counted_step program d ≡ Asks f arguments waits
    → slice_get program.functions f ≡ Some (Imported signature) → AreOf (gives_of signature) results
    → Finishes new program (answered d old.state.memory results waits)

-- ---- the end by the host

-- whichever configuration it showed, without its thread
abbrev pub Stops : MachineValue → MachineValue → Type 0
Stops old new = (program : Program) (d : Configuration) → ShowsIn old program d
    → ShowsIn new program (stopped d)
