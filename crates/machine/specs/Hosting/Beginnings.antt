-- What a machine begins with.
use Rattle.std.specs.Prelude.{◌≡◌, ℕ, List, [], ◌++◌, map, reverse}
use Rattle.wasm_syntax.specs.declared.types.FunctionType.{FunctionType}
use Rattle.wasm_syntax.specs.declared.module.Module.{Module}
use Rattle.wasm_rules.specs.Types.{number_in, imported_functions}
use Rattle.wasm_syntax.specs.rules.Modules.{function_type_of}
use Rattle.wasm_rules.specs.Validity.{IsValid, AreFunctionTypes, memories_of}
use Rattle.wasm_rules.specs.Configuration.{Program, Store, Configuration}
use Rattle.wasm_rules.specs.Instantiation.{IsProgram, most_pages_of, calls_of}
use Rattle.wasm_rules.specs.Linking.{IsLinkable}
use Rattle.machine.specs.rules.Offers.{offer}
use Rattle.machine.specs.declared.instance.instance.Instance.{Instance}
use Rattle.machine.specs.Routines.Routines.{AreRoutines}
use Rattle.machine.specs.Execution.Codes.{StateStandsFor}
use Rattle.machine.specs.declared.hosting.starting.MachineStart.{MachineStart}
use Rattle.machine.specs.declared.hosting.starting.RunningParts.{RunningParts}

-- before the host's first call
abbrev pub first : Store → List ℕ → Configuration
first store later = record { store = store; thread = []; later = later }

-- the index of the type of each function of the module
abbrev pub type_indices_of : Module → List ℕ
type_indices_of m = imported_functions m.imports ++ map function_type_of m.functions

-- All that running needs beside this instance.
pub record ArePartsOf (i : Instance) (p : RunningParts) : Type 0 where
  pub valid : IsValid i.«module»
  pub type_indices : p.type_indices.items ≡ type_indices_of i.«module»
  pub routines : AreRoutines i.«module» p.routines.items
  pub frames : p.frames ≡ []
  pub slots : p.slots ≡ []
  pub globals : p.globals.items ≡ map number_in i.globals.items
  pub later : p.later.items ≡ reverse (calls_of i.«module».start i.entry)

-- Of this instance, with all that running needs, and before the host's first call.
pub record IsOfInstance (i : Instance) (b : MachineStart) : Type 0 where
  pub valid : IsValid i.«module»
  pub guest : b.code.«module» ≡ i.«module»
  pub calls : b.code.calls.items ≡ i.calls.items
  pub type_indices : b.code.type_indices.items ≡ type_indices_of i.«module»
  pub routines : AreRoutines i.«module» b.code.routines.items
  pub table : b.code.table.items ≡ i.table.items
  pub frames : b.state.frames ≡ []
  pub slots : b.state.slots ≡ []
  pub globals : b.state.globals.items ≡ map number_in i.globals.items
  pub memory : b.state.memory ≡ i.memory
  pub later : b.state.later.items ≡ reverse (calls_of i.«module».start i.entry)

-- The module can be linked under so many pages. It has a program, and for each that it has, the
-- state stands for the configuration before the host's first call.
pub record StartStands (pages : ℕ) (m : Module) (b : MachineStart) : Type 0 where
  pub guest : b.code.«module» ≡ m
  pub linkable : IsLinkable offer pages m
  pub limit : b.state.memory.limit ≡ most_pages_of (memories_of m) pages
  pub program : Program
  pub is_program : IsProgram m pages program
  pub functions : List FunctionType
  pub types : AreFunctionTypes m functions
  pub stands : (functions : List FunctionType) (program : Program) → AreFunctionTypes m functions
      → IsProgram m pages program
      → StateStandsFor b.code b.state functions program
      (first linkable.store (calls_of m.start linkable.entry))
