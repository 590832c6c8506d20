-- What code and state stand for.
use Rattle.std.specs.Prelude.{◌≡◌, ℕ, ◌+◌, ◌*◌, ◌≤◌, ◌^◌, List, ◌++◌, length, map, reverse, Some}
use Rattle.std.specs.Prelude.{slice_get}
use Rattle.std.specs.List.{AllByRecursion}
use Rattle.wasm_syntax.specs.declared.types.FunctionType.{FunctionType}
use Rattle.wasm_rules.specs.Types.{imported_functions}
use Rattle.wasm_syntax.specs.rules.Modules.{function_type_of}
use Rattle.wasm_rules.specs.Validity.{IsValid, AreFunctionTypes, module_context}
use Rattle.wasm_rules.specs.Instantiation.{IsProgram}
use Rattle.wasm_rules.specs.Linking.{IsOffered}
use Rattle.wasm_rules.specs.Configuration.{Program, Configuration}
use Rattle.machine.specs.rules.Offers.{offer, AreImportedCalls}
use Rattle.machine_frame.specs.rules.Threads.{IsOwn, MachineParts, PartsStandFor}
use Rattle.machine.specs.Routines.Routines.{AreRoutines}
use Rattle.machine.specs.declared.execution.code.Executable.{Executable}
use Rattle.machine.specs.declared.execution.state.State.{State}

abbrev pub parts_of_state : State → MachineParts
parts_of_state s = record {
  frames = s.frames;
  words = s.slots;
  globals = s.globals.items;
  memory = s.memory;
  later = reverse s.later.items;
}

-- the code is that of this program of its module, all of whose imports the host offers
pub record IsExecutable (code : Executable) (functions : List FunctionType) (program : Program) :
    Type 0 where
  pub valid : IsValid code.«module»
  pub types : AreFunctionTypes code.«module» functions
  pub pages : ℕ
  pub few : pages ≤ 2 ^ 16
  pub is_program : IsProgram code.«module» pages program
  pub routines : AreRoutines code.«module» code.routines.items
  pub type_indices : code.type_indices.items ≡ imported_functions code.«module».imports
      ++ map function_type_of code.«module».functions
  pub calls : AreImportedCalls code.«module».imports code.calls.items
  pub offered : AllByRecursion (IsOffered offer code.«module».types) code.«module».imports

-- one of the module's own functions
pub record HasOwnFunction (code : Executable) (f : ℕ) : Type 0 where
  pub functions : List FunctionType
  pub program : Program
  pub is_code : IsExecutable code functions program
  pub own : IsOwn program f

-- a function's type
abbrev pub HasSignature : Executable → ℕ → FunctionType → Type 0
HasSignature code f signature = (x : ℕ) × (slice_get code.type_indices.items f ≡ Some x)
    × (slice_get code.«module».types x ≡ Some signature)

-- a function has a type, and there is one with this index
abbrev pub HaveSignatures : Executable → ℕ → ℕ → Type 0
HaveSignatures code f t = (signature : FunctionType) × HasSignature code f signature
    × (other : FunctionType) × (slice_get code.«module».types t ≡ Some other)

-- the state stands for this configuration of the program, reduced or not
pub record StateStandsFor (code : Executable) (state : State) (functions : List FunctionType)
    (program : Program) (d : Configuration) : Type 0 where
  pub is_code : IsExecutable code functions program
  pub stands : PartsStandFor (module_context code.«module» functions) program code.table.items
      (parts_of_state state) d

-- it stands for some
pub record StandsForSome (code : Executable) (state : State) : Type 0 where
  pub functions : List FunctionType
  pub program : Program
  pub configuration : Configuration
  pub stands : StateStandsFor code state functions program configuration

-- what the administrative steps use up: frames, and calls of the host, each of which makes one
abbrev pub administrative_work : State → ℕ
administrative_work s = length s.frames + 2 * length s.later.items
