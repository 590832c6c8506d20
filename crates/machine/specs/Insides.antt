-- What a machine's code and state stand for, whatever its memory is.
use Rattle.std.specs.Prelude.{◌≡◌, ℕ, ◌*◌, ◌≤◌, List, length}
use Rattle.std.specs.List.{AllByRecursion}
use Rattle.wasm_syntax.specs.declared.types.FunctionType.{FunctionType}
use Rattle.wasm_syntax.specs.declared.module.Module.{Module}
use Rattle.guest_memory.specs.rules.Bytes.{IsByte, page_size}
use Rattle.guest_memory.specs.rules.Memories.{LinearMemory, IsWithinLimit}
use Rattle.wasm_rules.specs.Validity.{memories_of}
use Rattle.wasm_rules.specs.Configuration.{Program, Configuration}
use Rattle.wasm_rules.specs.Steps.{IsReduced}
use Rattle.wasm_rules.specs.Typed.{IsTypedEntry}
use Rattle.machine_frame.specs.rules.Stacked.{AreStacked}
use Rattle.machine_frame.specs.rules.Threads.{machine_state_of}
use Rattle.machine.specs.declared.execution.code.Executable.{Executable}
use Rattle.machine.specs.declared.execution.state.State.{State}
use Rattle.machine.specs.Execution.Codes.{parts_of_state, IsExecutable, StateStandsFor}
use Rattle.machine.specs.rules.Values.{MachineValue, IsProgramIn, least_of}

-- what is seen of them
abbrev pub seen : Executable → State → ℕ → MachineValue
seen code s most_pages = record {
  guest = code.«module»;
  most_pages = most_pages;
  table = code.table.items;
  state = machine_state_of (parts_of_state s);
  limit = s.memory.limit;
}

-- whole pages of bytes, so many at least, with this limit
pub record IsMemoryFor (least_pages most_pages : ℕ) (memory : LinearMemory) : Type 0 where
  pub limit : memory.limit ≡ most_pages
  pub least : least_pages * page_size ≤ length memory.bytes
  pub shape : IsWithinLimit memory
  pub bytes : AllByRecursion IsByte memory.bytes

-- it stands for some reduced configuration of the program
pub record IsReducedIn (code : Executable) (s : State) (functions : List FunctionType)
    (program : Program) : Type 0 where
  pub configuration : Configuration
  pub stands : StateStandsFor code s functions program configuration
  pub reduced : IsReduced program configuration

abbrev pub with_memory_of : State → LinearMemory → State
with_memory_of s memory = record s { memory = memory }

-- no memory is imported
abbrev pub HasOwnMemories : Module → Type 0
HasOwnMemories m = memories_of m ≡ m.memories

-- The code has a program, whose memory has room for its least pages. With each memory that may be
-- in the place of the state's own, the state stands for some reduced configuration of each program.
pub record IsMachine (code : Executable) (s : State) (most_pages : ℕ) : Type 0 where
  pub functions : List FunctionType
  pub program : Program
  pub is : IsProgramIn code.«module» most_pages functions program
  pub own : HasOwnMemories code.«module»
  pub fits : least_of code.«module» ≤ most_pages
  pub reduced : (memory : LinearMemory) (functions : List FunctionType) (program : Program)
      → IsMemoryFor (least_of code.«module») most_pages memory
      → IsProgramIn code.«module» most_pages functions program
      → IsReducedIn code (with_memory_of s memory) functions program

-- ---- a machine that is put together

-- the code is that of each program, with a table of its functions
pub record IsLoadedCode (code : Executable) (most_pages : ℕ) : Type 0 where
  pub functions : List FunctionType
  pub program : Program
  pub is : IsProgramIn code.«module» most_pages functions program
  pub is_code : (functions : List FunctionType) (program : Program)
      → IsProgramIn code.«module» most_pages functions program
      → IsExecutable code functions program
  pub table : (functions : List FunctionType) (program : Program)
      → IsProgramIn code.«module» most_pages functions program
      → AllByRecursion (IsTypedEntry program) code.table.items

-- Its frames have their words, and its memory has the least pages and may have so many.
pub record IsLoading (code : Executable) (s : State) (most_pages : ℕ) : Type 0 where
  pub loaded : IsLoadedCode code most_pages
  pub own : HasOwnMemories code.«module»
  pub stacked : AreStacked s.frames s.slots
  pub limit : s.memory.limit ≡ most_pages
  pub least : least_of code.«module» * page_size ≤ length s.memory.bytes
