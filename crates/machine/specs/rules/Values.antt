-- What contracts see of a machine: the module that it runs, and what it shows of a configuration.
-- Nothing of how it holds that.
use Rattle.std.specs.Prelude.{◌≡◌, ℕ, ◌*◌, ◌≤◌, ◌^◌, List, [], length, Option}
use Rattle.wasm_syntax.specs.declared.types.FunctionType.{FunctionType}
use Rattle.wasm_syntax.specs.declared.module.Module.{Module}
use Rattle.guest_memory.specs.rules.Bytes.{page_size}
use Rattle.guest_memory.specs.rules.Memories.{LinearMemory}
use Rattle.wasm_rules.specs.Validity.{AreFunctionTypes, memories_of, module_context}
use Rattle.wasm_rules.specs.Instantiation.{IsProgram, least_pages_of}
use Rattle.wasm_rules.specs.Configuration.{Program, Configuration}
use Rattle.machine_slots.specs.rules.Places.{MachineState, Shows}

-- The module, how many pages memory may have in its program, its table and the state. Also how many
-- pages the memory that the machine holds may have. The last is the second, unless another memory
-- was put into its place.
pub record MachineValue : Type 0 where
  pub guest : Module
  pub most_pages : ℕ
  pub table : List (Option ℕ)
  pub state : MachineState
  pub limit : ℕ

-- the memory of a machine, with its limit
abbrev pub memory_of : MachineValue → LinearMemory
memory_of v = record { bytes = v.state.memory; limit = v.limit }

-- the same with this memory in the place of its own
abbrev pub with_memory : MachineValue → LinearMemory → MachineValue
with_memory v memory = record v {
  state = record v.state { memory = memory.bytes };
  limit = memory.limit;
}

-- the same without frames, and without calls to come
abbrev pub without_thread : MachineValue → MachineValue
without_thread v = record v { state = record v.state { frames = []; later = [] } }

-- how many pages memory has at least
abbrev pub least_of : Module → ℕ
least_of m = least_pages_of (memories_of m)

-- its memory has the module's minimum of pages at least, and may have as many as its program's
pub record HoldsMemory (v : MachineValue) : Type 0 where
  pub limit : v.limit ≡ v.most_pages
  pub least : least_of v.guest * page_size ≤ length v.state.memory

-- This is a program of the module, whose memory may have so many pages, and these are the types of
-- its functions.
pub record IsProgramIn (m : Module) (most_pages : ℕ) (functions : List FunctionType)
    (program : Program) : Type 0 where
  pub pages : ℕ
  pub few : pages ≤ 2 ^ 16
  pub is_program : IsProgram m pages program
  pub most : program.most_pages ≡ most_pages
  pub types : AreFunctionTypes m functions

-- It shows this configuration of this program of its module.
pub record ShowsIn (v : MachineValue) (program : Program) (d : Configuration) : Type 0 where
  pub functions : List FunctionType
  pub is : IsProgramIn v.guest v.most_pages functions program
  pub holds : HoldsMemory v
  pub shows : Shows (module_context v.guest functions) program v.table v.state d

-- nothing changes these
pub record IsSameMachine (old new : MachineValue) : Type 0 where
  pub guest : new.guest ≡ old.guest
  pub most_pages : new.most_pages ≡ old.most_pages
  pub table : new.table ≡ old.table
