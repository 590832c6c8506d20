-- When a process as its image has it is well typed: the images of these are the ones that are
-- accepted (this project's own).
use Rattle.std.specs.Prelude.{◌≡◌, ◌≢◌, ℕ, ◌+◌, ◌<◌, ◌≤◌, ◌^◌, List, [], ◌∷◌}
use Rattle.std.specs.Prelude.{length, sum_by, Option, Some, None}
use Rattle.std.specs.List.{AllByRecursion}
use Rattle.wasm_syntax.specs.declared.types.FunctionType.{FunctionType}
use Rattle.wasm_syntax.specs.declared.module.Module.{Module}
use Rattle.wasm_rules.specs.Validity.{AreFunctionTypes, module_context, IsValid}
use Rattle.wasi_abi.specs.rules.Configs.{Settings}
use Rattle.wasi_abi.specs.rules.Versions.{text_limit, widenings}
use Rattle.wasi_calls_rules.specs.WasiStates.{WasiState, IsWasiState}
use Rattle.process_rules.specs.Processes.{Ending, ProcessState, Guest, host_of, IsStart}
use Rattle.process_rules.specs.Processes.{HasLineNumbers}
use Rattle.wasm_syntax.specs.declared.limits.TheConstants.{FUNCTIONS, INSTRUCTIONS, GLOBALS}
use Rattle.machine_slots.specs.declared.slots.TheConstants.{SLOTS}
use Rattle.machine_slots.specs.rules.Places.{ShownFrame}
use Rattle.state_image.specs.rules.ProcessImage.{Saved, SavedShowsProcess, ending_code}

-- what a module begins with: its start function, if it has one, and `_start`
pub record EntryPoints : Type 0 where
  pub start : Option ℕ
  pub entry : ℕ

-- the function that the host has called: `_start`, or the start function while `_start` is to come
abbrev pub IsCalled : EntryPoints → List ℕ → ℕ → Type 0
IsCalled b [] f = f ≡ b.entry
IsCalled b (later ∷ []) f = (later ≡ b.entry) × (b.start ≡ Some f)
IsCalled b (later ∷ other ∷ more) f = ⊥

-- the outermost frame is that of the function that the host has called
abbrev pub IsOutermost : EntryPoints → List ℕ → List ShownFrame → Type 0
IsOutermost b later [] = Unit {0}
IsOutermost b later (place ∷ []) = IsCalled b later place.function
IsOutermost b later (place ∷ next ∷ places) = IsOutermost b later (next ∷ places)

-- a process that runs has a frame; one that has ended has none, nothing to come, and no unfinished
-- line
abbrev pub IsAlive : Option Ending → Saved → Type 0
IsAlive None s = s.machine.frames ≢ []
IsAlive (Some why) s = (s.machine.frames ≡ []) × (s.machine.later ≡ []) × (s.first ≡ [])
    × (s.second ≡ [])

-- what no call changes is as the configuration has it
pub record IsConfigured (config : Settings) (h : WasiState) : Type 0 where
  pub room : h.room ≡ (host_of config).room
  pub arguments : h.arguments ≡ config.arguments
  pub environment : h.environment ≡ config.environment

-- a function and a position of a module within the limits
pub record IsPlaceWithin (place : ShownFrame) : Type 0 where
  pub function : place.function < FUNCTIONS
  pub position : place.position < INSTRUCTIONS

-- how many slots frames have
abbrev pub slots_in : List ShownFrame → ℕ
slots_in frames = sum_by (λ (place : ShownFrame). length place.slots) frames

-- What the limits on modules and on the stack leave of a machine. An exit's code has 32 bits, and
-- so have the addresses of a memory.
pub record IsWithinBounds (s : Saved) : Type 0 where
  pub code : ending_code s.ended < 2 ^ 32
  pub globals : length s.machine.globals ≤ GLOBALS
  pub places : AllByRecursion IsPlaceWithin s.machine.frames
  pub slots : slots_in s.machine.frames ≤ SLOTS
  pub memory : length s.machine.memory ≤ 2 ^ 32

-- It shows a process that this valid module could come to under this configuration, as far as
-- types and limits tell.
pub record IsWellTyped (m : Module) (config : Settings) (s : Saved) : Type 0 where
  pub valid : IsValid m
  pub guest : Guest
  pub start : ProcessState
  pub begins : IsStart m config guest start
  pub functions : List FunctionType
  pub function_types : AreFunctionTypes m functions
  pub process : ProcessState
  pub shown : SavedShowsProcess (module_context m functions) guest.program
      begins.begins.store.table s process
  pub host : IsWasiState process.host
  pub configured : IsConfigured config process.host
  pub outermost : IsOutermost (record { start = m.start; entry = begins.entry })
      s.machine.later s.machine.frames
  pub alive : IsAlive s.ended s
  pub steps : s.steps < 2 ^ 63
  pub lines : HasLineNumbers process.host
  -- that it was widened counts as an answer
  pub answers : s.answers ≤ s.steps + widenings s.version
  pub requests : s.requests ≤ s.answers
  pub bounds : IsWithinBounds s
  -- a request's text and its newline
  pub unread : length s.unread ≤ text_limit s.version + 1
  -- each step makes one node at most, beside the root and the number that comes next
  pub next : s.files.next ≤ s.steps + 2
