-- Machines that are put together again of what an image tells of them (this project's own).
use Rattle.std.specs.Prelude.{◌≡◌, ◌≢◌, ℕ, ◌+◌, ◌≤◌, List, [], ◌∷◌, ◌++◌, length, reverse}
use Rattle.std.specs.Prelude.{Result, Err}
use Rattle.std.specs.List.{AllByRecursion}
use Rattle.wasm_syntax.specs.declared.module.Module.{Module}
use Rattle.wasm_rules.specs.Linking.{HasEntry}
use Rattle.machine_slots.specs.declared.limits.TheConstants.{FRAMES}
use Rattle.machine_slots.specs.declared.slots.TheConstants.{SLOTS}
use Rattle.machine_slots.specs.rules.Places.{ShownFrame}
use Rattle.machine_frame.specs.rules.Stacked.{slots_held}
use Rattle.machine.specs.declared.loading.fault.LoadFault.{LoadFault}
use Rattle.machine.specs.declared.loading.fault.LoadFault.TheVariants as load
use Rattle.machine.specs.rules.Loading.{with_frames}
use Rattle.machine.specs.rules.Values.{MachineValue, IsSameMachine, with_memory}
use Rattle.state_image.specs.declared.reading.progress.ReadPhase.{ReadPhase}
use Rattle.state_image.specs.declared.reading.progress.ReadPhase.TheVariants as read
use Rattle.state_image.specs.declared.restoring.fault.RestoreFault.{RestoreFault}
use Rattle.state_image.specs.declared.restoring.fault.RestoreFault.TheVariants as fault
use Rattle.state_image.specs.rules.ProcessImage.{machine_bytes}
use Rattle.state_image.specs.rules.Ranges.{HasMachine, IsPlaceIn, IsWhole}
use Rattle.state_image.specs.rules.Reading.{HasField}

-- ---- the whole

-- `_start` is to come while the start function runs, or else nothing
abbrev pub AreToCome : Module → ReadPhase → List ℕ → Type 0
AreToCome m read.Starting later = (entry : ℕ) × HasEntry m entry × (later ≡ entry ∷ [])
AreToCome m read.Running later = later ≡ []
AreToCome m (read.Exited code) later = later ≡ []
AreToCome m (read.Trapped why) later = later ≡ []

-- This machine has the module, table and limits of the linked one, and in this phase the calls to
-- come. Its fields are in front of these bytes, and those after them are left.
pub record IsReadMachine (linked : MachineValue) (phase : ReadPhase) (old new : List ℕ)
    (v : MachineValue) : Type 0 where
  pub same : IsSameMachine linked v
  pub limit : v.limit ≡ linked.limit
  pub later : AreToCome v.guest phase v.state.later
  pub within : HasMachine v.state
  pub is : old ≡ machine_bytes v.state ++ new

-- what a fault of loading is to whoever restores
abbrev pub restore_fault : LoadFault → RestoreFault
restore_fault load.Unfit = fault.NotAnImage
restore_fault load.Memory = fault.Memory

-- ---- part by part

-- A field was read from bytes, and put into a machine.
pub record PutsField {X : Type 0} (bytes : X → List ℕ) (InRange : X → Type 0)
    (put : X → MachineValue → MachineValue) (before after : MachineValue) (old new : List ℕ)
    : Type 0 where
  pub field : X
  pub has : HasField bytes InRange field old new
  pub is : after ≡ put field before

-- no field that may be put has its bytes in front, where that is the fault
abbrev pub RefusesField : {X : Type 0} → Result (Unit {0}) RestoreFault → (X → List ℕ)
    → (X → Type 0) → List ℕ → Type 0
RefusesField {X} result bytes MayBe old =
    result ≡ Err fault.NotAnImage → (x : X) (rest : List ℕ) → MayBe x → old ≢ bytes x ++ rest

-- the calls to come were put before the others
pub record PutsCalls (phase : ReadPhase) (before after : MachineValue) : Type 0 where
  pub calls : List ℕ
  pub are : AreToCome before.guest phase calls
  pub is : after ≡ record before {
    state = record before.state { later = calls ++ before.state.later };
  }

-- the same with these words after its globals
abbrev pub with_globals_behind : List ℕ → MachineValue → MachineValue
with_globals_behind words v =
    record v { state = record v.state { globals = v.state.globals ++ words } }

-- the same with this frame inside all others
abbrev pub with_frame_inside : ShownFrame → MachineValue → MachineValue
with_frame_inside place v = with_frames (place ∷ v.state.frames) v

-- the same with these frames inside all others, the outermost of them first
abbrev pub with_frames_inside : List ShownFrame → MachineValue → MachineValue
with_frames_inside places v = with_frames (reverse places ++ v.state.frames) v

-- frames with these words after the slots of the innermost one
abbrev pub slots_behind : List ℕ → List ShownFrame → List ShownFrame
slots_behind words [] = []
slots_behind words (place ∷ places) = record place { slots = place.slots ++ words } ∷ places

abbrev pub with_slots_behind : List ℕ → MachineValue → MachineValue
with_slots_behind words v = with_frames (slots_behind words v.state.frames) v

-- the same with these bytes in memory
abbrev pub with_bytes_in : List ℕ → MachineValue → MachineValue
with_bytes_in bytes v = with_memory v (record { bytes = bytes; limit = v.limit })

-- so many frames
pub record AreSoManyPlaces (count : ℕ) (places : List ShownFrame) : Type 0 where
  pub number : length places ≡ count
  pub each : AllByRecursion IsPlaceIn places

-- the stack has room for frames inside of others
pub record HaveStackRoom (outer places : List ShownFrame) : Type 0 where
  pub few : length outer + length places ≤ FRAMES
  pub slots : slots_held outer + slots_held places ≤ SLOTS

-- whole pages, no fewer and no more than so many
pub record IsMemoryWithin (least_pages most_pages : ℕ) (memory : List ℕ) : Type 0 where
  pub whole : IsWhole memory
  pub least : least_pages ≤ whole.pages
  pub most : whole.pages ≤ most_pages
