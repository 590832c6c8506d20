-- What putting a machine together from parts promises.
use Rattle.std.specs.Prelude.{◌≡◌, ℕ, ◌*◌, ◌≤◌, List, [], ◌∷◌, ◌++◌, length}
use Rattle.guest_memory.specs.rules.Bytes.{page_size}
use Rattle.wasm_rules.specs.Configuration.{Program, Configuration}
use Rattle.machine_slots.specs.rules.Places.{ShownFrame}
use Rattle.machine.specs.declared.loading.fault.LoadFault.{LoadFault}
use Rattle.machine.specs.declared.loading.fault.LoadFault.TheVariants.{Unfit, Memory}
use Rattle.machine.specs.rules.Values.{MachineValue, ShowsIn}

-- the same with these frames, the innermost first
abbrev pub with_frames : List ShownFrame → MachineValue → MachineValue
with_frames frames v = record v { state = record v.state { frames = frames } }

-- the same without frames, globals, and calls to come
abbrev pub emptied : MachineValue → MachineValue
emptied v = record v { state = record v.state { frames = []; globals = []; later = [] } }

-- the same with one more frame inside all others, which has no slots yet
abbrev pub with_frame : ℕ → ℕ → MachineValue → MachineValue
with_frame function position v =
    with_frames (record { function = function; position = position; slots = [] } ∷ v.state.frames) v

-- one more slot of the innermost frame, after its others
abbrev pub IsSlotPushed : ℕ → MachineValue → MachineValue → Type 0
IsSlotPushed word old new =
    (place : ShownFrame) (places : List ShownFrame) → old.state.frames ≡ place ∷ places
    → new ≡ with_frames (record place { slots = place.slots ++ word ∷ [] } ∷ places) old

-- one more global, after the others
abbrev pub with_global : ℕ → MachineValue → MachineValue
with_global word v =
    record v { state = record v.state { globals = v.state.globals ++ word ∷ [] } }

-- one more call to come, before the others
abbrev pub with_call : ℕ → MachineValue → MachineValue
with_call function v = record v { state = record v.state { later = function ∷ v.state.later } }

-- it shows some configuration of some program of its module
pub record ShowsSome (v : MachineValue) : Type 0 where
  pub program : Program
  pub configuration : Configuration
  pub shows : ShowsIn v program configuration

-- Parts that don't fit show no configuration. Want of memory says nothing of them.
abbrev pub LoadDenies : MachineValue → LoadFault → Type 0
LoadDenies v Unfit = ShowsSome v → ⊥
LoadDenies v Memory = Unit {0}

-- these bytes aren't whole pages, or fewer or more of them than so many; or memory is wanted
abbrev pub BytesDenied : List ℕ → ℕ → ℕ → LoadFault → Type 0
BytesDenied bytes least_pages most_pages Unfit =
    (pages : ℕ) → length bytes ≡ pages * page_size → least_pages ≤ pages → pages ≤ most_pages → ⊥
BytesDenied bytes least_pages most_pages Memory = Unit {0}
