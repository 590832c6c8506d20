-- Processes that are made again of what an image tells (this project's own).
use Rattle.std.specs.Prelude.{◌≡◌, ◌≢◌, ◌⊎◌, ℕ, ◌+◌, ◌≤◌, ◌<◌, ◌^◌, List, [], ◌∷◌, ◌++◌, length}
use Rattle.std.specs.Prelude.{Option, Some, None}
use Rattle.std.specs.List.{AllByRecursion}
use Rattle.wasm_syntax.specs.declared.limits.TheConstants.{GLOBALS}
use Rattle.wasm_syntax.specs.declared.module.Module.{Module}
use Rattle.wasm_rules.specs.Validity.{IsValid}
use Rattle.wasm_rules.specs.Linking.{HasEntry}
use Rattle.wasi_abi.specs.rules.Configs.{Settings}
use Rattle.wasi_abi.specs.rules.Versions.{text_limit}
use Rattle.wasi_calls_rules.specs.WasiStates.{IsWasiState}
use Rattle.wasi_calls.specs.rules.Held.{HeldWasiState}
use Rattle.machine_slots.specs.declared.slots.TheConstants.{SLOTS}
use Rattle.machine.specs.declared.instance.fault.LinkFault.{LinkFault}
use Rattle.machine.specs.declared.instance.fault.LinkFault.TheVariants as link
use Rattle.machine.specs.rules.Loading.{ShowsSome}
use Rattle.machine.specs.rules.Values.{MachineValue, IsSameMachine}
use Rattle.process.specs.declared.stop.ProcessEnd.{ProcessEnd}
use Rattle.process.specs.declared.stop.ProcessEnd.TheVariants as end
use Rattle.process.specs.rules.Values.{ProcessValue, process_of, waiting_in}
use Rattle.state_image.specs.declared.reading.progress.ReadPhase.{ReadPhase}
use Rattle.state_image.specs.declared.reading.progress.ReadPhase.TheVariants as read
use Rattle.state_image.specs.declared.restoring.progress.ProcessProgress.{ProcessProgress}
use Rattle.state_image.specs.declared.restoring.fault.RestoreFault.{RestoreFault}
use Rattle.state_image.specs.declared.restoring.fault.RestoreFault.TheVariants as fault
use Rattle.state_image.specs.rules.ProcessImage.{Saved, process_image_mark, counts_bytes}
use Rattle.state_image.specs.rules.ProcessImage.{phase_bytes, streams_bytes, process_image}
use Rattle.state_image.specs.rules.Parts.{counts_of, read_phase, read_end_of, streams_of, texts_of}
use Rattle.state_image.specs.rules.Ranges.{FitsCounts, FitsCode, FitsStreams, HasMachine}
use Rattle.state_image.specs.rules.Saving.{saved_of}
use Rattle.state_image.specs.rules.WellTyped.{IsOutermost, IsAlive, IsConfigured}
use Rattle.state_image.specs.rules.WellTyped.{IsPlaceWithin, slots_in}
use Rattle.state_image.specs.restoring.Machines.{AreToCome}

-- ---- what is before the machine

-- the version, the counts, the end and the streams are those of this process
pub record IsProgressOf (p : ProcessProgress) (s : Saved) : Type 0 where
  pub version : s.version ≡ p.version
  pub counts : counts_of s ≡ p.counts
  pub end : read_end_of s ≡ p.end
  pub streams : streams_of s ≡ texts_of p.streams

-- they are within the fields
pub record FitsProgress (s : Saved) : Type 0 where
  pub counts : FitsCounts s
  pub code : FitsCode s
  pub streams : FitsStreams s

-- the mark and these of a process, before other bytes
abbrev pub progress_before : Saved → List ℕ → List ℕ
progress_before s rest =
    process_image_mark s.version ++ (counts_bytes s ++ (phase_bytes s ++ (streams_bytes s ++ rest)))

-- Each process with these has them in front, and no process that has other ones.
pub record HasProgress (p : ProcessProgress) (old new : List ℕ) : Type 0 where
  pub fits : (s : Saved) → IsProgressOf p s → FitsProgress s
  pub is : (s : Saved) → IsProgressOf p s → old ≡ progress_before s new
  pub only : (s : Saved) (rest : List ℕ) → FitsProgress s → old ≡ progress_before s rest
      → IsProgressOf p s × (new ≡ rest)

-- these were read, or no process has its own in front
abbrev pub ReadsProgress : Option ProcessProgress → List ℕ → List ℕ → Type 0
ReadsProgress (Some p) old new = HasProgress p old new
ReadsProgress None old new =
    (s : Saved) (rest : List ℕ) → FitsProgress s → old ≢ progress_before s rest

-- ---- the process

-- how a process has ended in this phase
abbrev pub end_in : ReadPhase → Option ProcessEnd
end_in read.Starting = None
end_in read.Running = None
end_in (read.Exited code) = Some (end.Exited code)
end_in (read.Trapped why) = Some (end.Trapped why)

-- the process with this machine, this host and these counts
abbrev pub process_behind : ProcessProgress → MachineValue → HeldWasiState → ProcessValue
process_behind p machine host =
    process_of machine host p.counts.steps p.counts.answers p.counts.requests (end_in p.end.phase)

-- nothing is to come, or `_start` alone
abbrev pub MayCome : Module → List ℕ → Type 0
MayCome m later = (later ≡ []) ⊎ ((entry : ℕ) × HasEntry m entry × (later ≡ entry ∷ []))

-- This process was read from bytes in front of others, into a linked machine.
pub record IsReadProcess (linked : MachineValue) (config : Settings) (old new : List ℕ)
    (v : ProcessValue) : Type 0 where
  pub valid : IsValid linked.guest
  pub same : IsSameMachine linked v.machine
  pub shows : ShowsSome v.machine
  pub slots : slots_in v.machine.state.frames ≤ SLOTS
  pub later : AreToCome v.machine.guest (read_phase v.ended v.machine.state.later)
      v.machine.state.later
  pub progress : FitsProgress (saved_of v)
  pub machine : HasMachine v.machine.state
  pub host : IsWasiState v.host.host
  pub next : v.host.host.files.next < 2 ^ 64
  pub configured : IsConfigured config v.host.host
  pub none_waits : waiting_in v ≡ []
  pub is : old ≡ process_image (saved_of v) ++ new

-- what is left to be asked of a process as its image has it, where this function is `_start`
pub record MayBeAccepted (m : Module) (entry : ℕ) (s : Saved) : Type 0 where
  pub outermost : IsOutermost (record { start = m.start; entry = entry }) s.machine.later
      s.machine.frames
  pub alive : IsAlive s.ended s
  pub globals : length s.machine.globals ≤ GLOBALS
  pub places : AllByRecursion IsPlaceWithin s.machine.frames
  pub unread : length s.unread ≤ text_limit s.version + 1
  pub next : s.files.next ≤ s.steps + 2

-- what a fault of linking is to whoever restores
abbrev pub fault_of_link : LinkFault → RestoreFault
fault_of_link link.Memory = fault.Memory
fault_of_link link.NoStart = fault.NotAnImage
fault_of_link link.NoMemory = fault.NotAnImage
fault_of_link link.UnknownImport = fault.NotAnImage
fault_of_link link.ImportType = fault.NotAnImage
fault_of_link link.InitRange = fault.NotAnImage
fault_of_link link.TooManyPages = fault.NotAnImage
