-- A worker that was read, and one that goes on from what it has left.
use Rattle.std.specs.Prelude.{ℕ, ◌+◌, ◌≤◌, List, length, Ok}
use Rattle.wasm_syntax.specs.declared.module.Module.{Module}
use Rattle.wasm_rules.specs.Acceptance.{IsAccepted}
use Rattle.wasi_abi.specs.rules.Configs.{Settings}
use Rattle.file_tree.specs.rules.Files.{only_named}
use Rattle.machine.specs.rules.Offers.{offer}
use Rattle.process_rules.specs.Origins.{Origin}
use Rattle.process_rules.specs.Processes.{ProcessState}
use Rattle.sector_disk.specs.rules.DiskImage.{DiskImage}
use Rattle.sector_disk.specs.rules.Medium.{Medium}
use Rattle.disk_layout.specs.rules.Places.{geometry_of, total_sectors}
use Rattle.worker_store.specs.restart_theorem.Holds.{HoldsPromise}
use Rattle.worker_store.specs.restart_theorem.Promises.{Promise}
use Rattle.worker_store.specs.restart_theorem.Successions.{IsLeft, promised_from}
use Rattle.worker.specs.declared.fault.WorkFault.{WorkFault}
use Rattle.worker.specs.declared.handover.Handover.{Handover}
use Rattle.worker.specs.rules.Successions.{KeepsSuccessor, ReadsLegacy, SuccessionKeeps}

-- what a process leaves: its named files, its lines, its counts with one step more, and its time
abbrev pub origin_left : ProcessState → Origin
origin_left p = record {
  files = only_named p.host.files;
  lines = p.host.lines;
  steps = p.steps + 1;
  answers = p.answers;
  requests = p.requests;
  last_monotonic = p.host.last_monotonic;
}

-- The one is left by its snapshot alone, at rest. The other's disk keeps what is promised of a
-- worker that goes on from there.
pub record IsFollowed (next : Module) (settings : Settings) {m : Module} {config : Settings}
    {promise : Promise} {image : DiskImage} (holds : HoldsPromise m config promise promise image)
    (disk : Medium) : Type 0 where
  pub left : IsLeft m config promise image holds.stands.process
  pub keeps : KeepsSuccessor next settings
      (promised_from holds.stands.saved.version (origin_left holds.stands.process)) disk

-- So it is of whatever worker the disk that was read shows, if that holds all that was promised.
-- Where its lives and those of the next one go on, their lines are one history (`Succession`).
abbrev pub SuccessorsFollow : {D N : Type 0} → (D → Medium) → (N → Medium) → Type 0
SuccessorsFollow {D} {N} medium next_medium =
    (old old' : D) (new new' : N) (left : Handover) (bytes : List ℕ) (settings : Settings)
    (m next : Module) (config : Settings) (promise : Promise) (image : DiskImage)
    (holds : HoldsPromise m config promise promise image)
    → ReadsLegacy (Ok left) (medium old) (medium old') → (medium old').shows image
    → total_sectors (geometry_of config (length holds.stands.wasm)) ≤ (medium old).sectors
    → SuccessionKeeps {E = WorkFault} bytes settings left.legacy (Ok tt) (next_medium new)
    (next_medium new') → IsAccepted offer settings.pages bytes next
    → IsFollowed next settings holds (next_medium new')
