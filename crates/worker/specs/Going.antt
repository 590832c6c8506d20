-- Lives that have gone on, and the disk that the last of them left.
use Rattle.std.specs.Prelude.{◌≡◌, ℕ, ◌≤◌, List, [], ◌++◌, length, map, ◌+◌, ◌*◌}
use Rattle.wasm_syntax.specs.declared.module.Module.{Module}
use Rattle.wasm_rules.specs.Acceptance.{IsAccepted}
use Rattle.wasi_abi.specs.rules.Configs.{Settings}
use Rattle.machine.specs.rules.Offers.{offer}
use Rattle.sector_disk.specs.declared.memory.MemDisk.{MemDisk}
use Rattle.sector_disk.specs.rules.Medium.{Medium}
use Rattle.sector_disk.specs.rules.Memory.{memory_medium, memory_state_of, MemoryState}
use Rattle.disk_layout.specs.rules.Places.{geometry_of, total_sectors}
use Rattle.disk_layout.specs.rules.Unsynced.{most_unsynced}
use Rattle.worker_store.specs.restart_theorem.Lives.{Life}
use Rattle.worker_store.specs.restart_theorem.Promises.{Promise, nothing_yet, promised_by, IsLived}
use Rattle.worker_store.specs.restart_theorem.Promises.{GoOn}
use Rattle.worker_store.specs.restart_theorem.Holds.{KeepsPromise, KeepsBounds}
use Rattle.worker_store.specs.restart_theorem.Successions.{promised_by_all}
use Rattle.worker.specs.declared.story.life.PlannedLife.{PlannedLife}
use Rattle.worker.specs.declared.story.report.LifeReport.{LifeReport}
use Rattle.worker.specs.declared.story.starting.StoryStart.{StoryStart}
use Rattle.worker.specs.rules.CallCounts.{most_calls}
use Rattle.worker.specs.rules.Planned.{inputs_of}
use Rattle.worker.specs.rules.StoryDisks.{IsEmptyDiskFor, AreRunOn}
use Rattle.worker.specs.rules.Told.{TellsLife, TellsEach, BeginFewCalls}

-- the disk has just the sectors of a worker of these bytes, and room for as many writes as ever
-- wait for a sync
pub record HasAllRoom (bytes : List ℕ) (config : Settings) (disk : Medium) : Type 0 where
  pub sectors : total_sectors (geometry_of config (length bytes)) ≡ disk.sectors
  pub writes : most_unsynced (geometry_of config (length bytes)) ≤ disk.room

-- a disk that keeps this promise, with room for its worker
pub record IsKeptOn (m : Module) (bytes : List ℕ) (config : Settings) (promise : Promise)
    (disk : MemDisk) : Type 0 where
  pub keeps : KeepsPromise m config promise (memory_medium disk)
  pub within : KeepsBounds promise.events (memory_medium disk)
  pub room : HasAllRoom bytes config (memory_medium disk)

-- One life of what was put in keeps what was promised before it, and this is told of it. The disk
-- that the next one finds keeps what is promised then.
pub record IsReportedOn (m : Module) (bytes : List ℕ) (config : Settings) (planned : PlannedLife)
    (so_far : Promise) (report : LifeReport) (next : MemDisk) : Type 0 where
  pub life : Life
  pub lived : IsLived m config so_far (inputs_of planned) life
  pub told : TellsLife life report
  pub few : life.calls
      ≤ (length life.events + 1) * most_calls (total_sectors (geometry_of config (length bytes)))
  pub kept : IsKeptOn m bytes config (promised_by so_far life) next

-- so it is whatever was promised on the disk that the life found
abbrev pub LivesOn : List ℕ → Settings → PlannedLife → MemDisk → LifeReport → MemDisk → Type 0
LivesOn bytes config planned found report next =
    (m : Module) (so_far : Promise) → IsAccepted offer config.pages bytes m
    → IsKeptOn m bytes config so_far found
    → IsReportedOn m bytes config planned so_far report next

-- The lives so far go on, and are told. They were run on a disk that was empty at first, and the
-- disk now keeps what they promised.
pub record HaveGoneOn (m : Module) (bytes : List ℕ) (config : Settings)
    (planned : List PlannedLife) (reports : List LifeReport) (disk : MemDisk) : Type 0 where
  pub lives : List Life
  pub go_on : GoOn m config nothing_yet (map inputs_of planned) lives
  pub told : TellsEach lives reports
  pub first : MemDisk
  pub empty : IsEmptyDiskFor bytes config first
  pub run : AreRunOn bytes config planned reports first disk
  pub few : BeginFewCalls (total_sectors (geometry_of config (length bytes))) lives
  pub kept : IsKeptOn m bytes config (promised_by_all nothing_yet lives) disk

-- so it is for the module that the bytes spell
abbrev pub GoneOn : List ℕ → Settings → List PlannedLife → List LifeReport → MemDisk → Type 0
GoneOn bytes config planned reports disk = (m : Module) → IsAccepted offer config.pages bytes m
    → HaveGoneOn m bytes config planned reports disk

-- ---- lives that go on from others

-- Whatever lives have gone on to the disk that is found, these go on behind them. They leave the
-- last disk, and what is told of them comes behind what was told.
abbrev pub GoOnBehind : List ℕ → Settings → List PlannedLife → MemDisk → List LifeReport → MemDisk
    → List LifeReport → Type 0
GoOnBehind bytes config planned found told last all = (earlier : List PlannedLife)
    (before : List LifeReport) → GoneOn bytes config earlier (before ++ told) found
    → GoneOn bytes config (earlier ++ planned) (before ++ all) last

-- one report more for each life
abbrev pub AddsReports : List PlannedLife → List LifeReport → List LifeReport → Type 0
AddsReports planned told all =
    (more : List LifeReport) × (all ≡ told ++ more) × (length more ≡ length planned)

-- a disk of so many sectors, which takes so many writes between two syncs
pub record HasSize (sectors writes : ℕ) (disk : MemDisk) : Type 0 where
  pub sectors_are : length (memory_state_of disk).durable ≡ sectors
  pub writes_are : (memory_state_of disk).limit ≡ writes

-- the state of a disk that holds what was kept of one
abbrev pub kept_at : StoryStart → MemoryState
kept_at start = record { durable = start.sectors.items; pending = []; limit = start.writes }

-- These lives have gone on to a start, and were told so: to any disk that holds what it keeps.
abbrev pub HaveStarted : List ℕ → Settings → List PlannedLife → List LifeReport → StoryStart
    → Type 0
HaveStarted bytes config planned reports start = (disk : MemDisk)
    → memory_state_of disk ≡ kept_at start → GoneOn bytes config planned reports disk
