-- The disk of a story: lives that are run one after another on a disk in memory, and what a report
-- tells of them.
use Rattle.std.specs.Prelude.{◌≡◌, ℕ, ◌+◌, ◌-◌, ◌≤◌, Bool, true, false, List, [], ◌∷◌, ◌++◌}
use Rattle.std.specs.Prelude.{length, map, replicate, take, Option, Result, Ok, Err}
use Rattle.wasm_syntax.specs.declared.module.Module.{Module}
use Rattle.wasm_rules.specs.Acceptance.{IsAccepted}
use Rattle.wasi_abi.specs.declared.answer.Answer.{Answer}
use Rattle.wasi_abi.specs.rules.Configs.{Settings}
use Rattle.machine.specs.rules.Offers.{offer}
use Rattle.process_rules.specs.Runs.{Kept}
use Rattle.sector_disk.specs.declared.fault_disk.FaultDisk.{FaultDisk}
use Rattle.sector_disk.specs.declared.memory.MemDisk.{MemDisk}
use Rattle.sector_disk.specs.declared.sector.TheConstants.{SECTOR_SIZE}
use Rattle.sector_disk.specs.rules.FaultDisk.{disk_below, stop_of, fail_of, call_counts_of}
use Rattle.sector_disk.specs.rules.FaultDisk.{torn_front_of}
use Rattle.sector_disk.specs.rules.DiskImage.{DiskImage}
use Rattle.sector_disk.specs.rules.Medium.{Medium}
use Rattle.sector_disk.specs.rules.Memory.{memory_medium, memory_state_of, after_cut}
use Rattle.sector_disk.specs.rules.Trouble.{call_number, troubled}
use Rattle.disk_layout.specs.rules.Places.{geometry_of, total_sectors}
use Rattle.disk_layout.specs.rules.Unsynced.{most_unsynced}
use Rattle.worker_store.specs.restart_theorem.Courses.{HasStopped}
use Rattle.worker_store.specs.restart_theorem.Lives.{Life, Beginning}
use Rattle.worker_store.specs.restart_theorem.Promises.{GoesOn}
use Rattle.worker_store.specs.restart_theorem.Stands.{StandsFor}
use Rattle.worker.specs.declared.recover_fault.RecoverFault.{RecoverFault}
use Rattle.record_replay.specs.declared.refusing.RefusingOutlet.{RefusingOutlet}
use Rattle.record_replay.specs.rules.Lists.{inner_outlet, until_fault}
use Rattle.worker.specs.declared.story.hearing.HeardLines.{HeardLines}
use Rattle.worker.specs.declared.story.life.PlannedLife.{PlannedLife}
use Rattle.worker.specs.declared.story.report.LifeEnd.{LifeEnd}
use Rattle.worker.specs.declared.story.report.LifeEnd.TheVariants.{Finished, Stopped, Failed}
use Rattle.worker.specs.declared.story.report.LifeReport.{LifeReport}
use Rattle.worker.specs.declared.story.report.Opening.{Opening}
use Rattle.worker.specs.declared.story.report.Opening.TheVariants.{Recovered}
use Rattle.worker.specs.rules.OneLife.{recipe, one_life, IsOneLife, shown_first, undone_acts}
use Rattle.worker.specs.rules.DurableValues.{DurableValue}
use Rattle.worker.specs.rules.Planned.{inputs_of, act_of, call_at, number_refused}
use Rattle.worker.specs.rules.Scenes.{surroundings}
use Rattle.worker.specs.rules.Told.{TellsOpening, TellsEach, BeginFewCalls}
use Rattle.worker.specs.Hearing.{hands_out, hears}

-- so many sectors of zeros, and room for so many writes between two syncs
abbrev pub IsEmptyDisk : ℕ → ℕ → MemDisk → Type 0
IsEmptyDisk sectors writes disk = memory_state_of disk ≡ record {
  durable = replicate sectors (replicate SECTOR_SIZE 0);
  pending = [];
  limit = writes;
}

-- the disk of a worker of these bytes, without one: all its sectors, and room for as many writes as
-- ever wait for a sync
abbrev pub IsEmptyDiskFor : List ℕ → Settings → MemDisk → Type 0
IsEmptyDiskFor bytes config disk =
    IsEmptyDisk (total_sectors (geometry_of config (length bytes)))
    (most_unsynced (geometry_of config (length bytes))) disk

-- ---- one life

-- a disk in memory that is told where to stop and where to fail
abbrev pub story_medium : FaultDisk MemDisk → Medium
story_medium f =
    troubled (memory_medium f.inner) f.stop f.fail (length f.faults.items) (call_counts_of f)

-- The disk with which a life begins: over this one, told where to stop and where to fail, with no
-- call begun.
pub record IsBegunOn (planned : PlannedLife) (found : MemDisk) (disk : FaultDisk MemDisk)
    : Type 0 where
  pub below : disk_below disk ≡ found
  pub stop : stop_of disk ≡ planned.stop
  pub fail : fail_of disk ≡ planned.fail
  pub none_begun : call_counts_of disk ≡ record { reads = 0; writes = 0; syncs = 0 }

-- A recovered life tells the generation after that of the worker on the disk that it found.
abbrev pub IsNextGeneration : Medium → Opening → Type 0
IsNextGeneration found (Recovered generation steps answers lines bytes) =
    (image : DiskImage) (m : Module) (config : Settings) (kept : List Kept) (n : ℕ)
    → found.shows image → (stands : StandsFor image m config kept n)
    → total_sectors (geometry_of config (length stands.wasm)) ≤ found.sectors
    → generation ≡ stands.generation + 1
IsNextGeneration found other = Unit {0}

-- the front that a stop has left is one write
abbrev pub front_count : Bool → ℕ
front_count true = 1
front_count false = 0

-- A cut leaves of each write since the last good sync the front that these name, the oldest first.
-- They don't name the front of a stop.
abbrev pub IsCutBy : List ℕ → FaultDisk MemDisk → MemDisk → Type 0
IsCutBy tears last next = memory_state_of next ≡ after_cut (memory_state_of (disk_below last))
    (take (length (memory_state_of (disk_below last)).pending - front_count (torn_front_of last))
    tears)

-- After an error the next life finds the same disk, and else what a cut leaves.
abbrev pub IsNextDisk : List ℕ → LifeEnd → FaultDisk MemDisk → MemDisk → Type 0
IsNextDisk tears (Failed why) last next = next ≡ disk_below last
IsNextDisk tears Finished last next = IsCutBy tears last next
IsNextDisk tears Stopped last next = IsCutBy tears last next

-- the stop has come among so many calls, or has not, as a test says
abbrev pub StopSays : Bool → Option ℕ → ℕ → Type 0
StopSays true stop calls = HasStopped stop calls
StopSays false stop calls = HasStopped stop calls → ⊥

-- A life ends by its stop where that has come, and else as its calls did: all done, or by an error.
abbrev pub reported_end : Bool → Result (Unit {0}) RecoverFault → LifeEnd
reported_end true ended = Stopped
reported_end false (Ok done) = Finished
reported_end false (Err why) = Failed why

-- One life on the disk that it finds. Its calls are those of a worker, each as its clause says.
-- This is told of its opening, its lines, its calls of the disk and its end, and whether its stop
-- has left a front of a write. Then comes what the next life finds.
pub record IsRunOn (bytes : List ℕ) (config : Settings) (planned : PlannedLife)
    (report : LifeReport) (found next : MemDisk) : Type 0 where
  pub first : FaultDisk MemDisk
  pub begun : IsBegunOn planned found first
  pub last : FaultDisk MemDisk
  pub counted : report.calls ≡ call_number (call_counts_of last)
  pub torn_front : report.has_torn_front ≡ torn_front_of last
  pub begins : Beginning
  pub worker : Option DurableValue
  pub ended : Result (Unit {0}) RecoverFault
  pub unasked : List Answer
  pub unheard : RefusingOutlet HeardLines
  pub none_heard : (inner_outlet unheard).lines ≡ []
  pub refuse : until_fault unheard ≡ number_refused planned.refuse
  pub heard : RefusingOutlet HeardLines
  pub calls : IsOneLife story_medium hands_out hears (recipe bytes config)
      (map act_of planned.acts) (surroundings first planned.answers unheard)
      (one_life begins worker (undone_acts ended) (surroundings last unasked heard))
  pub opened : TellsOpening begins (shown_first worker) report.opened
  pub generation : IsNextGeneration (memory_medium found) report.opened
  pub releases : report.releases ≡ (inner_outlet heard).lines
  pub is_stopped : Bool
  pub stops : StopSays is_stopped (call_at planned.stop) report.calls
  pub told_end : report.ended ≡ reported_end is_stopped ended
  pub next_disk : IsNextDisk planned.tears report.ended last next

-- ---- all lives

-- Lives that were run one after another, each on the disk that the one before it left, or on a
-- copy of that. A copy has the same sectors, the same writes since the last good sync, and room for
-- as many.
pub data AreRunOn (bytes : List ℕ) (config : Settings) : List PlannedLife → List LifeReport
    → MemDisk → MemDisk → Type 0 where
  none : {disk : MemDisk} → AreRunOn bytes config [] [] disk disk
  one_more : {planned : List PlannedLife} {reports : List LifeReport} {first found next : MemDisk}
      (one : PlannedLife) (report : LifeReport)
      → AreRunOn bytes config planned reports first found
      → IsRunOn bytes config one report found next
      → AreRunOn bytes config (planned ++ one ∷ []) (reports ++ report ∷ []) first next
  copied : {planned : List PlannedLife} {reports : List LifeReport} {first last copy : MemDisk}
      → AreRunOn bytes config planned reports first last
      → memory_state_of copy ≡ memory_state_of last
      → AreRunOn bytes config planned reports first copy

-- Where the bytes spell an accepted module, the report tells lives that go on as one that was never
-- stopped. They are of this module, and with what was put into each. They were run one after
-- another, on a disk that was empty at first, and has the sectors of this worker.
abbrev pub TellsLives : List ℕ → Settings → List PlannedLife → List LifeReport → Type 0
TellsLives bytes config planned reports = (m : Module) → IsAccepted offer config.pages bytes m
    → (lives : List Life) × GoesOn m config (map inputs_of planned) lives
    × TellsEach lives reports
    × BeginFewCalls (total_sectors (geometry_of config (length bytes))) lives
    × (first : MemDisk) × (last : MemDisk)
    × IsEmptyDiskFor bytes config first
    × AreRunOn bytes config planned reports first last
