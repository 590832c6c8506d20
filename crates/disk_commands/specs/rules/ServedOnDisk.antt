-- What `wasmhost run` does with the worker on a disk (this project's own).
use Rattle.std.specs.Prelude.{◌≡◌, ◌≢◌, ◌+◌, ℕ, Bool, true, false, List, [], ◌++◌, Option, Some}
use Rattle.std.specs.Prelude.{None, Result, Ok, Err, IfSome, codes, is_some}
use Rattle.wasi_abi.specs.rules.Configs.{Settings}
use Rattle.wasi_abi.specs.rules.Versions.{text_limit}
use Rattle.sector_disk.specs.rules.DiskImage.{DiskImage}
use Rattle.sector_disk.specs.rules.Medium.{Medium}
use Rattle.disk_layout.specs.rules.Stored.{OnlyReads}
use Rattle.record_replay.specs.rules.Calls.{Giving, Taking}
use Rattle.record_replay.specs.declared.slices.now.Now.{Now}
use Rattle.record_replay.specs.declared.slices.now.Now.TheVariants.{Spent}
use Rattle.worker.specs.declared.fault.WorkFault.{WorkFault}
use Rattle.worker.specs.declared.recover_fault.RecoverFault.{RecoverFault}
use Rattle.worker.specs.declared.recover_fault.RecoverFault.TheVariants as recover
use Rattle.worker.specs.rules.DurableValues.{DurableValue}
use Rattle.worker.specs.rules.LifeWords.{Act, by_recovery}
use Rattle.worker.specs.rules.Outlets.{HeedsOutlet, IsOutletFault, SaysOutletFault}
use Rattle.worker.specs.rules.Effects.{RecoversWorker}
use Rattle.worker.specs.rules.Recoveries.{IsNoWorker, IsJustSynced}
use Rattle.worker.specs.rules.OneLife.{IsOneLife, one_life, recipe}
use Rattle.worker.specs.rules.Scenes.{scene, surroundings}
use Rattle.command_words.specs.declared.lines.outside.Outside.{Outside}
use Rattle.command_words.specs.Lines.Answers.{SourceState, source_state, HandsNext}
use Rattle.command_words.specs.rules.Printers.{PrinterState, IsSaid, TellsPerson}
use Rattle.command_words.specs.rules.Texts.{named_number}
use Rattle.command_words.specs.declared.status.Status.{Status}
use Rattle.disk_commands.specs.declared.on_disk.fault.OnDiskFault.{OnDiskFault}
use Rattle.disk_commands.specs.rules.BrokenLives.{BreaksOffFrom, steps_among}
use Rattle.disk_commands.specs.rules.DiskStatuses.{IsReportedOnDisk, opening_fault, status_on_disk}
use Rattle.worker.specs.rules.Outcomes.{life_outcome}
use Rattle.disk_commands.specs.rules.Hearings.{AsksUnless, MayRefuse}
use Rattle.disk_commands.specs.rules.Paces.{act_at, IsPaced}
use Rattle.disk_commands.specs.rules.LastWords.{SaysOver, ended_by}
use Rattle.disk_commands.specs.rules.TrapFrames.{IsModuleOn}

-- What such a run is given: the steps of a slice, the slices between two checkpoints, how many
-- lines one sync may serve, the lines of a reader, where times and random bytes come from, and
-- whether a read of the reader has failed.
pub record DiskJob : Type 0 where
  pub fuel : ℕ
  pub every : ℕ
  pub batch : ℕ
  pub lines : Option (List ℕ)
  pub outside : Outside
  pub failed : Bool

-- a job of these parts
abbrev pub disk_job : ℕ → ℕ → ℕ → Option (List ℕ) → Outside → Bool → DiskJob
disk_job fuel every batch lines outside failed = record {
  fuel = fuel;
  every = every;
  batch = batch;
  lines = lines;
  outside = outside;
  failed = failed;
}

-- what its worker is told to do between two checkpoints
abbrev pub act_given : DiskJob → Act
act_given given = act_at given.fuel given.batch

-- before such a run: what it is given, the disk, the outlet of its lines, and the printer of its
-- last words
pub record RunStart (D O : Type 0) : Type 0 where
  pub given : DiskJob
  pub disk : D
  pub outlet : O
  pub err : PrinterState

-- a start of these parts
abbrev pub run_start : {D O : Type 0} → DiskJob → D → O → PrinterState → RunStart D O
run_start given disk outlet err = record {
  given = given;
  disk = disk;
  outlet = outlet;
  err = err;
}

-- after it: the same, and whether a read of the reader has failed
pub record RunEnd (D O : Type 0) : Type 0 where
  pub disk : D
  pub outlet : O
  pub err : PrinterState
  pub failed : Bool

-- an end of these parts
abbrev pub run_end : {D O : Type 0} → D → O → PrinterState → Bool → RunEnd D O
run_end disk outlet err failed = record {
  disk = disk;
  outlet = outlet;
  err = err;
  failed = failed;
}

-- the same with this disk
abbrev pub ending_on : {D O : Type 0} → RunEnd D O → D → RunEnd D O
ending_on after disk = run_end disk after.outlet after.err after.failed

-- where a command on a disk tells something: the outlet of the worker's lines, and the printer of
-- its last words
pub record Outputs (O : Type 0) : Type 0 where
  pub outlet : O
  pub err : PrinterState

-- these two
abbrev pub outputs : {O : Type 0} → O → PrinterState → Outputs O
outputs outlet err = record { outlet = outlet; err = err }

-- Where the source of a worker is that was just opened: after the requests that the worker has
-- taken, and before the first word of the seed's stream of its generation. The text of a request
-- may be as long as the worker's version has it.
abbrev pub source_behind : DiskJob → DurableValue → SourceState
source_behind given w =
    source_state given.outside (text_limit w.process.host.host.version) w.store.journal.generation
    w.process.requests 0 given.lines given.failed None

-- what the source gives
abbrev pub handing : Giving SourceState
handing old question said new = HandsNext question old said new

-- The disk was synced once and then only read, and nothing was released.
pub record IsOnlySynced {D O : Type 0} (medium : D → Medium) (found last : D)
    (outlet outlet' : O) : Type 0 where
  pub synced_disk : D
  pub synced : IsJustSynced (medium found) (medium synced_disk)
  pub read : OnlyReads (medium synced_disk) (medium last)
  pub same : outlet' ≡ outlet

-- The worker isn't opened: a recovery has failed so. Where there is none, that is all. Else all
-- that was done is a life that failed while it was opened, if the answers of the disk fit an image.
-- The outlet took each line, unless that fault is the outlet's.
pub record IsUnopenedRun {D O : Type 0} (medium : D → Medium) (takes : Taking O)
    (why : RecoverFault) (found last : D) (outlet outlet' : O) : Type 0 where
  pub recovers : RecoversWorker medium takes (Err why) found last outlet outlet'
  pub none : IsNoWorker why → IsOnlySynced medium found last outlet outlet'
  pub life : (IsNoWorker why → ⊥) → (image : DiskImage) → (medium last).crash_images image
      → (bytes : List ℕ) (config : Settings) (acts : List Act) (source : SourceState)
      → IsOneLife medium handing takes (recipe bytes config) acts
      (surroundings found source outlet)
      (one_life by_recovery None (Err why) (surroundings last source outlet'))
  pub heeded : HeedsOutlet takes (IsOutletFault why) outlet outlet'

-- The worker was recovered. Then this disk and this outlet were left, to which some lines were told
-- once more. All that was done is one life, at this pace, if the answers of that disk fit an image.
-- No question was refused in it, unless its error is that of the source, or one by which waiting
-- lines of a batch were not told. The outlet took each line, unless its error is the outlet's.
pub record LivesOnDisk {D O : Type 0} (medium : D → Medium) (takes : Taking O)
    (undone : Result (List Act) RecoverFault) (before : RunStart D O) (after : RunEnd D O)
    (source' : SourceState) : Type 0 where
  pub worker : DurableValue
  pub opening : D
  pub retold : O
  pub recovers : RecoversWorker medium takes (Ok worker) before.disk opening before.outlet retold
  pub acts : List Act
  pub paced : IsPaced (act_given before.given) before.given.every acts
  pub heard : AsksUnless handing (MayRefuse (act_given before.given) undone)
      (source_behind before.given worker) source'
  pub heeded : HeedsOutlet takes (SaysOutletFault undone) before.outlet after.outlet
  pub life : (image : DiskImage) → (medium opening).crash_images image
      → (bytes : List ℕ) (config : Settings)
      → IsOneLife medium handing takes (recipe bytes config) acts
      (surroundings before.disk (source_behind before.given worker) before.outlet)
      (one_life by_recovery (Some worker) undone (surroundings after.disk source' after.outlet))

-- The last act of that life has answered this.
abbrev pub HasOutcome : {D O : Type 0} {medium : D → Medium} {takes : Taking O}
    {undone : Result (List Act) RecoverFault} {before : RunStart D O} {after : RunEnd D O}
    {source' : SourceState} → LivesOnDisk medium takes undone before after source' → Now → Type 0
HasOutcome {medium = medium} lives now =
    (image : DiskImage) (leaves : (medium lives.opening).crash_images image) (bytes : List ℕ)
    (config : Settings) → life_outcome (lives.life image leaves bytes config) ≡ now

-- A call of that life has failed so, whichever process its worker showed when it was recovered.
abbrev pub HasBrokenOff : {D O : Type 0} {medium : D → Medium} {takes : Taking O}
    {undone : Result (List Act) RecoverFault} {before : RunStart D O} {after : RunEnd D O}
    {source' : SourceState} → LivesOnDisk medium takes undone before after source'
    → WorkFault → Type 0
HasBrokenOff {takes = takes} {before = before} {after = after} {source' = source'} lives why =
    BreaksOffFrom handing takes (act_given before.given) (steps_among lives.acts)
    (scene lives.worker lives.opening (source_behind before.given lives.worker) lives.retold) why
    source' after.outlet

-- ---- what a person is told

-- the end of that line: which request comes after so many, unless the worker has ended
abbrev pub awaited_words : Bool → ℕ → List ℕ
awaited_words true taken = codes " steps\n"
awaited_words false taken = named_number (codes " steps, next request ") (taken + 1) ++ codes "\n"

-- the line once a worker is recovered: its generation, where it is, how far it was replayed, and
-- which request it takes next
abbrev pub recovered_line : DurableValue → List ℕ
recovered_line w =
    named_number (codes "recovered generation ") w.store.journal.generation
    ++ named_number (codes " at step ") w.process.steps
    ++ named_number (codes ", replayed ") w.replayed
    ++ awaited_words (is_some w.process.ended) w.process.requests

-- ---- what each exit status says

-- The worker isn't opened, and the status says why. Or a person is told that it is recovered, where
-- one reads along. Then it lives until an act doesn't just spend its fuel, which is the last one.
-- Behind it the disk is only read. The last words are those of what that act has answered, and
-- names of frames are those of the module on that disk. Where a person reads along, they have the
-- number after the requests that were taken. Or a call of it fails, and the status says why: a
-- fault of the source is told as that of a request line, where there is one. Lines wait then only
-- where that call's own clause says so.
pub data ServesOnDisk {D O : Type 0} (medium : D → Medium) (takes : Taking O)
    (before : RunStart D O) (after : RunEnd D O) (status : Status) : Type 0 where
  unopened : (why : RecoverFault)
      → IsUnopenedRun medium takes why before.disk after.disk before.outlet after.outlet
      → after.failed ≡ before.given.failed
      → IsSaid (status_on_disk (opening_fault why)) before.err status after.err
      → ServesOnDisk medium takes before after status
  over : (now : Now) (source' : SourceState) (between : PrinterState) (last : D) → now ≢ Spent
      → OnlyReads (medium last) (medium after.disk)
      → (lives : LivesOnDisk medium takes (Ok []) before (ending_on after last) source')
      → HasOutcome lives now → source'.failed ≡ after.failed
      → TellsPerson (recovered_line lives.worker) before.err between
      → (bytes : Option (List ℕ)) → IfSome bytes (IsModuleOn (medium after.disk))
      → SaysOver bytes before.err.on_terminal (ended_by now) source'.taken between status after.err
      → ServesOnDisk medium takes before after status
  broken : (why : WorkFault) (told : OnDiskFault) (source' : SourceState) (between : PrinterState)
      → (lives : LivesOnDisk medium takes (Err (recover.Worker why)) before after source')
      → HasBrokenOff lives why → source'.failed ≡ after.failed
      → IsReportedOnDisk why source'.fault told → TellsPerson (recovered_line lives.worker)
      before.err between → IsSaid (status_on_disk told) between status after.err
      → ServesOnDisk medium takes before after status
