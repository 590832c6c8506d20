-- The parts of a life on a disk: calls that were made of an open worker, and those that may follow.
use Rattle.std.specs.Prelude.{◌≡◌, ◌≢◌, ℕ, ◌-◌, ◌^◌, ◌≤◌, Bool, false, List, [], ◌∷◌, ◌++◌}
use Rattle.std.specs.Prelude.{Option, Result, Ok, Err, IfOk, IfErr, IfSome}
use Rattle.process_rules.specs.Processes.{ProcessState, Guest}
use Rattle.process.specs.rules.Values.{ShowsProcess, IsProcess}
use Rattle.sector_disk.specs.rules.Medium.{Medium}
use Rattle.disk_layout.specs.rules.Places.{total_sectors}
use Rattle.disk_layout.specs.rules.Stored.{OnlyReads}
use Rattle.record_replay.specs.rules.Calls.{Giving, Taking}
use Rattle.record_replay.specs.declared.slices.now.Now.{Now}
use Rattle.record_replay.specs.declared.slices.now.Now.TheVariants as now
use Rattle.record_replay.specs.rules.Slices.{Slices}
use Rattle.worker.specs.declared.fault.WorkFault.{WorkFault}
use Rattle.worker.specs.declared.recover_fault.RecoverFault.{RecoverFault}
use Rattle.worker.specs.declared.recover_fault.RecoverFault.TheVariants as recover
use Rattle.worker.specs.rules.DurableValues.{DurableValue, without_disk}
use Rattle.worker.specs.rules.DurableCalls.{ActCarries}
use Rattle.worker.specs.rules.LifeWords.{Act, Checkpoint, fuel_of}
use Rattle.worker.specs.rules.Outlets.{TakesEach, HeedsOutlet, IsOutletFault, SaysOutletFault}
use Rattle.worker.specs.rules.OneLife.{CallsInOrder, FailsBy}
use Rattle.worker.specs.rules.Scenes.{Scene, scene, ports_of, Surroundings, surroundings}
use Rattle.command_words.specs.Lines.Answers.{SourceState}
use Rattle.command_words.specs.rules.Printers.{PrinterState, IsSaid, TellsPerson}
use Rattle.command_words.specs.declared.status.Status.{Status}
use Rattle.disk_commands.specs.declared.on_disk.fault.OnDiskFault.{OnDiskFault}
use Rattle.disk_commands.specs.rules.DiskStatuses.{IsReportedOnDisk, status_on_disk}
use Rattle.worker.specs.rules.Outcomes.{outcome_after}
use Rattle.disk_commands.specs.rules.BrokenLives.{BreaksOffFrom, SlicesLead, process_scene}
use Rattle.disk_commands.specs.rules.BrokenLives.{steps_among}
use Rattle.disk_commands.specs.rules.Hearings.{AsksUnless, MayRefuse}
use Rattle.disk_commands.specs.rules.LastWords.{SaysOver, ended_by}
use Rattle.disk_commands.specs.rules.Paces.{round_of, IsPaced}
use Rattle.disk_commands.specs.rules.ServedOnDisk.{DiskJob, act_given, source_behind, handing}
use Rattle.disk_commands.specs.rules.ServedOnDisk.{RunStart, RunEnd, recovered_line}
use Rattle.disk_commands.specs.rules.TrapFrames.{IsModuleOn}

-- Slices lead from there to there by all of these steps, whichever process the worker showed.
abbrev pub SlicesLeadOn : {D S O : Type 0} → Giving S → Taking O → Scene D S O → ℕ → Scene D S O
    → Type 0
SlicesLeadOn gives takes from steps to =
    (guest : Guest) (p : ProcessState) → ShowsProcess from.worker.process guest p
    → SlicesLead gives takes (process_scene guest p from.source from.outlet) (ports_of to) steps
    to.worker.process

-- nothing is left to be done, or there was this error
abbrev pub undone_after : Result Now WorkFault → Result (List Act) RecoverFault
undone_after (Ok now) = Ok []
undone_after (Err why) = Err (recover.Worker why)

-- the steps that can still be counted
abbrev pub steps_left : DurableValue → ℕ
steps_left w = 2 ^ 63 - w.process.steps

module _ {D S O : Type 0} (medium : D → Medium) (gives : Giving S) (takes : Taking O) where
  -- These acts lead from there to there: whatever is done then is done after them. Their last slice
  -- has answered this; where there is none, it is that the worker goes on.
  pub record ActsLead (acts : List Act) (from : Scene D S O) (said : Now) (to : Scene D S O)
      : Type 0 where
    pub behind : (rest : List Act) (undone : Result (List Act) RecoverFault)
        (last : Surroundings D S O) → CallsInOrder medium gives takes rest to undone last
        → CallsInOrder medium gives takes (acts ++ rest) from undone last
    pub says : (rest : List Act) (undone : Result (List Act) RecoverFault)
        (last : Surroundings D S O) (done : CallsInOrder medium gives takes rest to undone last)
        → outcome_after now.Spent (behind rest undone last done) ≡ outcome_after said done

  -- This act was done, and has answered this: what is done then is done after it. The worker had
  -- not failed, and ran as a slice does. No question was refused, and no line. The disk has room
  -- for what comes next.
  pub record HasDoneOnce (act : Act) (from : Scene D S O) (said : Now) (to : Scene D S O) : Type 0
    where
      pub heard : AsksUnless gives ⊥ from.source to.source
      pub taken : TakesEach takes from.outlet to.outlet
      pub leads : ActsLead (act ∷ []) from said to
      pub shows : from.worker.has_failed ≡ false → IsProcess from.worker.process
      pub slices : Slices gives takes (without_disk from.worker) (fuel_of act) said
          (without_disk to.worker) (ports_of from) (ports_of to)
      pub room : total_sectors to.worker.store.geometry ≤ (medium to.disk).sectors

  -- It has failed so, whatever was to be done after it. No question was refused, unless its error
  -- allows that, and no line, unless it is the outlet's.
  pub record HasFailedOnce (act : Act) (from : Scene D S O) (why : WorkFault)
      (last : Surroundings D S O) : Type 0 where
    pub heard : AsksUnless gives (MayRefuse act (Err (recover.Worker why))) from.source last.source
    pub heeded : HeedsOutlet takes (IsOutletFault (recover.Worker why)) from.outlet last.outlet
    pub done : (rest : List Act)
        → CallsInOrder medium gives takes (act ∷ rest) from (Err (recover.Worker why)) last
    pub broken : BreaksOffFrom gives takes act (fuel_of act) from why last.source last.outlet

  -- At most so many of this act, with a checkpoint after them. The last one has answered this. They
  -- are just as many where its fuel is spent, and have taken all of their steps. No question was
  -- refused, and no line.
  pub record IsRound (act : Act) (every : ℕ) (from : Scene D S O) (why : Now) (to : Scene D S O)
      : Type 0 where
    pub count : ℕ
    pub some : 1 ≤ count
    pub within : count ≤ every
    pub whole : why ≡ now.Spent → count ≡ every
    pub heard : AsksUnless gives ⊥ from.source to.source
    pub taken : TakesEach takes from.outlet to.outlet
    pub leads : ActsLead (round_of act count) from why to
    pub spent : why ≡ now.Spent
        → SlicesLeadOn gives takes from (steps_among (round_of act count)) to

  -- One within which there was an error. No question was refused, unless it allows that, and no
  -- line, unless it is the outlet's.
  pub record IsBrokenRound (act : Act) (every : ℕ) (from : Scene D S O) (why : WorkFault)
      (last : Surroundings D S O) : Type 0 where
    pub count : ℕ
    pub some : 1 ≤ count
    pub within : count ≤ every
    pub heard : AsksUnless gives (MayRefuse act (Err (recover.Worker why))) from.source last.source
    pub heeded : HeedsOutlet takes (IsOutletFault (recover.Worker why)) from.outlet last.outlet
    pub done : CallsInOrder medium gives takes (round_of act count) from
        (Err (recover.Worker why)) last
    pub broken : BreaksOffFrom gives takes act (steps_among (round_of act count)) from why
        last.source last.outlet

  -- All that a worker is told at this pace is done, and the last act has answered this; or it is
  -- done up to this error. No question was refused, unless that allows it, and no line, unless it
  -- is the outlet's.
  pub record LivesAtPace (act : Act) (every : ℕ) (from : Scene D S O)
      (result : Result Now WorkFault) (last : Surroundings D S O) : Type 0 where
    pub acts : List Act
    pub paced : IsPaced act every acts
    pub heard : AsksUnless gives (MayRefuse act (undone_after result)) from.source last.source
    pub heeded : HeedsOutlet takes (SaysOutletFault (undone_after result)) from.outlet last.outlet
    pub done : CallsInOrder medium gives takes acts from (undone_after result) last
    pub says : IfOk result (λ told. outcome_after now.Spent done ≡ told)
    pub broken : IfErr result (λ why. BreaksOffFrom gives takes act (steps_among acts) from why
        last.source last.outlet)

-- a checkpoint of a worker whose slice has answered this
abbrev pub IsRested : Now → Result Now WorkFault → DurableValue → DurableValue → Medium → Medium
    → Type 0
IsRested why (Ok told) old new disk disk' = (told ≡ why)
    × ActCarries Checkpoint [] old (Ok tt) new disk disk' × (new.process ≡ old.process)
IsRested why (Err fault) old new disk disk' =
    ActCarries Checkpoint [] old (Err fault) new disk disk'
    × FailsBy Checkpoint old fault new disk disk'

-- The scene of a worker that was given a job. Its source begins after the requests that it has
-- taken.
abbrev pub with_source : {D O : Type 0} → Scene D DiskJob O → Scene D SourceState O
with_source from = scene from.worker from.disk (source_behind from.source from.worker) from.outlet

-- An open worker has lived at the pace of its job, which is in the scene where its source will be.
-- It is over, as its last slice has answered, and the source has handed out so many requests in
-- all. Or an error is told.
abbrev pub HasGoneOn : {D O : Type 0} → (D → Medium) → Taking O → Scene D DiskJob O → D → O → Bool
    → ℕ → Result Now OnDiskFault → Type 0
HasGoneOn medium takes from disk' outlet' failed' taken' (Ok why) =
    (source' : SourceState) × (why ≢ now.Spent) × (source'.failed ≡ failed')
    × (source'.taken ≡ taken') × LivesAtPace medium handing takes (act_given from.source)
    from.source.every (with_source from) (Ok why) (surroundings disk' source' outlet')
HasGoneOn medium takes from disk' outlet' failed' taken' (Err told) =
    (source' : SourceState) × (why : WorkFault) × IsReportedOnDisk why source'.fault told
    × (source'.failed ≡ failed') × LivesAtPace medium handing takes (act_given from.source)
    from.source.every (with_source from) (Err why) (surroundings disk' source' outlet')

-- What is said of a worker that has gone on so, with so many requests: its last words, where a
-- person may read along, or its error.
abbrev pub SaysGone : Option (List ℕ) → Bool → ℕ → Result Now OnDiskFault → PrinterState → Status
    → PrinterState → Type 0
SaysGone bytes heard taken (Ok why) old status new =
    SaysOver bytes heard (ended_by why) taken old status new
SaysGone bytes heard taken (Err told) old status new = IsSaid (status_on_disk told) old status new

-- Behind a worker that is over its disk may be read. Behind an error it is left alone.
abbrev pub LooksBehind : {D : Type 0} → (D → Medium) → Result Now OnDiskFault → D → D → Type 0
LooksBehind medium (Ok why) last disk' = OnlyReads (medium last) (medium disk')
LooksBehind medium (Err told) last disk' = disk' ≡ last

-- A person is told that this worker is recovered, where one reads along. It is open on the disk,
-- and goes on. Then that is said of it, with names of the module on its disk.
abbrev pub RunsOpen : {D O : Type 0} → (D → Medium) → Taking O → DurableValue → RunStart D O
    → RunEnd D O → Status → Type 0
RunsOpen {D} medium takes w before after status =
    (between : PrinterState) × (gone : Result Now OnDiskFault) × (taken : ℕ) × (last : D)
    × TellsPerson (recovered_line w) before.err between
    × HasGoneOn medium takes (scene w before.disk before.given before.outlet) last after.outlet
    after.failed taken gone
    × LooksBehind medium gone last after.disk
    × (bytes : Option (List ℕ)) × IfSome bytes (IsModuleOn (medium after.disk))
    × SaysGone bytes before.err.on_terminal taken gone between status after.err
