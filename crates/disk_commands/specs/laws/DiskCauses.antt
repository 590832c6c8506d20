-- What each exit status of a run on a disk comes from (this project's own).
use Rattle.std.specs.Prelude.{◌≡◌, ◌≢◌, ◌⊎◌, ℕ, ◌+◌, ◌≤◌, ◌^◌, ⊤, Bool, true, false, List, []}
use Rattle.std.specs.Prelude.{◌∷◌, ◌++◌, length, Option, Some, None, IfSome, Result, Ok, Err}
use Rattle.wasi_abi.specs.declared.answer.Question.{Question}
use Rattle.wasi_abi.specs.declared.answer.Question.TheVariants as questions
use Rattle.sector_disk.specs.rules.Medium.{Medium}
use Rattle.sector_disk.specs.declared.fault.DiskFault.TheVariants as disk
use Rattle.process_rules.specs.Processes.{ProcessState, Guest}
use Rattle.process.specs.rules.Values.{ShowsProcess}
use Rattle.disk_layout.specs.rules.Stored.{OnlyReads}
use Rattle.record_replay.specs.declared.fault.ReplayFault.TheVariants as replay
use Rattle.record_replay.specs.declared.fault.SourceFault.{SourceFault}
use Rattle.record_replay.specs.rules.Calls.{Taking, Ask, AnswersInOrder, ports}
use Rattle.record_replay.specs.declared.slices.fault.SliceFault.TheVariants as slice
use Rattle.record_replay.specs.declared.slices.now.Now.{Now}
use Rattle.record_replay.specs.declared.slices.now.Now.TheVariants.{Spent}
use Rattle.record_replay.specs.rules.Slices.{handed}
use Rattle.worker.specs.declared.fault.WorkFault.{WorkFault}
use Rattle.worker.specs.declared.fault.WorkFault.TheVariants as work
use Rattle.worker.specs.declared.recover_fault.RecoverFault.{RecoverFault}
use Rattle.worker.specs.declared.recover_fault.RecoverFault.TheVariants as recover
use Rattle.worker.specs.rules.LifeWords.{Act}
use Rattle.worker.specs.rules.Outlets.{IsOutletFault}
use Rattle.worker.specs.rules.RecoverFaults.{wants_memory}
use Rattle.command_words.specs.declared.lines.fault.LineFault.{LineFault}
use Rattle.command_words.specs.declared.lines.fault.LineFault.TheVariants as line
use Rattle.command_words.specs.Lines.Answers.{SourceState, IsRefusedFor}
use Rattle.command_words.specs.rules.Outside.{requests_in, words_of}
use Rattle.command_words.specs.rules.Requests.{GiveUpTo, BeginsWithOther, BeginsWithLater}
use Rattle.command_words.specs.rules.Printers.{PrinterState, TellsPerson}
use Rattle.command_words.specs.rules.Seeds.{words_for}
use Rattle.command_words.specs.declared.status.Status.{Status}
use Rattle.command_words.specs.declared.status.Status.TheVariants as exit
use Rattle.disk_commands.specs.rules.BrokenLives.{BreaksOff, LeavesNoLine, TellsItsLines}
use Rattle.disk_commands.specs.rules.BrokenLives.{process_scene, steps_among}
use Rattle.disk_commands.specs.rules.LastWords.{PrintsOver, ended_by}
use Rattle.disk_commands.specs.rules.ServedOnDisk.{RunStart, RunEnd, act_given, source_behind}
use Rattle.disk_commands.specs.rules.ServedOnDisk.{handing, IsUnopenedRun, LivesOnDisk, HasOutcome}
use Rattle.disk_commands.specs.rules.ServedOnDisk.{ServesOnDisk, ending_on, recovered_line}
use Rattle.disk_commands.specs.rules.TrapFrames.{IsModuleOn}

-- ---- a source that refuses

-- One of these questions was refused, and was this one. None after it was answered.
pub record IsRefusedAmong (asks : List Ask) (question : Question) : Type 0 where
  pub front : List Ask
  pub back : List Ask
  pub fault : SourceFault
  pub is : asks ≡ front ++ (record { question = question; said = Err fault } ∷ back)
  pub unanswered : handed back ≡ []

-- One of these questions was refused for this, after all answers of a source that had stood here.
pub record HasRefused (old : SourceState) (asks : List Ask) (failed' : Bool) (why : LineFault)
    : Type 0 where
  pub question : Question
  pub asked : IsRefusedAmong asks question
  pub reason : IsRefusedFor question old (old.place + words_of (handed asks))
      (requests_in (handed asks)) failed' why

-- Whatever a source of the program was asked: where it had no fault and now has one, one of these
-- questions was refused for it.
abbrev pub RefusalsHaveReasons : Type 0
RefusalsHaveReasons = (asks : List Ask) (source source' : SourceState) (why : LineFault)
    → AnswersInOrder handing source asks source' → source.fault ≡ None
    → source'.fault ≡ Some why → HasRefused source asks source'.failed why

-- One of these questions was refused when out of memory.
abbrev pub LacksMemoryAt : SourceState → List Ask → Bool → Type 0
LacksMemoryAt old asks failed' = HasRefused old asks failed' line.Memory

-- A request was asked for. Behind the answers to these questions the next line can't be taken: it
-- is no request line, or that of a request beyond the next one.
abbrev pub MeetsBadLineAt : SourceState → List Ask → Bool → Type 0
MeetsBadLineAt old asks failed' = IsRefusedAmong asks questions.Request
    × GiveUpTo old.limit old.taken old.unread (requests_in (handed asks))
    (λ rest. BeginsWithOther old.limit rest
    ⊎ BeginsWithLater old.limit (old.taken + length (requests_in (handed asks))) rest)
    × (failed' ≡ old.failed)

-- A request was asked for, and the reader has failed. Or a time was asked for, where the machine's
-- clock can't be read and no time is fixed. Or so many random bytes were asked for that the words
-- of the seed can't be counted as far.
abbrev pub LacksAnswerAt : SourceState → List Ask → Bool → Type 0
LacksAnswerAt old asks failed' = (IsRefusedAmong asks questions.Request × (failed' ≡ true))
    ⊎ ((IsRefusedAmong asks questions.Realtime ⊎ IsRefusedAmong asks questions.Monotonic)
    × (old.outside.clock ≡ None))
    ⊎ ((n : ℕ) × IsRefusedAmong asks (questions.Random n)
    × (2 ^ 64 ≤ old.place + words_of (handed asks) + words_for n))

-- ---- lines that were told

-- Whichever process the worker of this life showed when it was recovered, it has come to where a
-- call has failed so. Each line that it had written by then was told, after those that the recovery
-- had told.
abbrev pub HasToldItsLines : {D O : Type 0} {medium : D → Medium} {takes : Taking O}
    {undone : Result (List Act) RecoverFault} {before : RunStart D O} {after : RunEnd D O}
    {source' : SourceState} → LivesOnDisk medium takes undone before after source'
    → WorkFault → Type 0
HasToldItsLines {takes = takes} {before = before} {after = after} {source' = source'} lives why =
    (guest : Guest) (p : ProcessState) → ShowsProcess lives.worker.process guest p
    → (broken : BreaksOff handing takes
    (process_scene guest p (source_behind before.given lives.worker) lives.retold)
    (ports source' after.outlet) (act_given before.given) (steps_among lives.acts) why)
    × TellsItsLines takes p broken.process lives.retold after.outlet

-- ---- faults of a call

-- a step, its lines or a generation that can't be counted, or a store or an upgrade that is
-- refused
abbrev pub IsAtItsEnd : WorkFault → Type 0
IsAtItsEnd (work.Work (slice.Refused why)) = ⊤
IsAtItsEnd (work.Store why) = ⊤
IsAtItsEnd (work.Upgrade why) = ⊤
IsAtItsEnd other = ⊥

-- a disk or a source that fails, or a worker that had failed
abbrev pub IsUnanswering : WorkFault → Type 0
IsUnanswering (work.Disk why) = ⊤
IsUnanswering (work.Work slice.Source) = ⊤
IsUnanswering (work.Work slice.Failed) = ⊤
IsUnanswering other = ⊥

-- ---- faults of a recovery

-- no worker that can go on, or one that is at its end
abbrev pub IsStuck : RecoverFault → Type 0
IsStuck (recover.Worker why) = IsAtItsEnd why
IsStuck (recover.Replay replay.Diverged) = ⊤
IsStuck (recover.Replay other) = ⊥
IsStuck other = wants_memory other ≡ false

-- a disk or a source that fails
abbrev pub IsFailing : RecoverFault → Type 0
IsFailing (recover.Worker why) = IsUnanswering why
IsFailing other = ⊥

-- memory that was refused to some layer
abbrev pub IsWanting : RecoverFault → Type 0
IsWanting (recover.Worker (work.Disk disk.Memory)) = ⊤
IsWanting other = wants_memory other ≡ true

-- ---- what each exit status says

module _ {D O : Type 0} (medium : D → Medium) (takes : Taking O) (before : RunStart D O)
    (after : RunEnd D O) where
  -- The worker was recovered, and a person was told so. Then it has lived until a slice didn't just
  -- spend its fuel, and its disk was only read. The last words are those of what that slice has
  -- answered, with names of the module on that disk.
  pub record IsOverOnDisk : Type 0 where
    pub now : Now
    pub source' : SourceState
    pub between : PrinterState
    pub done : now ≢ Spent
    pub last : D
    pub reads : OnlyReads (medium last) (medium after.disk)
    pub lives : LivesOnDisk medium takes (Ok []) before (ending_on after last) source'
    pub outcome : HasOutcome lives now
    pub heeded : source'.failed ≡ after.failed
    pub told : TellsPerson (recovered_line lives.worker) before.err between
    pub bytes : Option (List ℕ)
    pub of_disk : IfSome bytes (IsModuleOn (medium after.disk))
    pub printed : PrintsOver bytes before.err.on_terminal (ended_by now) source'.taken between
        after.err

  -- The recovery has failed by a fault of this sort, or a call of the life by one of that sort.
  -- Where that is the source's, it isn't one of a request line. Where no line can wait, each line
  -- that the process had written by then was told.
  pub data FailsOnDisk (IsOfOpening : RecoverFault → Type 0) (IsOfCall : WorkFault → Type 0)
      : Type 0 where
    opening : (why : RecoverFault)
        → IsUnopenedRun medium takes why before.disk after.disk before.outlet after.outlet
        → after.failed ≡ before.given.failed → IsOfOpening why
        → FailsOnDisk IsOfOpening IsOfCall
    calling : (why : WorkFault) (source' : SourceState)
        → (lives : LivesOnDisk medium takes (Err (recover.Worker why)) before after source')
        → (LeavesNoLine (act_given before.given) why → HasToldItsLines lives why)
        → (why ≡ work.Work slice.Source → source'.fault ≡ None) → source'.failed ≡ after.failed
        → IsOfCall why → FailsOnDisk IsOfOpening IsOfCall

  -- A call of the life has failed since the source refused a question. Each line that the process
  -- had written by then was told. This holds after all that the source was asked in the life.
  pub record AsksInVain (Holds : SourceState → List Ask → Bool → Type 0) : Type 0 where
    pub source' : SourceState
    pub lives : LivesOnDisk medium takes (Err (recover.Worker (work.Work slice.Source))) before
        after source'
    pub told : HasToldItsLines lives (work.Work slice.Source)
    pub heeded : source'.failed ≡ after.failed
    pub asks : List Ask
    pub led : AnswersInOrder handing (source_behind before.given lives.worker) asks source'
    pub behind : Holds (source_behind before.given lives.worker) asks after.failed

  -- `Done`: it is over. `Refused`: the disk shows no worker that can go on, or a number is at its
  -- end. `IoError`: the disk or the source has failed. `OutOfMemory`: memory was refused.
  -- `BadLine`: the next line is refused. `Unwritten`: a line of the worker was refused, or what is
  -- said couldn't be written. A reader that fails is told by `IoError`, or by `OutOfMemory` where
  -- it wants memory. That isn't so where it can't be printed, nor where a batch then finds its
  -- journal full (`Refused`). Of a worker that was recovered, each line was told where the source
  -- has failed (`IoError`, `OutOfMemory`, `BadLine`), and without batches where a number is at its
  -- end (`Refused`) or memory was refused (`OutOfMemory`).
  pub record SaysOnDisk (status : Status) : Type 0 where
    pub over : status ≡ exit.Done → IsOverOnDisk
    pub stuck : status ≡ exit.Refused → FailsOnDisk IsStuck IsAtItsEnd
    pub unanswered : status ≡ exit.IoError
        → FailsOnDisk IsFailing IsUnanswering ⊎ AsksInVain LacksAnswerAt
    pub starved : status ≡ exit.OutOfMemory
        → FailsOnDisk IsWanting (λ why. why ≡ work.Work slice.Memory) ⊎ AsksInVain LacksMemoryAt
    pub bad_line : status ≡ exit.BadLine → AsksInVain MeetsBadLineAt
    pub unprinted : status ≡ exit.Unwritten
        → FailsOnDisk IsOutletFault (λ why. why ≡ work.Work slice.Outlet)
        ⊎ (after.err.failed ≡ true)
    pub heeded : (after.failed ≡ before.given.failed) ⊎ (status ≡ exit.IoError)
        ⊎ (status ≡ exit.OutOfMemory) ⊎ (status ≡ exit.Unwritten)
        ⊎ ((status ≡ exit.Refused) × (2 ≤ before.given.batch))
    pub known : (status ≢ exit.Different) × (status ≢ exit.Usage)

-- so it is of each run
abbrev pub StatusesHaveCauses : {D O : Type 0} → (D → Medium) → Taking O → Type 0
StatusesHaveCauses {D} {O} medium takes =
    (before : RunStart D O) (after : RunEnd D O) (status : Status)
    → ServesOnDisk medium takes before after status → SaysOnDisk medium takes before after status
