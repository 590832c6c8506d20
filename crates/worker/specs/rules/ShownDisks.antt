-- What a recovery answers whatever is on its disk (this project's own).
use Rattle.std.specs.Prelude.{◌≡◌, ◌≢◌, ◌⊎◌, ℕ, ◌+◌, ◌*◌, ◌≤◌, ◌<◌, false, List, length, Result}
use Rattle.std.specs.Prelude.{is_some, Ok, Err, IfErr, IfOk}
use Rattle.wasm_syntax.specs.declared.module.Module.{Module}
use Rattle.wasm_rules.specs.Acceptance.{IsAccepted}
use Rattle.wasi_abi.specs.declared.numbers.TheConstants.{NUMBERS_END}
use Rattle.process_rules.specs.Processes.{ProcessState}
use Rattle.machine.specs.rules.Offers.{offer}
use Rattle.machine.specs.declared.from_bytes.fault.ModuleFault.{ModuleFault}
use Rattle.machine.specs.rules.Acceptance.{IsReported, ModuleFaultDenies, HasNoAcceptedModule}
use Rattle.process.specs.rules.Values.{ProcessValue, ShowsProcess}
use Rattle.state_image.specs.rules.ProcessImage.{Saved, IsMarkedOtherwise, process_image}
use Rattle.state_image.specs.rules.Saving.{saved_of}
use Rattle.state_image.specs.rules.WellTyped.{IsWellTyped}
use Rattle.sector_disk.specs.declared.sector.TheConstants.{SECTOR_SIZE}
use Rattle.sector_disk.specs.rules.DiskImage.{DiskImage}
use Rattle.sector_disk.specs.rules.Medium.{Medium, CallsUpTo}
use Rattle.disk_layout.specs.declared.damage.Damage.{Damage}
use Rattle.disk_layout.specs.declared.damage.Damage.TheVariants as damage
use Rattle.disk_layout.specs.declared.fault.LayoutFault.{LayoutFault}
use Rattle.disk_layout.specs.declared.fault.LayoutFault.TheVariants as layout
use Rattle.disk_layout.specs.declared.reading.contents.Contents.{Contents}
use Rattle.wasi_abi.specs.declared.version.Version.{Version}
use Rattle.disk_layout.specs.rules.Held.{GivesContents, HasDamage}
use Rattle.disk_layout.specs.rules.Journal.{Record}
use Rattle.disk_layout.specs.rules.Stored.{OnlyReads}
use Rattle.record_replay.specs.declared.fault.ReplayFault.{ReplayFault}
use Rattle.record_replay.specs.rules.Calls.{Taking}
use Rattle.record_replay.specs.rules.Records.{Recorded}
use Rattle.record_replay.specs.rules.Replays.{ReplaysUpTo, StopsReplay, TellsFrom}
use Rattle.state_image.specs.declared.restoring.fault.RestoreFault.TheVariants as restore
use Rattle.worker_store.specs.declared.fault.StoreFault.TheVariants as store
use Rattle.worker_store.specs.rules.AnyDisk.{HasOtherVersion, HasShortJournal, HasKnownVersion}
use Rattle.worker_store.specs.rules.AnyDisk.{LacksItsProcessImage, NamesProcessImage, HasOtherMark}
use Rattle.journal.specs.declared.fault.JournalFault.TheVariants as journal
use Rattle.journal.specs.rules.Steps.{JournalHolds, ShowsLater}
use Rattle.snapshot.specs.declared.fault.SnapshotFault.TheVariants as snapshot
use Rattle.snapshot.specs.rules.Heads.{HasNone}
use Rattle.worker.specs.declared.fault.WorkFault.TheVariants.{Disk, Store}
use Rattle.worker.specs.declared.recover_fault.RecoverFault.{RecoverFault}
use Rattle.worker.specs.declared.recover_fault.RecoverFault.TheVariants as recover
use Rattle.worker.specs.declared.surveyed.Survey.{Survey}
use Rattle.worker.specs.rules.CallCounts.{most_opening}
use Rattle.worker.specs.rules.DurableValues.{DurableValue}
use Rattle.worker.specs.rules.Recoveries.{IsJustSynced, OpeningCalls, RecoversFrom, SaysNoWorker}
use Rattle.worker.specs.rules.Recoveries.{SyncFails}

-- ---- what a disk of so many sectors holds

-- Configuration and module are there, whole, and the module is accepted.
pub record HoldsModule (sectors : ℕ) (disk : DiskImage) : Type 0 where
  pub contents : Contents
  pub whole : GivesContents sectors disk (Ok contents)
  pub module_is : Module
  pub accepted : IsAccepted offer contents.config.pages contents.wasm module_is

-- The newest complete head names an image, and it is there, whole. It is that of a well-typed
-- process of this module. Head and image are of its version, and the journal takes the longest
-- record of it. Its first sector shows no later generation. These are the records of its
-- generation, read as of that version.
pub record HoldsWorker (sectors : ℕ) (disk : DiskImage) : Type 0 where
  pub holds : HoldsModule sectors disk
  pub generation : ℕ
  pub saved : Saved
  pub well_typed : IsWellTyped holds.module_is holds.contents.config saved
  pub newest : NamesProcessImage holds.contents.geometry disk generation saved.version
      (process_image saved)
  pub none_later : ShowsLater holds.contents.geometry generation disk → ⊥
  pub records : List Record
  pub in_journal : JournalHolds holds.contents.geometry saved.version generation records disk

-- ---- what is wrong with it

-- Configuration and module are there, whole, and this is what the module isn't accepted for. Want
-- of memory says only what the steps before found: of B4 nothing, of V5 that a module is spelled,
-- and of L7 that it is valid.
pub record HoldsRefused (sectors : ℕ) (disk : DiskImage) (fault : ModuleFault) : Type 0 where
  pub contents : Contents
  pub whole : GivesContents sectors disk (Ok contents)
  pub told : IsReported contents.config.pages contents.wasm fault
  pub none : ModuleFaultDenies fault (HasNoAcceptedModule contents.config.pages contents.wasm)

-- no head is complete, or the newest one names an image that its area doesn't hold
pub record HoldsNoProcessImage (sectors : ℕ) (disk : DiskImage) : Type 0 where
  pub holds : HoldsModule sectors disk
  pub none : HasNone disk ⊎ LacksItsProcessImage holds.contents.geometry disk

-- the newest head is of a version whose longest record the journal doesn't take
pub record HoldsShortJournal (sectors : ℕ) (disk : DiskImage) : Type 0 where
  pub holds : HoldsModule sectors disk
  pub short : HasShortJournal holds.contents.geometry disk

-- The journal takes it. The image that the head names is in this area, whole, and begins with the
-- mark of another version.
pub record HoldsOtherMark (sectors : ℕ) (disk : DiskImage) (area : ℕ) : Type 0 where
  pub holds : HoldsModule sectors disk
  pub other : HasOtherMark holds.contents.geometry disk area

-- The image that the newest head names is there, whole. The journal takes the longest record of
-- the head's version, and the image has the mark of no other one.
pub record HoldsNamedProcessImage (sectors : ℕ) (disk : DiskImage) : Type 0 where
  pub holds : HoldsModule sectors disk
  pub generation : ℕ
  pub version : Version
  pub bytes : List ℕ
  pub newest : NamesProcessImage holds.contents.geometry disk generation version bytes
  pub marked : IsMarkedOtherwise version bytes → ⊥

-- it is so, and the image is that of no well-typed process of the module
pub record HoldsNoProcess (sectors : ℕ) (disk : DiskImage) : Type 0 where
  pub named : HoldsNamedProcessImage sectors disk
  pub other : (s : Saved) → IsWellTyped named.holds.module_is named.holds.contents.config s
      → named.bytes ≢ process_image s

-- the image that the newest head names is that of a well-typed process of the module
pub record HoldsProcess (sectors : ℕ) (disk : DiskImage) : Type 0 where
  pub holds : HoldsModule sectors disk
  pub generation : ℕ
  pub saved : Saved
  pub well_typed : IsWellTyped holds.module_is holds.contents.config saved
  pub newest : NamesProcessImage holds.contents.geometry disk generation saved.version
      (process_image saved)

-- it is so, and the first sector of the journal shows a later generation: its head is lost
pub record HoldsLaterSector (sectors : ℕ) (disk : DiskImage) : Type 0 where
  pub older : HoldsProcess sectors disk
  pub later : ShowsLater older.holds.contents.geometry older.generation disk

-- ---- what a fault shows

-- The first thing that disagrees. Configuration and module are damaged, or they are whole, and the
-- module is accepted: then it is the journal's length, the image's mark, or the journal's first
-- sector. What is judged before it is right.
abbrev pub ShowsDamage : ℕ → DiskImage → Damage → Type 0
ShowsDamage sectors disk damage.ShortJournal = HoldsShortJournal sectors disk
ShowsDamage sectors disk (damage.OtherMark area) = HoldsOtherMark sectors disk area
ShowsDamage sectors disk damage.LaterGeneration = HoldsLaterSector sectors disk
ShowsDamage sectors disk why = HasDamage sectors disk why

-- A mark or the layout is wrong, or the disk is too small. Or the newest head is of no known
-- version. Or this is what disagrees first. Want of memory shows nothing here. A fault of the disk
-- is told as that.
abbrev pub ShowsLayoutFault : ℕ → DiskImage → LayoutFault → Type 0
ShowsLayoutFault sectors disk layout.Version = GivesContents sectors disk (Err layout.Version)
    ⊎ (HoldsModule sectors disk × HasOtherVersion disk)
ShowsLayoutFault sectors disk (layout.Damaged why) = ShowsDamage sectors disk why
ShowsLayoutFault sectors disk (layout.Disk fault) = ⊥
ShowsLayoutFault sectors disk fault = GivesContents sectors disk (Err fault)

-- What the disk shows, where this fault is found before anything is told. It is looked at in one
-- order, and memory may be wanted at each step: so out of memory shows what the steps before have
-- found, and a fault of the disk shows nothing.
abbrev pub ShowsFault : ℕ → DiskImage → RecoverFault → Type 0
ShowsFault sectors disk (recover.Layout fault) = ShowsLayoutFault sectors disk fault
ShowsFault sectors disk (recover.Module fault) = HoldsRefused sectors disk fault
ShowsFault sectors disk (recover.Snapshot snapshot.Damaged) = HoldsNoProcessImage sectors disk
ShowsFault sectors disk (recover.Snapshot snapshot.Memory) =
    (holds : HoldsModule sectors disk) × HasKnownVersion holds.contents.geometry disk
ShowsFault sectors disk (recover.ProcessImage restore.NotAnImage) = HoldsNoProcess sectors disk
ShowsFault sectors disk (recover.ProcessImage restore.Memory) = HoldsNamedProcessImage sectors disk
ShowsFault sectors disk (recover.Journal journal.Memory) =
    (held : HoldsProcess sectors disk)
    × (ShowsLater held.holds.contents.geometry held.generation disk → ⊥)
ShowsFault sectors disk (recover.Worker (Disk fault)) = Unit {0}
ShowsFault sectors disk other = ⊥

-- ---- what comes of a worker that was found

-- The records lead from the saved process to that of the worker, one generation on. Each line after
-- those of the saved process was told, once and in order. Only where its process has ended does the
-- worker say that no line is beyond it.
pub record RevivesHeld {O : Type 0} {sectors : ℕ} {disk : DiskImage} (takes : Taking O)
    (held : HoldsWorker sectors disk) (w : DurableValue) (outlet outlet' : O) : Type 0 where
  pub last : ProcessState
  pub recorded : Recorded held.well_typed.guest held.well_typed.process held.records last
  pub shows : ShowsProcess w.process held.well_typed.guest last
  pub module_is : w.process.machine.guest ≡ held.holds.module_is
  pub generation : w.store.journal.generation ≡ held.generation + 1
  pub counted : w.process.steps ≡ held.saved.steps + w.replayed
  pub unfailed : w.has_failed ≡ false
  pub abreast : w.is_abreast ≡ is_some last.ended
  pub told : TellsFrom takes held.saved.lines last outlet outlet'

-- The records have led so far, and a replay stops there for this. The lines up to there were told.
abbrev pub StopsHeld : {O : Type 0} {sectors : ℕ} {disk : DiskImage} → Taking O
    → HoldsWorker sectors disk → ReplayFault → O → O → Type 0
StopsHeld takes held fault outlet outlet' =
    (come : ReplaysUpTo held.well_typed.guest held.well_typed.process held.records)
    × StopsReplay takes held.saved.lines come fault outlet outlet'

-- The records have led to the last process, and all lines were told.
pub record EndsHeld {O : Type 0} {sectors : ℕ} {disk : DiskImage} (takes : Taking O)
    (held : HoldsWorker sectors disk) (v : ProcessValue) (outlet outlet' : O) : Type 0 where
  pub last : ProcessState
  pub recorded : Recorded held.well_typed.guest held.well_typed.process held.records last
  pub shows : ShowsProcess v held.well_typed.guest last
  pub told : TellsFrom takes held.saved.lines last outlet outlet'

-- the number of the next generation is at its end, or its image is longer than an area
abbrev pub IsTooBig : {sectors : ℕ} {disk : DiskImage} → HoldsWorker sectors disk → ProcessValue
    → Type 0
IsTooBig held v = (NUMBERS_END ≤ held.generation + 1)
    ⊎ (SECTOR_SIZE * held.holds.contents.geometry.area_sectors < length
    (process_image (saved_of v)))

-- A record can't be replayed; or the worker has come to its last process, and can't be saved.
abbrev pub FailsHeld : {O : Type 0} {sectors : ℕ} {disk : DiskImage} → Taking O
    → HoldsWorker sectors disk → RecoverFault → O → O → Type 0
FailsHeld takes held (recover.Replay fault) outlet outlet' =
    StopsHeld takes held fault outlet outlet'
FailsHeld takes held (recover.Worker (Store store.TooBig)) outlet outlet' =
    (v : ProcessValue) × EndsHeld takes held v outlet outlet' × IsTooBig held v
FailsHeld takes held (recover.Worker (Disk fault)) outlet outlet' =
    (v : ProcessValue) × EndsHeld takes held v outlet outlet'
FailsHeld takes held other outlet outlet' = ⊥

-- ---- what a recovery answers

-- The worker is the one that the image holds, by its newest head and by no other. An error says
-- what is wrong with the image, and nothing was told; or why the worker that it holds can't go on.
abbrev pub AnswersDisk : {O : Type 0} → Taking O → ℕ → DiskImage → Result DurableValue RecoverFault
    → O → O → Type 0
AnswersDisk takes sectors disk (Ok w) outlet outlet' =
    (held : HoldsWorker sectors disk) × RevivesHeld takes held w outlet outlet'
AnswersDisk takes sectors disk (Err why) outlet outlet' =
    (ShowsFault sectors disk why × (outlet' ≡ outlet))
    ⊎ ((held : HoldsWorker sectors disk) × FailsHeld takes held why outlet outlet')

-- what is on the disk is refused, or memory is wanted, before anything is told
abbrev pub IsRefusal : RecoverFault → Type 0
IsRefusal (recover.Worker why) = ⊥
IsRefusal (recover.Replay why) = ⊥
IsRefusal other = Unit {0}

-- the next generation can't be written
abbrev pub IsOfSaving : RecoverFault → Type 0
IsOfSaving (recover.Worker (Disk fault)) = Unit {0}
IsOfSaving (recover.Worker (Store store.TooBig)) = Unit {0}
IsOfSaving other = ⊥

-- Nothing is told where what is on the disk is refused. Nothing is written either, but where all is
-- well with it and the next generation can't be written.
pub record LeavesRefused {O : Type 0} (why : RecoverFault) (mid new : Medium) (outlet outlet' : O)
    : Type 0 where
  pub untold : IsRefusal why → outlet' ≡ outlet
  pub unwritten : (IsOfSaving why → ⊥) → OnlyReads mid new

-- ---- a recovery

-- Nothing is written or told before a good sync. What the disk then shows decides the result, both
-- where it stands for a worker and whatever else is there. Where there is no worker nothing is
-- written or told at all. Where one is opened, few calls of the disk were begun: those of the sync,
-- the reads and one commit. What is refused is left as it is.
abbrev pub Recovers : {D O : Type 0} → (D → Medium) → Taking O → Result DurableValue RecoverFault
    → D → D → O → O → Type 0
Recovers {D} medium takes result old new outlet outlet' =
    SyncFails result (medium old) (medium new) outlet outlet'
    ⊎ ((mid : D) × IsJustSynced (medium old) (medium mid)
    × ((image : DiskImage) → (medium mid).shows image
    → RecoversFrom takes (medium old).sectors image result outlet outlet'
    × AnswersDisk takes (medium old).sectors image result outlet outlet')
    × (SaysNoWorker result → OnlyReads (medium mid) (medium new) × (outlet' ≡ outlet))
    × IfOk result (λ w. OpeningCalls w (medium mid) (medium new)
    × CallsUpTo (most_opening w.store.geometry (medium old).sectors) (medium old) (medium new))
    × IfErr result (λ why. LeavesRefused why (medium mid) (medium new) outlet outlet'))

-- ---- what a look at a disk answers

-- the numbers and the version of the process that the image has saved, and how many records there
-- are
abbrev pub survey_in : {sectors : ℕ} {disk : DiskImage} → HoldsWorker sectors disk → Survey
survey_in held = record {
  generation = held.generation;
  steps = held.saved.steps;
  answers = held.saved.answers;
  lines = held.saved.lines;
  records = length held.records;
  version = held.well_typed.process.host.version;
}

-- They are those of the worker that the image holds, by its newest head and by no other. An error
-- says what is wrong with the image.
abbrev pub SurveysDisk : ℕ → DiskImage → Result Survey RecoverFault → Type 0
SurveysDisk sectors disk (Ok told) =
    (held : HoldsWorker sectors disk) × (told ≡ survey_in held)
SurveysDisk sectors disk (Err why) = ShowsFault sectors disk why
