-- What `wasmhost upgrade` does with the worker on a disk (this project's own).
use Rattle.std.specs.Prelude.{◌≡◌, ◌≢◌, ◌⊎◌, ℕ, ⊤, List, [], ◌∷◌, ◌++◌, replicate, codes, Some}
use Rattle.std.specs.Prelude.{Result, Ok, Err}
use Rattle.wasi_abi.specs.declared.answer.Answer.{Answer}
use Rattle.wasi_abi.specs.declared.version.Version.TheVariants.{One, Two}
use Rattle.wasi_abi.specs.rules.Configs.{Settings}
use Rattle.sector_disk.specs.rules.DiskImage.{DiskImage}
use Rattle.sector_disk.specs.rules.Medium.{Medium}
use Rattle.record_replay.specs.rules.Calls.{Giving, Taking}
use Rattle.record_replay.specs.rules.Lists.{HandsOut}
use Rattle.record_replay.specs.declared.slices.now.Now.TheVariants.{Spent}
use Rattle.worker.specs.declared.fault.WorkFault.{WorkFault}
use Rattle.worker.specs.declared.fault.WorkFault.TheVariants as work
use Rattle.worker.specs.declared.upgrade_fault.UpgradeFault.TheVariants.{NotCaughtUp}
use Rattle.worker.specs.declared.recover_fault.RecoverFault.{RecoverFault}
use Rattle.worker.specs.declared.recover_fault.RecoverFault.TheVariants as recover
use Rattle.worker.specs.rules.DurableValues.{DurableValue}
use Rattle.worker.specs.rules.LifeWords.{Act, Slice, Upgrade, by_recovery}
use Rattle.worker.specs.rules.Outlets.{TakesEach, HeedsOutlet, SaysOutletFault}
use Rattle.worker.specs.rules.Effects.{RecoversWorker}
use Rattle.worker.specs.rules.OneLife.{IsOneLife, one_life, recipe}
use Rattle.worker.specs.rules.Scenes.{scene, surroundings}
use Rattle.worker.specs.rules.Outcomes.{life_outcome}
use Rattle.command_words.specs.rules.Printers.{PrinterState, IsSaid, TellsPerson}
use Rattle.command_words.specs.declared.status.Status.{Status}
use Rattle.command_words.specs.declared.status.Status.TheVariants as exit
use Rattle.disk_commands.specs.declared.on_disk.upgrading.Upgraded.{Upgraded}
use Rattle.disk_commands.specs.declared.on_disk.upgrading.Upgraded.TheVariants.{Now, Before}
use Rattle.disk_commands.specs.rules.BrokenLives.{BreaksInSliceFrom, steps_among}
use Rattle.disk_commands.specs.rules.DiskStatuses.{opening_fault, call_fault, status_on_disk}
use Rattle.disk_commands.specs.rules.Hearings.{AsksUnless, IsOfSource}
use Rattle.disk_commands.specs.rules.ServedOnDisk.{IsUnopenedRun, Outputs, recovered_line}

-- what is said of a worker that is of version 2 now, or was before
abbrev pub upgraded_words : Upgraded → List ℕ
upgraded_words Now = codes "upgraded\n"
upgraded_words Before = codes "already version 2\n"

-- a list of answers, as a source; where there is none, it has no answer to anything
abbrev pub from_list : Giving (List Answer)
from_list old question said new = HandsOut old said new

-- so many slices, of 100,000 steps each
abbrev pub upgrade_slices : ℕ → List Act
upgrade_slices count = replicate count (Slice 100000)

-- these slices, and an upgrade
abbrev pub upgrade_acts : ℕ → List Act
upgrade_acts count = upgrade_slices count ++ Upgrade ∷ []

-- all acts of a life are done, or this error ended it
abbrev pub undone_then : {T : Type 0} → Result T WorkFault → Result (List Act) RecoverFault
undone_then (Ok done) = Ok []
undone_then (Err why) = Err (recover.Worker why)

-- an error that an upgrade may answer of a worker that hadn't failed
abbrev pub IsOfUpgrade : WorkFault → Type 0
IsOfUpgrade (work.Work why) = ⊥
IsOfUpgrade other = ⊤

-- any error but that lines beyond the worker's process may have been told
abbrev pub IsOfCaughtUp : WorkFault → Type 0
IsOfCaughtUp why = why ≢ work.Upgrade NotCaughtUp

-- the exit status so far, which is done where there was no error
abbrev pub status_so_far : {T : Type 0} → Result T Status → Status
status_so_far (Ok done) = exit.Done
status_so_far (Err status) = status

-- The worker was recovered, and was of version 1. Then this disk and this outlet were left, to
-- which some lines were told once more. All that was done is one life, without an answer: slices,
-- and an upgrade. That is so if the answers of that disk fit an image. No question was refused in
-- it, unless its error is that of the source. The outlet took each line, unless its error is the
-- outlet's.
pub record LivesToUpgrade {D O : Type 0} (medium : D → Medium) (takes : Taking O)
    (undone : Result (List Act) RecoverFault) (found last : D) (outlet outlet' : O) : Type 0 where
  pub worker : DurableValue
  pub narrow : worker.process.host.host.version ≡ One
  pub opening : D
  pub retold : O
  pub recovers : RecoversWorker medium takes (Ok worker) found opening outlet retold
  pub count : ℕ
  pub source' : List Answer
  pub heard : AsksUnless from_list (IsOfSource undone) [] source'
  pub heeded : HeedsOutlet takes (SaysOutletFault undone) outlet outlet'
  pub life : (image : DiskImage) → (medium opening).crash_images image
      → (bytes : List ℕ) (config : Settings)
      → IsOneLife medium from_list takes (recipe bytes config) (upgrade_acts count)
      (surroundings found [] outlet)
      (one_life by_recovery (Some worker) undone (surroundings last source' outlet'))

-- The last slice of that life has answered that the worker waits for an answer, or has ended, and
-- not that its fuel is spent.
abbrev pub HasRunOn : {D O : Type 0} {medium : D → Medium} {takes : Taking O}
    {undone : Result (List Act) RecoverFault} {found last : D} {outlet outlet' : O}
    → LivesToUpgrade medium takes undone found last outlet outlet' → Type 0
HasRunOn {medium = medium} lives =
    (image : DiskImage) (leaves : (medium lives.opening).crash_images image) (bytes : List ℕ)
    (config : Settings) → life_outcome (lives.life image leaves bytes config) ≢ Spent

-- A slice of that life has failed so, whichever process its worker showed when it was recovered. Or
-- the upgrade has, once the worker had run on.
abbrev pub HasFailedAt : {D O : Type 0} {medium : D → Medium} {takes : Taking O}
    {undone : Result (List Act) RecoverFault} {found last : D} {outlet outlet' : O}
    → LivesToUpgrade medium takes undone found last outlet outlet' → WorkFault → Type 0
HasFailedAt {takes = takes} {outlet' = outlet'} lives why =
    BreaksInSliceFrom from_list takes 100000 (steps_among (upgrade_slices lives.count))
    (scene lives.worker lives.opening [] lives.retold) why lives.source' outlet'
    ⊎ (IsOfUpgrade why × HasRunOn lives)

-- The worker was recovered, and was of version 2. That is all. The outlet took each line.
pub record IsOfTwoBefore {D O : Type 0} (medium : D → Medium) (takes : Taking O) (found last : D)
    (outlet outlet' : O) : Type 0 where
  pub worker : DurableValue
  pub version : worker.process.host.host.version ≡ Two
  pub recovers : RecoversWorker medium takes (Ok worker) found last outlet outlet'
  pub taken : TakesEach takes outlet outlet'

-- A worker of version 1 has run on, and was upgraded, or it was of version 2 before: a person is
-- told that it was recovered, where one reads along. Or it isn't opened, or a call of its life has
-- failed. Then the status says why. It is never that the worker hadn't caught up.
abbrev pub UpgradesOnDisk : {D O : Type 0} → (D → Medium) → Taking O → Result Upgraded Status → D
    → D → Outputs O → Outputs O → Type 0
UpgradesOnDisk medium takes (Ok Now) found last before after =
    (lives : LivesToUpgrade medium takes (Ok []) found last before.outlet after.outlet)
    × HasRunOn lives × TellsPerson (recovered_line lives.worker) before.err after.err
UpgradesOnDisk medium takes (Ok Before) found last before after =
    (is : IsOfTwoBefore medium takes found last before.outlet after.outlet)
    × TellsPerson (recovered_line is.worker) before.err after.err
UpgradesOnDisk medium takes (Err status) found last before after =
    ((why : RecoverFault)
    × IsUnopenedRun medium takes why found last before.outlet after.outlet
    × IsSaid (status_on_disk (opening_fault why)) before.err status after.err)
    ⊎ ((why : WorkFault) × (between : PrinterState)
    × (lives : LivesToUpgrade medium takes (Err (recover.Worker why)) found last before.outlet
    after.outlet) × HasFailedAt lives why
    × TellsPerson (recovered_line lives.worker) before.err between
    × IsSaid (status_on_disk (call_fault why)) between status after.err × IsOfCaughtUp why)
