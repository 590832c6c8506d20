-- The parts of a life that ends by an upgrade.
use Rattle.std.specs.Prelude.{◌≡◌, ◌≢◌, ◌⊎◌, ℕ, List, ◌++◌, replicate, Result, Ok, Err, IfErr}
use Rattle.std.specs.Prelude.{false, true, []}
use Rattle.wasi_abi.specs.declared.version.Version.TheVariants.{One, Two}
use Rattle.sector_disk.specs.rules.Medium.{Medium}
use Rattle.record_replay.specs.rules.Calls.{Giving, Taking, Ports, ports}
use Rattle.record_replay.specs.declared.slices.now.Now.{Now}
use Rattle.record_replay.specs.declared.slices.now.Now.TheVariants as now
use Rattle.worker.specs.declared.fault.WorkFault.{WorkFault}
use Rattle.worker.specs.declared.recover_fault.RecoverFault.TheVariants as recover
use Rattle.worker.specs.rules.DurableValues.{DurableValue}
use Rattle.worker.specs.rules.LifeWords.{Act, Slice}
use Rattle.worker.specs.rules.Outlets.{TakesEach, HeedsOutlet, IsOutletFault, SaysOutletFault}
use Rattle.worker.specs.rules.OneLife.{CallsInOrder}
use Rattle.worker.specs.rules.Outcomes.{outcome_after}
use Rattle.command_words.specs.rules.Printers.{PrinterState, IsSaid, TellsPerson}
use Rattle.command_words.specs.declared.status.Status.{Status}
use Rattle.worker.specs.rules.Scenes.{Scene, scene, surroundings, surroundings_of}
use Rattle.disk_commands.specs.Livings.{ActsLead}
use Rattle.disk_commands.specs.declared.on_disk.upgrading.Upgraded.{Upgraded}
use Rattle.disk_commands.specs.declared.on_disk.upgrading.Upgraded.TheVariants as upgraded
use Rattle.disk_commands.specs.rules.BrokenLives.{BreaksInSliceFrom, steps_among}
use Rattle.disk_commands.specs.rules.DiskStatuses.{call_fault, status_on_disk}
use Rattle.disk_commands.specs.rules.Hearings.{AsksUnless, IsOfSource}
use Rattle.disk_commands.specs.rules.ServedOnDisk.{Outputs, recovered_line}
use Rattle.disk_commands.specs.rules.Upgradings.{IsOfUpgrade, undone_then, upgrade_slices}
use Rattle.disk_commands.specs.rules.Upgradings.{upgrade_acts, from_list, IsOfCaughtUp}

module _ {D S O : Type 0} (medium : D → Medium) (gives : Giving S) (takes : Taking O) where
  -- Slices of this fuel lead from there to there, and the last one has answered this. No question
  -- was refused, and no line. The worker hasn't failed. Unless the fuel was spent, no line is
  -- beyond its process.
  pub record HasComeUp (fuel : ℕ) (from : Scene D S O) (said : Now) (to : Scene D S O) : Type 0
    where
      pub count : ℕ
      pub heard : AsksUnless gives ⊥ from.source to.source
      pub taken : TakesEach takes from.outlet to.outlet
      pub leads : ActsLead medium gives takes (replicate count (Slice fuel)) from said to
      pub unfailed : to.worker.has_failed ≡ false
      pub abreast : said ≢ now.Spent → to.worker.is_abreast ≡ true

  -- One of them has failed, whatever was to be done after it. No question was refused, unless it is
  -- the source's error, and no line, unless it is the outlet's.
  pub record HasStoppedShort (fuel : ℕ) (from : Scene D S O) (why : WorkFault) (to : Scene D S O)
      : Type 0 where
    pub count : ℕ
    pub heard : AsksUnless gives (IsOfSource (Err (recover.Worker why))) from.source to.source
    pub heeded : HeedsOutlet takes (IsOutletFault (recover.Worker why)) from.outlet to.outlet
    pub breaks : BreaksInSliceFrom gives takes fuel
        (steps_among (replicate count (Slice fuel))) from why to.source to.outlet
    pub done : (rest : List Act) → CallsInOrder medium gives takes
        (replicate count (Slice fuel) ++ rest) from (Err (recover.Worker why)) (surroundings_of to)
    pub caught_up : IsOfCaughtUp why

  -- the one or the other
  abbrev pub ComesUp : ℕ → Scene D S O → Result Now WorkFault → Scene D S O → Type 0
  ComesUp fuel from (Ok said) to = HasComeUp fuel from said to
  ComesUp fuel from (Err why) to = HasStoppedShort fuel from why to

  -- How slices, of which the last one has answered this, and an upgrade have ended.
  abbrev pub EndsRun : Scene D S O → Result (Unit {0}) WorkFault → ℕ → Ports S O → Now → Type 0
  EndsRun from (Ok done) count to said = said ≢ now.Spent
  EndsRun from (Err why) count to said =
      BreaksInSliceFrom gives takes 100000 (steps_among (upgrade_slices count)) from why to.source
      to.outlet
      ⊎ (IsOfUpgrade why × (said ≢ now.Spent))

  -- All that an upgrade needs was done, and then it; or so much of that, up to this error. No
  -- question was refused, unless that is the source's, and no line, unless it is the outlet's.
  -- The error isn't that the worker hadn't caught up.
  pub record IsUpgradedFrom (from : Scene D S O) (result : Result (Unit {0}) WorkFault) (disk : D)
      (outlet : O) : Type 0 where
    pub count : ℕ
    pub source : S
    pub heard : AsksUnless gives (IsOfSource (undone_then result)) from.source source
    pub heeded : HeedsOutlet takes (SaysOutletFault (undone_then result)) from.outlet outlet
    pub done : CallsInOrder medium gives takes (upgrade_acts count) from (undone_then result)
        (surroundings disk source outlet)
    pub ends : EndsRun from result count (ports source outlet) (outcome_after now.Spent done)
    pub caught_up : IfErr result IsOfCaughtUp

-- A person is told that this worker is recovered, where one reads along. It is open on the disk,
-- and of version 1: it is upgraded, or a call of that has failed, and the status says why. Or it is
-- of version 2, and nothing is done.
abbrev pub UpgradesOpen : {D O : Type 0} → (D → Medium) → Taking O → DurableValue
    → Result Upgraded Status → D → D → Outputs O → Outputs O → Type 0
UpgradesOpen medium takes w (Ok upgraded.Now) disk disk' before after =
    (w.process.host.host.version ≡ One) × TellsPerson (recovered_line w) before.err after.err
    × IsUpgradedFrom medium from_list takes (scene w disk [] before.outlet) (Ok tt) disk'
    after.outlet
UpgradesOpen medium takes w (Ok upgraded.Before) disk disk' before after =
    (w.process.host.host.version ≡ Two) × TellsPerson (recovered_line w) before.err after.err
    × (disk' ≡ disk) × (after.outlet ≡ before.outlet)
UpgradesOpen medium takes w (Err status) disk disk' before after =
    (why : WorkFault) × (between : PrinterState) × (w.process.host.host.version ≡ One)
    × TellsPerson (recovered_line w) before.err between
    × IsUpgradedFrom medium from_list takes (scene w disk [] before.outlet) (Err why) disk'
    after.outlet × IsSaid (status_on_disk (call_fault why)) between status after.err
