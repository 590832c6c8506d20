-- An upgrade, as its contract sees it.
use Rattle.std.proofs.Common.{◌≡◌, ℕ, ◌+◌, false, [], refl, sym, ap, ◌∙◌, subst}
use Rattle.std.specs.Prelude.{Ok, Err}
use Rattle.process_rules.specs.Runs.{widened}
use Rattle.process.specs.rules.Values.{ProcessValue, ShowsProcess, IsProcess}
use Rattle.sector_disk.specs.rules.Medium.{Medium, CallsUpTo}
use Rattle.worker_store.specs.restart_theorem.Lives.Act.{Upgrade as upgrading}
use Rattle.worker_store.specs.declared.fault.StoreFault.{StoreFault}
use Rattle.worker_store.specs.laws.Laws.{ProcessImagesFitAreas}
use Rattle.worker_store.specs.rules.Calls.{StoresNext}
use Rattle.worker.specs.declared.fault.WorkFault.{WorkFault}
use Rattle.worker.specs.declared.fault.WorkFault.TheVariants.{Upgrade}
use Rattle.worker.specs.declared.running_worker.RunningWorker.{RunningWorker}
use Rattle.worker.specs.declared.upgrade_fault.UpgradeFault.{UpgradeFault}
use Rattle.worker.specs.declared.upgrade_fault.UpgradeFault.TheVariants as upgrade
use Rattle.worker.specs.rules.WorkFaults.{fault_of_store}
use Rattle.worker.specs.rules.CallCounts.{most_saving}
use Rattle.worker.specs.rules.DurableCalls.{ActCarries}
use Rattle.worker.specs.rules.DurableValues.{DurableValue, durable_of}
use Rattle.worker.specs.Savings.{LeavesFrontOrNext, SaveCalls, HasSaveCause}
use Rattle.worker.specs.rules.Upgrades.{upgraded, IsUpgradedIn, UpgradeCalls}
use Rattle.worker.specs.rules.Upgrades.{HasUpgradeCause, LeavesProcess, Migrates, EndsInTwo}
use Rattle.worker.specs.Upgrading.{MayUpgrade, IsUpgradeRefused, AfterFault, BarsAndCommits}
use Rattle.worker.proofs.MigrationLemmas.{migrates, ends_in_two}
use Rattle.worker.proofs.UpgradeLemmas.{upgrade_carries, upgrade_fault_carries, upgrade_cause}
use Rattle.worker.proofs.UpgradeLemmas.{upgrade_leaves, too_small_carries, not_caught_up_carries}
use Rattle.worker.proofs.UpgradeLemmas.{upgrade_calls_err, upgrade_calls_ok}
use Rattle.worker.proofs.WideningLemmas.{upgraded_version, shows_upgraded}

module _ {D : Type 0} (medium : D → Medium) (running after : RunningWorker) (replayed : ℕ)
    (old : DurableValue) (is_old : durable_of running replayed ≡ old)
    (disk disk' : D) (is : IsProcess running.process) where
  -- ---- it is refused

  module _ (fault : UpgradeFault) (refused : IsUpgradeRefused running fault) where
    pub refused_carries : ProcessImagesFitAreas → after.process ≡ running.process
        → ActCarries upgrading [] old (Err (Upgrade fault)) (durable_of after replayed)
        (medium disk) (medium disk)
    refused_carries fit same =
        subst (λ (w : DurableValue). ActCarries upgrading [] w (Err (Upgrade fault))
        (durable_of after replayed) (medium disk) (medium disk)) is_old (by fault refused)
      where
        by : (fault : UpgradeFault) → IsUpgradeRefused running fault
            → ActCarries upgrading [] (durable_of running replayed) (Err (Upgrade fault))
            (durable_of after replayed) (medium disk) (medium disk)
        by upgrade.JournalTooSmall small =
            too_small_carries medium (durable_of running replayed)
            (durable_of after replayed) disk fit is same small
        by upgrade.NotCaughtUp behind =
            not_caught_up_carries medium (durable_of running replayed)
            (durable_of after replayed) disk fit is same
            (record { takes = behind.0; version = behind.1; behind = behind.2 })

  -- ---- it is saved, or that fails

  module _ (fit : ProcessImagesFitAreas) (may : MayUpgrade running) where
    pub migrates_so : BarsAndCommits medium running.store running.process after.process disk disk'
        → Migrates medium old disk disk'
    migrates_so bars = subst (λ (w : DurableValue). Migrates medium w disk disk') is_old
        (migrates medium (durable_of running replayed) disk disk' fit is may.takes
        after.process bars)

    pub ends_so : StoresNext running.store after.store after.process (medium disk) (medium disk')
        → after.process ≡ upgraded running.process
        → EndsInTwo old (medium disk) (medium disk')
    ends_so stores same = subst (λ (w : DurableValue). EndsInTwo w (medium disk) (medium disk'))
        is_old
        (ends_in_two medium (durable_of running replayed) disk disk' fit is may.takes
        after.store
        (subst (λ (v : ProcessValue). StoresNext running.store after.store v (medium disk)
        (medium disk')) same stores))

    module _ (leaves : LeavesFrontOrNext running.store after.process (medium disk) (medium disk'))
        (few : CallsUpTo (most_saving (medium disk).sectors) (medium disk) (medium disk')) where
      pub done_carries : after.process ≡ upgraded running.process
          → after.store.journal.has_failed ≡ false
          → after.is_abreast ≡ running.is_abreast
          → StoresNext running.store after.store after.process (medium disk) (medium disk')
          → ActCarries upgrading [] old (Ok tt) (durable_of after replayed) (medium disk)
          (medium disk')
      done_carries same works says stores =
          subst (λ (w : DurableValue). ActCarries upgrading [] w (Ok tt) (durable_of after replayed)
          (medium disk) (medium disk')) is_old
          (upgrade_carries medium (durable_of running replayed)
          (durable_of after replayed) disk disk' fit is may.takes may.abreast leaves few same
          works says stores)

      pub fault_carries : (fault : StoreFault) (why : WorkFault) → why ≡ fault_of_store fault
          → HasSaveCause running.store (upgraded running.process) (medium disk) (medium disk') fault
          → AfterFault fault running.store running.process after.process
          → ActCarries upgrading [] old (Err why) (durable_of after replayed) (medium disk)
          (medium disk')
      fault_carries fault why same cause after_fault =
          subst (λ (e : WorkFault). ActCarries upgrading [] old (Err e) (durable_of after replayed)
          (medium disk) (medium disk')) (sym same)
          (subst (λ (w : DurableValue). ActCarries upgrading [] w (Err (fault_of_store fault))
          (durable_of after replayed) (medium disk) (medium disk')) is_old
          (upgrade_fault_carries medium (durable_of running replayed) (durable_of after replayed)
          disk disk' fit is may.takes may.abreast leaves few fault cause after_fault))

-- ---- the worker

module _ (running after : RunningWorker) (replayed : ℕ) (old : DurableValue)
    (is_old : durable_of running replayed ≡ old) where
  pub upgraded_so : after.process ≡ upgraded running.process
      → after.is_abreast ≡ running.is_abreast
      → after.store.journal.generation ≡ running.store.journal.generation + 1
      → after.store.journal.has_failed ≡ running.store.journal.has_failed
      → IsUpgradedIn old (durable_of after replayed)
  upgraded_so same says numbered works =
      subst (λ (w : DurableValue). IsUpgradedIn w (durable_of after replayed)) is_old
      (record {
        process = same;
        version = ap (λ (v : ProcessValue). v.host.host.version) same
            ∙ upgraded_version running.process;
        widens = λ narrow guest p shows.
            subst (λ (v : ProcessValue). ShowsProcess v guest (widened p)) (sym same)
            (shows_upgraded running.process narrow guest p shows);
        abreast = says;
        replayed = refl;
        unfailed = works;
        generation = numbered;
      })

-- ---- calls, and whatever is on the disk

module _ (running : RunningWorker) (replayed : ℕ) (old : DurableValue)
    (is_old : durable_of running replayed ≡ old) (disk disk' : Medium) where
  pub calls_err_so : (fault : StoreFault) (why : WorkFault)
      → SaveCalls {T = Unit {0}} running.store (upgraded running.process) (Err fault) disk disk'
      → UpgradeCalls {T = Unit {0}} old (Err why) disk disk'
  calls_err_so fault why made = subst (λ (w : DurableValue).
      UpgradeCalls {T = Unit {0}} w (Err why) disk disk') is_old
      (upgrade_calls_err (durable_of running replayed) fault why disk disk' made)

  pub calls_ok_so : (done : Unit {0})
      → SaveCalls running.store (upgraded running.process) (Ok done) disk disk'
      → UpgradeCalls {E = WorkFault} old (Ok done) disk disk'
  calls_ok_so done made = subst (λ (w : DurableValue).
      UpgradeCalls {E = WorkFault} w (Ok done) disk disk') is_old
      (upgrade_calls_ok (durable_of running replayed) done disk disk' made)

  pub cause_so : (fault : StoreFault) (why : WorkFault) → why ≡ fault_of_store fault
      → HasSaveCause running.store (upgraded running.process) disk disk' fault
      → HasUpgradeCause old disk disk' why
  cause_so fault why same cause =
      subst (λ (e : WorkFault). HasUpgradeCause old disk disk' e) (sym same)
      (subst (λ (w : DurableValue). HasUpgradeCause w disk disk' (fault_of_store fault)) is_old
      (upgrade_cause running replayed disk disk' fault cause))

  pub leaves_so : (after : ProcessValue) (fault : StoreFault) (why : WorkFault)
      → why ≡ fault_of_store fault → running.store.journal.has_failed ≡ false
      → HasSaveCause running.store (upgraded running.process) disk disk' fault
      → AfterFault fault running.store running.process after → LeavesProcess old why after
  leaves_so after fault why same works cause leaves =
      subst (λ (e : WorkFault). LeavesProcess old e after) (sym same)
      (subst (λ (w : DurableValue). LeavesProcess w (fault_of_store fault) after) is_old
      (upgrade_leaves running replayed (upgraded running.process) after disk disk' fault works cause
      leaves))
