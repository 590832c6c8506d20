-- Why calls of a worker that is open fail.
use Rattle.std.proofs.Common.{◌≡◌, ◌⊎◌, inl, inr, ℕ, ◌-◌, ◌*◌, ◌≤◌, ◌<◌, [], ◌∷◌, length}
use Rattle.std.proofs.Common.{refl, sym, ap, subst, arith, ◌∙◌, ⊎_elim}
use Rattle.wasm_syntax.specs.declared.module.Module.{Module}
use Rattle.wasi_abi.specs.rules.Configs.{Settings}
use Rattle.wasi_abi.specs.declared.version.Version.TheVariants.{One, Two}
use Rattle.process_rules.specs.Processes.{ProcessState, Guest}
use Rattle.process_rules.specs.Runs.{Wider, widened, none, widen}
use Rattle.process.specs.rules.Values.{ProcessValue, IsProcess}
use Rattle.state_image.specs.rules.ProcessImage.{process_image}
use Rattle.state_image.specs.rules.Saving.{saved_of}
use Rattle.sector_disk.specs.declared.fault.DiskFault.{DiskFault}
use Rattle.sector_disk.specs.declared.sector.TheConstants.{SECTOR_SIZE}
use Rattle.sector_disk.specs.rules.Medium.{Medium, spare}
use Rattle.disk_layout.specs.declared.geometry.Geometry.{Geometry}
use Rattle.journal.specs.rules.Packed.{sectors_for}
use Rattle.record_replay.specs.declared.slices.fault.SliceFault.TheVariants as slice
use Rattle.worker_store.specs.restart_theorem.Courses.{Stage}
use Rattle.worker_store.specs.restart_theorem.Lives.{Act, Slice, Batch, Checkpoint}
use Rattle.worker_store.specs.restart_theorem.Lives.Act.{Upgrade as upgrading}
use Rattle.worker_store.specs.restart_theorem.Promises.{Promise}
use Rattle.worker_store.specs.declared.fault.StoreFault.TheVariants as store
use Rattle.worker_store.specs.laws.Laws.{ProcessImagesFitAreas}
use Rattle.worker.specs.declared.fault.WorkFault.{WorkFault}
use Rattle.worker.specs.declared.fault.WorkFault.TheVariants.{Work, Disk, Store, Upgrade}
use Rattle.worker.specs.laws.Causes.{CheckpointCausesOfOpenWorkers, UpgradeCausesOfOpenWorkers}
use Rattle.worker.specs.laws.Causes.{DiskFaultsOfOpenWorkers, IsCheckpointFault, IsUpgradeFault}
use Rattle.worker.specs.laws.Causes.{LeavesOpenProcess}
use Rattle.worker.specs.rules.Checkpoints.{HasCheckpointCause}
use Rattle.worker.specs.rules.DurableCalls.{TakesTooFew}
use Rattle.worker.specs.rules.DurableFailures.{LacksRoom}
use Rattle.worker.specs.rules.DurableValues.{DurableValue}
use Rattle.worker.specs.rules.OneLife.{HasActCause}
use Rattle.worker.specs.rules.OpenWorkers.{IsOpenOn}
use Rattle.worker.specs.rules.Upgrades.{HasUpgradeCause, LeavesProcess, upgraded}
use Rattle.worker.proofs.DurableLemmas.OnDisk.{records_fit}
use Rattle.worker.proofs.SavingActLemmas.{FitsOpen, image_fits}
use Rattle.worker.proofs.WideningLemmas.{one_or_two, upgraded_two, is_upgraded}
use Rattle.worker.proofs.WideningLemmas.{module_upgraded, shows_upgraded, shown_version}

-- ---- its image

module _ {D : Type 0} (medium : D → Medium) (fit : ProcessImagesFitAreas) (w : DurableValue)
    (disk : D) (is : IsProcess w.process) where
  -- as it is
  pub fits_now : FitsOpen w w.process (medium disk)
  fits_now m config guest promise stage p opened =
      image_fits medium m config guest promise p p.steps promise.events w.store disk [] 0 p
      w.process opened.on_disk none opened.shows is opened.module_is opened.texts fit

  -- in version 2
  pub fits_upgraded : FitsOpen w (upgraded w.process) (medium disk)
  fits_upgraded m config guest promise stage p opened = ⊎_elim
      (λ (narrow : w.process.host.host.version ≡ One).
      image_fits medium m config guest promise p p.steps promise.events w.store disk
      (Wider p.steps ∷ []) 0 (widened p) (upgraded w.process) opened.on_disk
      (widen (record {
        narrow = shown_version w.process guest p opened.shows ∙ narrow;
        at = refl;
      }) none) (shows_upgraded w.process narrow guest p opened.shows) (is_upgraded w.process is)
      (module_upgraded w.process m opened.module_is) opened.texts fit)
      (λ (wide : w.process.host.host.version ≡ Two).
      subst (λ (v : ProcessValue).
      length (process_image (saved_of v)) ≤ SECTOR_SIZE * w.store.geometry.area_sectors)
      (sym (upgraded_two w.process wide)) (fits_now m config guest promise stage p opened))
      (one_or_two w.process.host.host.version)

-- ---- its disk

module _ {D : Type 0} (medium : D → Medium) (m : Module) (config : Settings) (guest : Guest)
    (promise : Promise) (stage : Stage) (p : ProcessState) (w : DurableValue) (old new : D)
    (opened : IsOpenOn m config guest promise stage p w (medium old)) where
  -- no write waits for a sync
  all_room : spare (medium old) ≡ (medium old).room
  all_room =
      let on = opened.on_disk in
      let stores = on.stores in
      let synced = stores.all_synced in
      none_waits (medium old).room (medium old).unsynced synced.unsynced
    where
      none_waits : (room unsynced : ℕ) → unsynced ≡ 0 → room - unsynced ≡ room
      none_waits room unsynced all = omega (arith, all)

  few_writes : LacksRoom w.store.geometry (medium old) ⊎ ((medium old).faults < (medium new).faults)
      → TakesTooFew config (medium old) ⊎ ((medium old).faults < (medium new).faults)
  few_writes (inl (inl few)) =
      let on = opened.on_disk in
      let many = ap (λ (g : Geometry). g.journal_sectors) on.stores.geometry in
      let all = all_room in
      inl (inl (omega (arith, few, many, all)))
  few_writes (inl (inr (inl few))) =
      let on = opened.on_disk in
      let area = ap (λ (g : Geometry). g.area_sectors) on.stores.geometry in
      let all = all_room in
      inl (inr (omega (arith, few, area, all)))
  few_writes (inl (inr (inr nothing))) = inl (inr (omega (arith, nothing)))
  few_writes (inr failed) = inr failed

  few_saved : (spare (medium old) < sectors_for (length w.store.journal.kept))
      ⊎ (spare (medium old) < w.store.geometry.area_sectors) ⊎ ((medium old).room ≡ 0)
      ⊎ ((medium old).faults < (medium new).faults)
      → TakesTooFew config (medium old) ⊎ ((medium old).faults < (medium new).faults)
  few_saved (inl few) =
      let fit = records_fit m config guest promise p p.steps promise.events w.store (medium old)
      opened.on_disk in
      few_writes (inl (inl (omega (arith, few, fit))))
  few_saved (inr (inl few)) = few_writes (inl (inr (inl few)))
  few_saved (inr (inr (inl nothing))) = few_writes (inl (inr (inr nothing)))
  few_saved (inr (inr (inr failed))) = few_writes (inr failed)

  -- a fault of it has its cause, whichever call comes to it
  pub open_disk_cause : (act : Act) (w' : DurableValue) (fault : DiskFault)
      → HasActCause act w (Disk fault) w' (medium old) (medium new)
      → TakesTooFew config (medium old) ⊎ ((medium old).faults < (medium new).faults)
  open_disk_cause (Slice fuel) w' fault cause = few_writes cause
  open_disk_cause (Batch fuel most) w' fault cause = few_writes cause
  open_disk_cause Checkpoint w' fault cause = few_saved cause
  open_disk_cause upgrading w' fault cause = few_saved cause.0

  -- ---- a save

  -- its image isn't longer than an area
  abbrev Fits : ProcessValue → Type 0
  Fits v = length (process_image (saved_of v)) ≤ SECTOR_SIZE * w.store.geometry.area_sectors

  -- where this process is saved
  open_save_cause : (v : ProcessValue) → Fits v → (fault : WorkFault)
      → HasCheckpointCause (record w { process = v }) (medium old) (medium new) fault
      → IsCheckpointFault w (medium old) (medium new) fault
  open_save_cause v fits (Work slice.Failed) failed = let works = opened.works in absurd (cc)
  open_save_cause v fits (Disk why) cause =
      subst (λ n. (n < sectors_for (length w.store.journal.kept))
      ⊎ (n < w.store.geometry.area_sectors) ⊎ ((medium old).room ≡ 0)
      ⊎ ((medium old).faults < (medium new).faults)) all_room cause
  open_save_cause v fits (Store store.TooBig) (inl late) = late
  open_save_cause v fits (Store store.TooBig) (inr long) = absurd (omega (arith, long, fits))
  open_save_cause v fits (Store store.Full) full =
      let fit = records_fit m config guest promise p p.steps promise.events w.store (medium old)
      opened.on_disk in
      absurd (omega (arith, full, fit))
  open_save_cause v fits other cause = cause

  module _ (fit : ProcessImagesFitAreas) (is : IsProcess w.process) where
    pub open_checkpoint_cause : (fault : WorkFault)
        → HasCheckpointCause w (medium old) (medium new) fault
        → IsCheckpointFault w (medium old) (medium new) fault
    open_checkpoint_cause =
        open_save_cause w.process
        (fits_now medium fit w old is m config guest promise stage p opened)

    fits_wide : Fits (upgraded w.process)
    fits_wide = fits_upgraded medium fit w old is m config guest promise stage p opened

    pub open_upgrade_cause : (fault : WorkFault)
        → HasUpgradeCause w (medium old) (medium new) fault
        → IsUpgradeFault w (medium old) (medium new) fault
    open_upgrade_cause (Upgrade why) cause = cause
    open_upgrade_cause other cause =
        open_save_cause (upgraded w.process) fits_wide other cause

    -- and what an upgrade leaves
    pub leaves_open : (fault : WorkFault) (after : ProcessValue) → LeavesProcess w fault after
        → LeavesOpenProcess fault w.process after
    leaves_open (Store store.TooBig) after (inl same) = same
    leaves_open (Store store.TooBig) after (inr wide) =
        let long = wide.2 in
        let fits = subst Fits (sym wide.0) fits_wide in
        absurd (omega (arith, long, fits))
    leaves_open other after leaves = leaves

-- ---- the laws

module _ {D : Type 0} (medium : D → Medium) (fit : ProcessImagesFitAreas) where
  pub checkpoint_causes : CheckpointCausesOfOpenWorkers medium
  checkpoint_causes m config guest promise stage p w old new fault opened shows cause =
      open_checkpoint_cause medium m config guest promise stage p w old new opened fit
      (shows opened.works) fault cause

  pub upgrade_causes : UpgradeCausesOfOpenWorkers medium
  upgrade_causes m config guest promise stage p w old new fault after opened shows cause leaves = (
    open_upgrade_cause medium m config guest promise stage p w old new opened fit
        (shows opened.works) fault cause,
    leaves_open medium m config guest promise stage p w old new opened fit (shows opened.works)
        fault after leaves,
  )

module _ {D : Type 0} (medium : D → Medium) where
  pub disk_faults : DiskFaultsOfOpenWorkers medium
  disk_faults m config guest promise stage p act w w' old new fault opened cause =
      open_disk_cause medium m config guest promise stage p w old new opened act w' fault cause
