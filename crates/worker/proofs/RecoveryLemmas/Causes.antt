-- Why a recovery fails, whatever is on the disk.
use Rattle.std.proofs.Common.{◌≡◌, ℕ, ◌+◌, ◌<◌, ◌≤◌, sym, subst, inl, inr, arith}
use Rattle.std.specs.Prelude.{Result, Ok, Err, IfErr}
use Rattle.process.specs.rules.Values.{ProcessValue}
use Rattle.sector_disk.specs.declared.fault.DiskFault.{DiskFault}
use Rattle.sector_disk.specs.rules.Medium.{Medium}
use Rattle.disk_layout.specs.rules.Places.{total_sectors}
use Rattle.record_replay.specs.rules.Calls.{Taking}
use Rattle.worker_store.specs.declared.fault.StoreFault.{StoreFault}
use Rattle.worker_store.specs.declared.fault.StoreFault.TheVariants as store
use Rattle.worker_store.specs.rules.Calls.{ReopeningFails}
use Rattle.worker.specs.declared.fault.WorkFault.TheVariants.{Work, Disk, Store, Upgrade}
use Rattle.worker.specs.declared.found.Found.{Found}
use Rattle.worker.specs.declared.recover_fault.RecoverFault.{RecoverFault}
use Rattle.worker.specs.declared.recover_fault.RecoverFault.TheVariants as recover
use Rattle.worker.specs.rules.WorkFaults.{fault_of_store}
use Rattle.worker.specs.rules.DurableValues.{DurableValue}
use Rattle.worker.specs.rules.Recoveries.{HasRecoveryCause, IsJustSynced}
use Rattle.worker.specs.Findings.{HasSearchCause}
use Rattle.worker.specs.Revivals.{RevivesFound}

-- the disk couldn't be synced
pub failed_sync_cause : (old new : Medium) (fault : DiskFault) (why : RecoverFault)
    → why ≡ recover.Worker (Disk fault) → old.faults < new.faults
    → HasRecoveryCause old new why
failed_sync_cause old new fault why is failed =
    subst (λ (e : RecoverFault). HasRecoveryCause old new e) (sym is) (inl failed)

-- no worker was found
module _ (old sync mid : Medium) (earlier : old.faults ≤ sync.faults) where
  pub unfound_cause : (why : RecoverFault) → HasSearchCause sync mid why
      → HasRecoveryCause old mid why
  unfound_cause (recover.Worker (Disk fault)) cause = inl (omega (arith, earlier, cause))
  unfound_cause (recover.Worker (Work why)) cause = absurd cause
  unfound_cause (recover.Worker (Store why)) cause = absurd cause
  unfound_cause (recover.Worker (Upgrade why)) cause = absurd cause
  unfound_cause (recover.Replay why) cause = absurd cause
  unfound_cause other cause = cause

-- the next generation couldn't be written
module _ (old mid new : Medium) (just_synced : IsJustSynced old mid) (found : Found)
    (room : total_sectors found.geometry ≤ mid.sectors) where
  reopening_cause : (g : ℕ) (v : ProcessValue) (fault : StoreFault)
      → ReopeningFails found.geometry g v mid new fault
      → HasRecoveryCause old new (recover.Worker (fault_of_store fault))
  reopening_cause g v store.TooBig fails = tt
  reopening_cause g v (store.Disk fault) (inl small) = absurd (omega (arith, small, room))
  reopening_cause g v (store.Disk fault) (inr (inl few)) =
      let passes = just_synced.leaves.passes in
      let sectors = passes.sectors in
      let same = passes.room in
      let synced = just_synced.all_synced.unsynced in
      inr (
        found.geometry,
        omega (arith, room, sectors),
        inl (omega (arith, few, same, synced)),
      )
  reopening_cause g v (store.Disk fault) (inr (inr (inl no_room))) =
      let passes = just_synced.leaves.passes in
      let sectors = passes.sectors in
      let same = passes.room in
      inr (found.geometry, omega (arith, room, sectors), inr (omega (arith, no_room, same)))
  reopening_cause g v (store.Disk fault) (inr (inr (inr failed))) =
      let passes = just_synced.leaves.passes in
      let faults = passes.faults in
      inl (omega (arith, failed, faults))
  reopening_cause g v store.Full fails = absurd fails
  reopening_cause g v store.TooLong fails = absurd fails
  reopening_cause g v store.Damaged fails = absurd fails
  reopening_cause g v (store.Layout why) fails = absurd fails
  reopening_cause g v store.Memory fails = absurd fails
  reopening_cause g v store.Failed fails = absurd fails

-- whatever comes of what was found
module _ {D O : Type 0} (medium : D → Medium) (takes : Taking O) (old mid new : D)
    (just_synced : IsJustSynced (medium old) (medium mid)) (found : Found)
    (room : total_sectors found.geometry ≤ (medium mid).sectors) (outlet outlet' : O) where
  pub revival_cause : (result : Result DurableValue RecoverFault)
      → RevivesFound medium takes found result mid new outlet outlet'
      → IfErr result (λ why. HasRecoveryCause (medium old) (medium new) why)
  revival_cause (Ok w) revives = tt
  revival_cause (Err why) (inl stops) =
      subst (λ (e : RecoverFault). HasRecoveryCause (medium old) (medium new) e) (sym stops.is)
      tt
  revival_cause (Err why) (inr for) =
      let none = for.none in
      subst (λ (e : RecoverFault). HasRecoveryCause (medium old) (medium new) e) (sym none.is)
      (reopening_cause (medium old) (medium mid) (medium new) just_synced found room
      (found.generation + 1) for.process none.fault none.fails)
