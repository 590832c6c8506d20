-- How many writes wait for a sync at once in a recovery.
use Rattle.std.proofs.Common.{◌+◌, ◌≤◌, max, sym, subst, inl, inr, arith}
use Rattle.std.specs.Prelude.{Result, Ok, Err}
use Rattle.sector_disk.specs.rules.Medium.{Medium, CountsUpTo}
use Rattle.sector_disk.proofs.CountLemmas.{counts_then}
use Rattle.disk_layout.specs.rules.Places.{Geometry, total_sectors}
use Rattle.record_replay.specs.rules.Calls.{Taking}
use Rattle.worker.specs.declared.found.Found.{Found}
use Rattle.worker.specs.declared.recover_fault.RecoverFault.{RecoverFault}
use Rattle.worker.specs.rules.DurableValues.{DurableValue}
use Rattle.worker.specs.rules.Recoveries.{IsJustSynced}
use Rattle.worker.specs.rules.Unsynced.{CountsInSaving, CountsInRecovery}
use Rattle.worker.specs.Revivals.{RevivesFound}

-- a synced disk, and then a commit
saving_counts : (places : Geometry) (old mid new : Medium) → IsJustSynced old mid
    → CountsUpTo (mid.unsynced + places.area_sectors + 1) mid new → CountsInSaving places old new
saving_counts places old mid new just_synced counts =
    let none = just_synced.all_synced.unsynced in
    let passes = just_synced.leaves.passes in
    counts_then old.unsynced (mid.unsynced + places.area_sectors + 1)
    (max old.unsynced (places.area_sectors + 1)) old mid new (omega arith) (omega (arith, none))
    passes.later just_synced.counts counts

module _ {D O : Type 0} (medium : D → Medium) (takes : Taking O) (old mid new : D)
    (just_synced : IsJustSynced (medium old) (medium mid)) (found : Found)
    (room : total_sectors found.geometry ≤ (medium mid).sectors) (outlet outlet' : O) where
  pub revival_counts : (result : Result DurableValue RecoverFault)
      → RevivesFound medium takes found result mid new outlet outlet'
      → CountsInRecovery result (medium old) (medium new)
  revival_counts (Ok w) revives =
      let opens = revives.1 in
      let writes = opens.writes in
      subst (λ (g : Geometry). CountsInSaving g (medium old) (medium new)) (sym opens.placed)
      (saving_counts found.geometry (medium old) (medium mid) (medium new) just_synced
      writes.counts)
  revival_counts (Err why) (inl stops) =
      inl (subst (λ d. CountsUpTo (medium old).unsynced (medium old) (medium d)) (sym stops.same)
      just_synced.counts)
  revival_counts (Err why) (inr for) =
      let none = for.none in
      let writes = none.writes in
      let passes = just_synced.leaves.passes in
      let sectors = passes.sectors in
      inr (
        found.geometry,
        omega (arith, room, sectors),
        saving_counts found.geometry (medium old) (medium mid) (medium new) just_synced
            writes.counts,
      )
