-- How many writes of a creation wait for a sync at once.
use Rattle.std.proofs.Common.{◌+◌, ◌≤◌, max, arith}
use Rattle.sector_disk.specs.rules.Medium.{Medium, CountsUpTo, IsAllSynced, Passes}
use Rattle.sector_disk.proofs.CountLemmas.{counts_then}
use Rattle.disk_layout.specs.declared.geometry.Geometry.{Geometry}
use Rattle.disk_layout.specs.rules.Unsynced.{most_unsynced}
use Rattle.worker_store.specs.Filling.{behind_sectors}
use Rattle.worker_store.proofs.UnsyncedLemmas.{synced_then}

module _ (geometry : Geometry) (old mid next : Medium) (all_synced : IsAllSynced mid)
    (passes : Passes old mid (λ _. Unit {0}))
    (first : CountsUpTo (max (old.unsynced + 1) (behind_sectors geometry)) old mid)
    (second : CountsUpTo (mid.unsynced + geometry.area_sectors + 1) mid next) where
  -- contents, and then the first image
  pub process_image_counts_behind : CountsUpTo (max (old.unsynced
      + 1) (most_unsynced geometry)) old next
  process_image_counts_behind =
      let none = all_synced.unsynced in
      counts_then (max (old.unsynced + 1) (behind_sectors geometry))
      (mid.unsynced + geometry.area_sectors + 1) (max (old.unsynced + 1) (most_unsynced geometry))
      old mid next (omega arith) (omega (arith, none)) passes.later first second

  -- and the super
  pub super_counts_behind : (new : Medium) → IsAllSynced next → mid.moment ≤ next.moment
      → CountsUpTo (next.unsynced + 1) next new
      → CountsUpTo (max (old.unsynced + 1) (most_unsynced geometry)) old new
  super_counts_behind new done later third =
      let p = passes.later in
      synced_then (max (old.unsynced + 1) (most_unsynced geometry)) 1
      (max (old.unsynced + 1) (most_unsynced geometry)) old next new done (omega arith)
      (omega arith) (omega (arith, p, later)) process_image_counts_behind third
