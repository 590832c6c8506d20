-- Why the store refuses a worker that is created.
use Rattle.std.proofs.Common.{◌<◌, ℕ, List}
use Rattle.wasi_abi.specs.rules.Configs.{Settings}
use Rattle.sector_disk.specs.rules.Medium.{Medium}
use Rattle.disk_layout.specs.declared.fault.LayoutFault.TheVariants as layout
use Rattle.disk_layout.specs.rules.Places.{total_sectors}
use Rattle.process.specs.rules.Legacies.{LegacyValue}
use Rattle.worker_store.specs.declared.fault.StoreFault.{StoreFault}
use Rattle.worker_store.specs.declared.fault.StoreFault.TheVariants as store
use Rattle.worker.specs.declared.fault.WorkFault.TheVariants as work
use Rattle.worker.specs.rules.DurableCreations.{places_for}
use Rattle.worker.specs.rules.Successions.{IsNotCreatedFrom}

-- the disk has too few sectors
pub store_lacks_sectors : (bytes : List ℕ) (config : Settings) (left : LegacyValue)
    (old new : Medium) (fault : StoreFault)
    → IsNotCreatedFrom bytes config left old new (work.Store fault)
    → old.sectors < total_sectors (places_for config bytes)
store_lacks_sectors bytes config left old new (store.Layout layout.TooSmall) is = is
store_lacks_sectors bytes config left old new (store.Layout layout.NotAWorker) is = absurd is
store_lacks_sectors bytes config left old new (store.Layout layout.Version) is = absurd is
store_lacks_sectors bytes config left old new (store.Layout (layout.Damaged why)) is = absurd is
store_lacks_sectors bytes config left old new (store.Layout layout.Memory) is = absurd is
store_lacks_sectors bytes config left old new (store.Layout (layout.Disk fault)) is = absurd is
store_lacks_sectors bytes config left old new store.Full is = absurd is
store_lacks_sectors bytes config left old new store.TooLong is = absurd is
store_lacks_sectors bytes config left old new store.TooBig is = absurd is
store_lacks_sectors bytes config left old new store.Damaged is = absurd is
store_lacks_sectors bytes config left old new (store.Disk fault) is = absurd is
store_lacks_sectors bytes config left old new store.Memory is = absurd is
store_lacks_sectors bytes config left old new store.Failed is = absurd is
