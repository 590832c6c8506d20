-- What a worker on its disk says where its store can't do a step.
use Rattle.worker_store.specs.declared.fault.StoreFault.{StoreFault}
use Rattle.worker_store.specs.declared.fault.StoreFault.TheVariants as store
use Rattle.record_replay.specs.declared.slices.fault.SliceFault.TheVariants as slice
use Rattle.worker.specs.declared.fault.WorkFault.{WorkFault}
use Rattle.worker.specs.declared.fault.WorkFault.TheVariants.{Work, Disk, Store}

-- a fault of the store, as one of its worker
abbrev pub fault_of_store : StoreFault → WorkFault
fault_of_store (store.Disk fault) = Disk fault
fault_of_store store.Memory = Work slice.Memory
fault_of_store store.Failed = Work slice.Failed
fault_of_store store.Full = Store store.Full
fault_of_store store.TooLong = Store store.TooLong
fault_of_store store.TooBig = Store store.TooBig
fault_of_store store.Damaged = Store store.Damaged
fault_of_store (store.Layout fault) = Store (store.Layout fault)
