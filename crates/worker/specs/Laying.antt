-- The worker of a process for which a disk was laid out.
use Rattle.std.specs.Prelude.{true, Result, Ok, Err}
use Rattle.process.specs.rules.Values.{ProcessValue}
use Rattle.worker_store.specs.declared.fault.StoreFault.{StoreFault}
use Rattle.worker_store.specs.declared.store.WorkerStore.{WorkerStore}
use Rattle.worker.specs.declared.fault.WorkFault.{WorkFault}
use Rattle.worker.specs.rules.WorkFaults.{fault_of_store}
use Rattle.worker.specs.rules.DurableValues.{DurableValue}

-- of this process and this store
abbrev pub fresh_of : ProcessValue → WorkerStore → DurableValue
fresh_of v store = record {
  process = v;
  store = store;
  is_abreast = true;
  replayed = 0;
  has_failed = store.journal.has_failed;
}

-- of what laying it out has answered
abbrev pub worker_laid : ProcessValue → Result WorkerStore StoreFault
    → Result DurableValue WorkFault
worker_laid v (Ok store) = Ok (fresh_of v store)
worker_laid v (Err why) = Err (fault_of_store why)
