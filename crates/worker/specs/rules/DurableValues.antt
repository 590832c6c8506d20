-- What contracts see of a worker on its disk (this project's own).
use Rattle.std.specs.Prelude.{◌≡◌, ℕ, ◌<◌, Bool, false, true, []}
use Rattle.process.specs.rules.Values.{ProcessValue, IsProcess, waiting_in}
use Rattle.sector_disk.specs.rules.Medium.{Medium}
use Rattle.disk_layout.specs.rules.Places.{total_sectors}
use Rattle.worker_store.specs.declared.store.WorkerStore.{WorkerStore}
use Rattle.worker_store.specs.rules.Stores.{failed_store}
use Rattle.worker.specs.declared.running_worker.RunningWorker.{RunningWorker}
use Rattle.record_replay.specs.rules.Workers.{WorkerValue}

-- Its process, its store, whether the process has come to the last line that was ever told, how
-- many steps were replayed when it was recovered, and whether a call of it has failed: that is the
-- flag of its store's journal.
pub record DurableValue : Type 0 where
  pub process : ProcessValue
  pub store : WorkerStore
  pub is_abreast : Bool
  pub replayed : ℕ
  pub has_failed : Bool

-- of its parts
abbrev pub durable_of : RunningWorker → ℕ → DurableValue
durable_of running replayed = record {
  process = running.process;
  store = running.store;
  is_abreast = running.is_abreast;
  replayed = replayed;
  has_failed = running.store.journal.has_failed;
}

-- Until a call has failed no line waits between two calls, and the process's numbers can be
-- counted.
pub record IsDurable (w : DurableValue) : Type 0 where
  pub none_waits : w.has_failed ≡ false → waiting_in w.process ≡ []
  pub shows : w.has_failed ≡ false → IsProcess w.process

-- the same worker without its disk
abbrev pub without_disk : DurableValue → WorkerValue
without_disk w = record { process = w.process; failed = w.has_failed }

-- a call of it has failed, and all else of it is as it was
abbrev pub failed_worker : DurableValue → DurableValue
failed_worker w = record w { store = failed_store w.store; has_failed = true }

-- the disk has fewer sectors than the worker
abbrev pub IsTooSmallFor : DurableValue → Medium → Type 0
IsTooSmallFor w disk = disk.sectors < total_sectors w.store.geometry
