-- The store of a worker on its disk (this project's own).
use Rattle.std.specs.Prelude.{◌≡◌, ℕ, ◌+◌, ◌-◌, ◌*◌, ◌^◌, ◌<◌, ◌≤◌, List, [], ◌++◌, length, false}
use Rattle.wasm_syntax.specs.declared.module.Module.{Module}
use Rattle.wasi_abi.specs.declared.version.Version.{Version}
use Rattle.wasi_abi.specs.rules.Configs.{Settings}
use Rattle.process_rules.specs.Processes.{ProcessState}
use Rattle.sector_disk.specs.rules.Medium.{Medium, IsAllSynced}
use Rattle.disk_layout.specs.declared.geometry.Geometry.{Geometry}
use Rattle.disk_layout.specs.declared.journal_sectors.TheConstants.{PAYLOAD_SIZE}
use Rattle.disk_layout.specs.rules.Places.{total_sectors}
use Rattle.disk_layout.specs.rules.Journal.{Record, record_bytes}
use Rattle.journal.specs.rules.Packed.{sectors_for}
use Rattle.journal.specs.rules.State.{state, failed_journal}
use Rattle.worker_store.specs.rules.Savepoints.{Savepoint, places, IsJournaled}
use Rattle.worker_store.specs.declared.store.WorkerStore.{WorkerStore}

-- No call has failed. Whatever a cut leaves of the disk is at this savepoint, with these records,
-- which lead to the first process. The journal holds them, and in memory those that are pending,
-- which lead on to the second process, and for which it has room. No write waits for a sync, and
-- the next generation has 63 bits.
pub record IsStoreOf {m : Module} {config : Settings} (point : Savepoint m config)
    (store : WorkerStore)
    (records pending : List Record) (last now : ProcessState) (disk : Medium) : Type 0 where
  pub works : store.journal.has_failed ≡ false
  pub geometry : store.geometry ≡ places point
  pub journaled : IsJournaled point store.journal records pending last now disk
  pub fits : length store.journal.kept
      ≤ PAYLOAD_SIZE * ((places point).journal_sectors - store.journal.used)
  pub sectors : total_sectors (places point) ≤ disk.sectors
  pub all_synced : IsAllSynced disk
  pub early : point.generation < 2 ^ 63

-- where a generation begins, of this version: there is no record of it, and no call has failed
abbrev pub begun_store : Geometry → Version → ℕ → WorkerStore
begun_store geometry version g = record {
  geometry = geometry;
  journal = state version g 0 [] false;
}

-- with one more record in memory
abbrev pub with_record : WorkerStore → Record → WorkerStore
with_record store r = record store {
  journal = state store.journal.version store.journal.generation store.journal.used
      (store.journal.kept ++ record_bytes store.journal.version r) false;
}

-- with all records on the disk, in the next sectors of the journal
abbrev pub with_stored : WorkerStore → WorkerStore
with_stored store = record store {
  journal = state store.journal.version store.journal.generation
      (store.journal.used + sectors_for (length store.journal.kept)) [] false;
}

-- a call has failed, and all else is as before
abbrev pub failed_store : WorkerStore → WorkerStore
failed_store store = record store { journal = failed_journal store.journal }

-- it keeps the same places and the same generation
pub record IsOfStore (before after : WorkerStore) : Type 0 where
  pub geometry : after.geometry ≡ before.geometry
  pub generation : after.journal.generation ≡ before.journal.generation
