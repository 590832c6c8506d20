-- A worker that is open on its disk, and what has been promised of it (this project's own).
use Rattle.std.specs.Prelude.{◌≡◌, ℕ, ◌≤◌, Bool, true, false, List, [], ◌++◌, length}
use Rattle.wasm_syntax.specs.declared.module.Module.{Module}
use Rattle.wasi_abi.specs.rules.Configs.{Settings}
use Rattle.wasi_calls_rules.specs.laws.Laws.{IsOfBytes}
use Rattle.process_rules.specs.Processes.{ProcessState, Guest, host_of}
use Rattle.process_rules.specs.Runs.{Runs}
use Rattle.process.specs.rules.Values.{ShowsProcess, waiting_in}
use Rattle.sector_disk.specs.rules.Medium.{Medium}
use Rattle.disk_layout.specs.rules.Journal.{Record}
use Rattle.worker_store.specs.restart_theorem.Courses.{Stage}
use Rattle.worker_store.specs.restart_theorem.Promises.{Promise}
use Rattle.worker_store.specs.rules.Savepoints.{Savepoint}
use Rattle.worker_store.specs.rules.BetweenCalls.{IsBetween}
use Rattle.worker_store.specs.rules.Carried.{count_at, IsCarried, SyncsAreHeld, AreOnRecord}
use Rattle.worker_store.specs.declared.store.WorkerStore.{WorkerStore}
use Rattle.worker_store.specs.rules.Stores.{IsStoreOf}
use Rattle.worker.specs.rules.DurableValues.{DurableValue}

-- which worker it is: its module, its configuration, and its guest
pub record Identity : Type 0 where
  pub code : Module
  pub config : Settings
  pub guest : Guest

-- of these
abbrev pub identity : Module → Settings → Guest → Identity
identity m config guest = record { code = m; config = config; guest = guest }

-- The disk of a worker, and its store, which hold what is promised. The answers of a savepoint, of
-- the records after it and of those that are pending are all kept answers. They lead to p without
-- another one. The answers behind the guest's syncs up to this step are among those on the disk.
-- The savepoint's generation is at most this one.
pub record IsOnDisk (from : Identity) (promise : Promise) (p : ProcessState) (step latest : ℕ)
    (store : WorkerStore) (disk : Medium) : Type 0 where
  pub point : Savepoint from.code from.config
  pub same : point.reached.guest ≡ from.guest
  pub records : List Record
  pub pending : List Record
  pub last : ProcessState
  pub now : ProcessState
  pub stores : IsStoreOf point store records pending last now disk
  pub carried : IsCarried promise point store.journal records pending last now disk
  pub on_record : AreOnRecord promise point (records ++ pending)
  pub n : ℕ
  pub runs : Runs from.guest now [] n p
  pub syncs : SyncsAreHeld from.code from.config promise.kept (count_at point records) step
  pub early : point.generation ≤ latest

-- Where a worker says so, no line was ever begun beyond those of its process. It says so in a life
-- that began by a creation, once it has asked, or where its process has ended.
pub record IsAbreast (promise : Promise) (stage : Stage) (p : ProcessState) (says : Bool)
    : Type 0 where
  pub none_beyond : says ≡ true → promise.begun ≤ length p.host.lines
  pub says_so : stage.is_abreast ≡ true → says ≡ true

-- A worker between two calls, none of which has failed. It shows the process that all kept answers
-- lead to. All its lines were told in this life, an outlet has taken each, and none waits. Each
-- sync of the guest that is promised is after it. So many generations have an event of their own.
-- The configuration's texts are bytes.
pub record IsOpenOn (m : Module) (config : Settings) (guest : Guest) (promise : Promise)
    (stage : Stage) (p : ProcessState) (w : DurableValue) (disk : Medium) : Type 0 where
  pub works : w.has_failed ≡ false
  pub opened : promise.has_opened ≡ true
  pub texts : IsOfBytes (host_of config)
  pub shows : ShowsProcess w.process guest p
  pub module_is : w.process.machine.guest ≡ m
  pub between : IsBetween m config guest promise stage p
  pub heard : length p.host.lines ≤ promise.heard
  pub passed : promise.passed ≤ length p.host.lines
  pub none_waits : waiting_in w.process ≡ []
  pub on_disk : IsOnDisk (identity m config guest) promise p p.steps promise.events w.store disk
  pub synced : promise.synced ≤ p.steps
  pub abreast : IsAbreast promise stage p w.is_abreast
