-- The process at hand, as it is saved, and the savepoint that a commit makes of it.
use Rattle.std.specs.Prelude.{◌≡◌, ℕ, ◌≤◌, List, [], ◌++◌, length, take, drop}
use Rattle.wasm_syntax.specs.declared.module.Module.{Module}
use Rattle.wasm_rules.specs.Acceptance.{IsAccepted}
use Rattle.wasi_abi.specs.rules.Configs.{Settings, AreSettingsWithinLimits}
use Rattle.machine.specs.rules.Offers.{offer}
use Rattle.process_rules.specs.Processes.{ProcessState, Guest, IsStart}
use Rattle.process_rules.specs.Behind.{IsNarrowTo}
use Rattle.process_rules.specs.Runs.{Kept, Runs}
use Rattle.process.specs.rules.Values.{ProcessValue, ShowsProcess, IsProcess}
use Rattle.state_image.specs.rules.Saving.{saved_of}
use Rattle.disk_layout.specs.rules.Journal.{Record, TakesRecords}
use Rattle.record_replay.specs.rules.Records.{Recorded}
use Rattle.worker_store.specs.restart_theorem.Stands.{IsNumbered}
use Rattle.worker_store.specs.restart_theorem.Promises.{Promise}
use Rattle.worker_store.specs.rules.Savepoints.{Savepoint, IsNextPoint}
use Rattle.worker_store.specs.laws.CallEnds.{IsSavedAs}
use Rattle.worker_store.specs.rules.Carried.{answers_at}
use Rattle.worker_store.specs.laws.Carried.{SavesFront}

-- What is saved of a process is each process of the rules that it shows,
abbrev pub ShownIsSaved : Type 0
ShownIsSaved =
    (m : Module) (config : Settings) (guest : Guest) (v : ProcessValue) (p : ProcessState)
    → ShowsProcess v guest p → v.machine.guest ≡ m → IsSavedAs m config guest p (saved_of v)

-- whose numbers are below their ends.
abbrev pub ShownIsNumbered : Type 0
ShownIsNumbered =
    (guest : Guest) (v : ProcessValue) (p : ProcessState) → IsProcess v → ShowsProcess v guest p
    → IsNumbered p

-- ---- the next savepoint

-- The next savepoint is of the process at hand, to which the last one on record has come by these.
-- It has the answers on record, and then these.
pub record IsNextOf {m : Module} {config : Settings} (point : Savepoint m config)
    (records : List Record) (more : List Kept) (last p : ProcessState) (v : ProcessValue)
    (next : Savepoint m config) : Type 0 where
  pub comes : IsNextPoint point next
  pub saved : next.saved ≡ saved_of v
  pub front : next.front ≡ answers_at point records ++ more
  pub process : next.process ≡ p
  pub same : next.reached.guest ≡ point.reached.guest
  pub saves : (promise : Promise) → take (length next.front) promise.kept ≡ next.front
      → IsNarrowTo (drop (length next.front) promise.kept) p.steps
      → length p.host.lines ≤ promise.heard → SavesFront promise point next records more last

-- Where the records of a savepoint have led, and nothing else is kept, its version stays.
abbrev pub VersionStays : Type 0
VersionStays =
    (m : Module) (config : Settings) (point : Savepoint m config) (records : List Record)
    (last p : ProcessState) (n : ℕ) → Recorded point.reached.guest point.process records last
    → Runs point.reached.guest last [] n p → p.host.version ≡ point.saved.version

-- There is a next one wherever the records of a savepoint have led, if the journal takes the
-- records of the version of the process at hand.
abbrev pub NextIsAtHand : Type 0
NextIsAtHand =
    (m : Module) (config : Settings) (point : Savepoint m config) (records : List Record)
    (more : List Kept) (last p : ProcessState) (n : ℕ) (v : ProcessValue)
    → Recorded point.reached.guest point.process records last
    → Runs point.reached.guest last more n p → ShowsProcess v point.reached.guest p → IsProcess v
    → v.machine.guest ≡ m → TakesRecords (saved_of v).version config.journal
    → (next : Savepoint m config) × IsNextOf point records more last p v next

-- ---- the first one

-- The first savepoint is of a process at hand that has begun. It has no answers and no lines.
pub record IsFirstOf {m : Module} {config : Settings} (bytes : List ℕ) (guest : Guest)
    (p : ProcessState) (v : ProcessValue) (first : Savepoint m config) : Type 0 where
  pub generation : first.generation ≡ 1
  pub wasm : first.wasm ≡ bytes
  pub saved : first.saved ≡ saved_of v
  pub numbers : IsNumbered first.process
  pub front : first.front ≡ []
  pub process : first.process ≡ p
  pub same : first.reached.guest ≡ guest
  pub no_lines : first.saved.lines ≡ 0

-- There is one of each process that begins.
abbrev pub FirstIsAtHand : Type 0
FirstIsAtHand =
    (m : Module) (config : Settings) (bytes : List ℕ) (guest : Guest) (p : ProcessState)
    (v : ProcessValue) → IsAccepted offer config.pages bytes m → AreSettingsWithinLimits config
    → IsStart m config guest p → ShowsProcess v guest p → IsProcess v → v.machine.guest ≡ m
    → (first : Savepoint m config) × IsFirstOf bytes guest p v first
