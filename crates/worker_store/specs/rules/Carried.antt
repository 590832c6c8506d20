-- What the disk of an open worker holds of what was promised (this project's own).
use Rattle.std.specs.Prelude.{◌≡◌, ℕ, ◌+◌, ◌≤◌, true, List, ◌++◌, length, map, take, drop}
use Rattle.wasm_syntax.specs.declared.module.Module.{Module}
use Rattle.wasi_abi.specs.rules.Configs.{Settings}
use Rattle.process_rules.specs.Processes.{ProcessState}
use Rattle.process_rules.specs.Behind.{IsNarrowTo, AnswersBehindSync}
use Rattle.process_rules.specs.Runs.{Kept}
use Rattle.sector_disk.specs.rules.Medium.{Medium}
use Rattle.disk_layout.specs.rules.Journal.{Record}
use Rattle.record_replay.specs.rules.Records.{Recorded, given_in}
use Rattle.journal.specs.rules.State.{JournalState}
use Rattle.worker_store.specs.restart_theorem.Promises.{Promise, HoldsAll}
use Rattle.worker_store.specs.rules.Savepoints.{Savepoint, IsJournaled}

-- the answers of a savepoint and of these records
abbrev pub answers_at : {m : Module} {config : Settings} → Savepoint m config → List Record
    → List Kept
answers_at point records = point.front ++ map given_in records

-- how many they are
abbrev pub count_at : {m : Module} {config : Settings} → Savepoint m config → List Record → ℕ
count_at point records = length point.front + length records

-- A creation was begun. A savepoint and its records, which lead to this process, hold all that is
-- promised. They have the first of the kept answers. An outlet has taken the lines of the
-- savepoint, and those that are told no more are among them.
pub record IsHeldAt {m : Module} {config : Settings} (promise : Promise)
    (point : Savepoint m config) (records : List Record) (last : ProcessState) : Type 0 where
  pub created : promise.was_created ≡ true
  pub front : take (count_at point records) promise.kept ≡ answers_at point records
  pub recorded : Recorded point.reached.guest point.process records last
  pub holds : HoldsAll m config promise.kept promise (count_at point records) last.steps
  pub heard : point.saved.lines ≤ promise.heard
  pub passed : promise.passed ≤ point.saved.lines

-- An open worker between two calls of its disk. All that is promised is held by the savepoint and
-- the records on the disk. These, and then the pending ones, are of the first of the kept answers.
pub record IsCarried {m : Module} {config : Settings} (promise : Promise)
    (point : Savepoint m config) (journal : JournalState) (records pending : List Record)
    (last now : ProcessState) (disk : Medium) : Type 0 where
  pub journaled : IsJournaled point journal records pending last now disk
  pub held : IsHeldAt promise point records last
  pub answers : take (count_at point (records ++ pending)) promise.kept
      ≡ answers_at point (records ++ pending)
  pub up_to : IsNarrowTo (drop (count_at point (records ++ pending)) promise.kept) now.steps

-- all kept answers are those of the savepoint and of these records
abbrev pub AreOnRecord : {m : Module} {config : Settings} → Promise → Savepoint m config
    → List Record → Type 0
AreOnRecord promise point records = promise.kept ≡ answers_at point records

-- the answers behind syncs of the guest up to this step are among the first so many
abbrev pub SyncsAreHeld : Module → Settings → List Kept → ℕ → ℕ → Type 0
SyncsAreHeld m config kept held steps =
    (k a : ℕ) → k ≤ steps → AnswersBehindSync m config kept k a → a ≤ held
