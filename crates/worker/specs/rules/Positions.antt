-- Where a worker is, in numbers (this project's own).
use Rattle.std.specs.Prelude.{ℕ, ◌/◌}
use Rattle.process.specs.rules.Values.{ProcessValue, lines_in}
use Rattle.disk_layout.specs.declared.journal_sectors.TheConstants.{PAYLOAD_SIZE}
use Rattle.journal.specs.rules.State.{room_of}
use Rattle.worker_store.specs.declared.store.WorkerStore.{WorkerStore}
use Rattle.worker.specs.declared.position.Position.{Position}
use Rattle.worker.specs.rules.DurableValues.{DurableValue}

-- how many whole sectors of its journal have room, behind the records that only memory holds
abbrev pub journal_left : WorkerStore → ℕ
journal_left store = room_of store.geometry store.journal / PAYLOAD_SIZE

-- the numbers of a process and its store
abbrev pub position_at : ProcessValue → WorkerStore → Position
position_at process store = record {
  generation = store.journal.generation;
  steps = process.steps;
  answers = process.answers;
  requests = process.requests;
  lines = lines_in process;
  journal_left = journal_left store;
}

-- those of a worker
abbrev pub position_of : DurableValue → Position
position_of w = position_at w.process w.store
