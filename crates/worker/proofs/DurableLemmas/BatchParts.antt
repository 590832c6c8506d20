-- Parts of a batch of a worker on its disk, and what is so behind them.
use Rattle.std.proofs.Common.{◌≡◌, ◌+◌, ◌-◌, ◌≤◌, List, [], ◌++◌, length, refl, sym}
use Rattle.std.proofs.Common.{ap, ◌∙◌, subst, arith, Err, length-append}
use Rattle.std.specs.Prelude.{◌≢◌}
use Rattle.std.proofs.lemmas.List.{append-nil, drop_all}
use Rattle.wasi_abi.specs.declared.answer.Question.{Question}
use Rattle.process_rules.specs.Processes.{ProcessState}
use Rattle.process.specs.rules.Values.{HasReleased, ProcessValue, waiting_in}
use Rattle.sector_disk.specs.rules.Medium.{Medium}
use Rattle.record_replay.specs.rules.Calls.{Begun, Exchange, Giving, all_taken}
use Rattle.record_replay.specs.rules.Waiting.{first_waiting}
use Rattle.worker_store.specs.restart_theorem.Lives.{Reply}
use Rattle.worker_store.specs.restart_theorem.Courses.{Stage}
use Rattle.worker_store.specs.restart_theorem.Promises.{Promise}
use Rattle.worker_store.specs.laws.Acts.{most_held}
use Rattle.worker_store.specs.laws.Turns.{LeavesBegun}
use Rattle.worker_store.proofs.LawLemmas.Pieces.{parts_join}
use Rattle.worker_store.proofs.LawLemmas.TurnLemmas.{turns_join, parts_leave_begun}
use Rattle.worker_store.specs.declared.store.WorkerStore.{WorkerStore}
use Rattle.worker_store.specs.rules.Stores.{failed_store}
use Rattle.record_replay.specs.declared.slices.fault.SliceFault.TheVariants as slice
use Rattle.worker.specs.declared.fault.WorkFault.{WorkFault}
use Rattle.worker.specs.declared.fault.WorkFault.TheVariants.{Work, Disk, Store, Upgrade}
use Rattle.worker.specs.declared.running_worker.RunningWorker.{RunningWorker}
use Rattle.worker.specs.rules.OpenWorkers.{IsOnDisk, IsAbreast}
use Rattle.worker.specs.DurableTurns.{Course, IsBetweenTurns, IsAskingOn, IsOwingTurn, TurnGoes}
use Rattle.worker.specs.DurableTurns.{TurnEnds, TurnFails, to_tell, slice_end, identity_of}
use Rattle.worker.specs.DurableTurns.{running_on, asking_scene}
use Rattle.worker.specs.StoreTurns.{StoreStops}
use Rattle.worker.specs.BatchTurns.{IsTellingTurn, IsToldTurn, TurnComes, AsksOn, AsksHolding}
use Rattle.worker.proofs.DurableLemmas.OnDisk.{lowered_to}
use Rattle.worker.proofs.DurableLemmas.Bounds.{bounds_join}
use Rattle.worker.proofs.DurableLemmas.Ends.{not_open}
use Rattle.worker.proofs.DurableLemmas.Flushing.{with_store}
use Rattle.worker.proofs.DurableLemmas.Holding.{length_taken}

-- ---- two parts of a batch

module _ {D : Type 0} (medium : D → Medium) (c : Course) (promise : Promise) (stage : Stage)
    (xs ys : List Exchange) (disk mid disk' : D) {P Q : Promise → Stage → Type 0}
    (a : TurnComes c promise stage xs (medium disk) (medium mid) P) where
  pub comes_after : TurnComes c a.promise' a.stage' ys (medium mid) (medium disk') Q
      → TurnComes c promise stage (xs ++ ys) (medium disk) (medium disk') Q
  comes_after b = record {
    promise' = b.promise';
    stage' = b.stage';
    done = parts_join c.code c.config promise a.promise' b.promise' stage a.stage' b.stage' xs ys
        a.done b.done;
    onward = turns_join medium c.code c.config promise a.promise' b.promise' disk mid disk' a.onward
        b.onward;
    bounded = bounds_join a.promise'.events b.promise'.events (medium disk) (medium mid)
        (medium disk') begun.events a.bounded b.bounded;
    state = b.state;
  }
    where
      begun : LeavesBegun a.promise' b.promise' a.stage' b.stage'
      begun = parts_leave_begun c.code c.config a.promise' b.promise' a.stage' b.stage' ys b.done

-- a part that ends it comes behind
pub comes_end : {D : Type 0} (medium : D → Medium) (c : Course) (promise : Promise) (stage : Stage)
    (xs ys : List Exchange) (disk mid disk' : D) {P : Promise → Stage → Type 0}
    (a : TurnComes c promise stage xs (medium disk) (medium mid) P) (w : RunningWorker)
    (reply : Reply) → TurnEnds c a.promise' a.stage' reply ys w (medium mid) (medium disk')
    → TurnEnds c promise stage reply (xs ++ ys) w (medium disk) (medium disk')
comes_end medium c promise stage xs ys disk mid disk' a w reply b = record {
  between = b.between;
  inside = b.inside;
  held = b.held;
  done = parts_join c.code c.config promise a.promise' b.between stage a.stage' b.inside xs ys
      a.done b.done;
  ending = b.ending;
  onward = turns_join medium c.code c.config promise a.promise'
      (slice_end b.between reply b.held w) disk mid disk' a.onward b.onward;
  bounded = bounds_join a.promise'.events (b.between.events + 1) (medium disk) (medium mid)
      (medium disk') (one_on begun.events) a.bounded b.bounded;
  keeps = b.keeps;
  goes_on = b.goes_on;
}
  where
    begun : LeavesBegun a.promise' b.between a.stage' b.inside
    begun = parts_leave_begun c.code c.config a.promise' b.between a.stage' b.inside ys b.done

    one_on : a.promise'.events ≤ b.between.events → a.promise'.events ≤ b.between.events + 1
    one_on le = omega (arith, le)

-- what is so of a part that goes on, or has stopped
abbrev pub RunsAt : List Begun → RunningWorker → Medium → Course → Promise → Stage → Type 0
RunsAt lines_held w disk c promise stage =
    (p : ProcessState) × IsBetweenTurns c promise stage p lines_held w disk

abbrev pub OwesAt : List Begun → RunningWorker → Medium → Course → Promise → Stage → Type 0
OwesAt lines_held w disk c promise stage =
    (p : ProcessState) × IsOwingTurn c promise stage p lines_held w disk

abbrev pub AsksAt : Question → List Begun → RunningWorker → Medium → Course → Promise → Stage
    → Type 0
AsksAt question lines_held w disk c promise stage = (p : ProcessState)
    × IsAskingOn c promise stage p question promise.events (running_on lines_held w disk)

-- a turn of a slice is such a part
pub comes_of_goes : (c : Course) (promise : Promise) (stage : Stage) (exchanges : List Exchange)
    (lines_held : List Begun) (w : RunningWorker) (disk disk' : Medium)
    → TurnGoes c promise stage exchanges lines_held w disk disk'
    → TurnComes c promise stage exchanges disk disk' (RunsAt lines_held w disk' c)
comes_of_goes c promise stage exchanges lines_held w disk disk' turn = record {
  promise' = turn.promise';
  stage' = turn.stage';
  done = turn.done;
  onward = turn.onward;
  bounded = turn.bounded;
  state = (turn.process, turn.running);
}

-- ---- states

-- less is asked of it
pub lowered : {D : Type 0} (medium : D → Medium) (c : Course) (promise : Promise) (stage : Stage)
    (p : ProcessState) (lines_held : List Begun) (w : RunningWorker) (disk : D)
    → IsToldTurn c promise stage p lines_held w (medium disk)
    → IsTellingTurn c promise stage p lines_held w (medium disk)
lowered medium c promise stage p lines_held w disk telling = record {
  opened = telling.opened;
  texts = telling.texts;
  shows = telling.shows;
  module_is = telling.module_is;
  told = telling.told;
  counted = telling.counted;
  queued = telling.queued;
  way = telling.way;
  began = telling.began;
  on_disk = lowered_to medium c.code c.config c.guest promise p p.steps promise.events w.store disk
      telling.on_disk (p.steps - 1) promise.events (omega arith) (omega arith);
  synced = telling.synced;
  abreast = telling.abreast;
}

-- no line is no line too many
pub none_at : (c : Course) → 0 ≤ most_held c.act
none_at c = omega arith

-- the lines that waited are held
pub held_now : (c : Course) (promise : Promise) (stage : Stage) (p : ProcessState)
    (lines_held : List Begun) (w w' : RunningWorker) (disk : Medium)
    → IsBetweenTurns c promise stage p lines_held w disk
    → HasReleased (length (waiting_in w.process)) w.process w'.process → w'.store ≡ w.store
    → w'.is_abreast ≡ w.is_abreast
    → IsBetweenTurns c promise stage p (to_tell lines_held w.process) w' disk
held_now c promise stage p lines_held w w' disk running released same_store same_says =
    let none_left : waiting_in w'.process ≡ [] =
    ap waiting_in released.is
    ∙ drop_all (length (waiting_in w.process)) (waiting_in w.process) (omega arith) in
    let more : w'.process.host.released
    ≡ w.process.host.released + length (waiting_in w.process) =
    ap (λ (v : ProcessValue). v.host.released) released.is in
    let counted = running.counted in
    let all : length (to_tell lines_held w.process)
    ≡ length lines_held + length (waiting_in w.process) =
    length-append lines_held (all_taken (first_waiting w.process) (waiting_in w.process))
    ∙ ap (λ n. length lines_held + n)
    (length_taken (first_waiting w.process) (waiting_in w.process)) in
    record {
      opened = running.opened;
      texts = running.texts;
      shows = released.shows c.guest p running.shows;
      module_is = ap (λ (v : ProcessValue). v.machine.guest) released.is ∙ running.module_is;
      told = running.told;
      counted = omega (arith, more, counted, all);
      queued = ap (λ z. to_tell lines_held w.process ++ all_taken (first_waiting w'.process) z)
          none_left
          ∙ append-nil (to_tell lines_held w.process) ∙ running.queued;
      way = running.way;
      began = running.began;
      on_disk = subst (λ (k : WorkerStore). IsOnDisk (identity_of c) promise p p.steps
          promise.events k disk) (sym same_store) running.on_disk;
      synced = running.synced;
      abreast = subst (λ says. IsAbreast promise stage p says) (sym same_says) running.abreast;
    }

-- a fault that isn't the source's fails it
pub other_fails : {D : Type 0} (medium : D → Medium) (c : Course) (promise : Promise)
    (stage : Stage) (exchanges : List Exchange) (lines_held : List Begun) (w : RunningWorker)
    (disk disk' : D) (why : WorkFault)
    → why ≢ Work slice.Source
    → AsksOn medium (Err why) c promise stage exchanges (medium disk)
    (running_on lines_held w (medium disk'))
    → TurnFails c promise stage why exchanges w (medium disk) (medium disk')
other_fails medium c promise stage made held w disk disk' (Work slice.Source) other turn =
    absurd (other refl)
other_fails medium c promise stage made held w disk disk' (Work slice.Outlet) other turn = turn
other_fails medium c promise stage made held w disk disk' (Work slice.Memory) other turn = turn
other_fails medium c promise stage made held w disk disk' (Work slice.Failed) other turn = turn
other_fails medium c promise stage made held w disk disk' (Work (slice.Refused r)) other turn = turn
other_fails medium c promise stage made held w disk disk' (Disk f) other turn = turn
other_fails medium c promise stage made held w disk disk' (Store f) other turn = turn
other_fails medium c promise stage made held w disk disk' (Upgrade f) other turn = turn

fails_other : {D : Type 0} (medium : D → Medium) (c : Course) (promise : Promise) (stage : Stage)
    (exchanges : List Exchange) (lines_held : List Begun) (w : RunningWorker) (disk disk' : D)
    (why : WorkFault) → why ≢ Work slice.Source
    → TurnFails c promise stage why exchanges w (medium disk) (medium disk')
    → AsksOn medium (Err why) c promise stage exchanges (medium disk)
    (running_on lines_held w (medium disk'))
fails_other medium c promise stage made held w disk disk' (Work slice.Source) other turn =
    absurd (other refl)
fails_other medium c promise stage made held w disk disk' (Work slice.Outlet) other turn = turn
fails_other medium c promise stage made held w disk disk' (Work slice.Memory) other turn = turn
fails_other medium c promise stage made held w disk disk' (Work slice.Failed) other turn = turn
fails_other medium c promise stage made held w disk disk' (Work (slice.Refused r)) other turn = turn
fails_other medium c promise stage made held w disk disk' (Disk f) other turn = turn
fails_other medium c promise stage made held w disk disk' (Store f) other turn = turn
fails_other medium c promise stage made held w disk disk' (Upgrade f) other turn = turn

-- ---- a store that is made to fail

-- an error ends the call whatever the store is then
fails_anyhow : (c : Course) (promise : Promise) (stage : Stage) (why : WorkFault)
    (exchanges : List Exchange) (w : RunningWorker) (after : WorkerStore) (disk disk' : Medium)
    → TurnFails c promise stage why exchanges w disk disk'
    → TurnFails c promise stage why exchanges (with_store w after) disk disk'
fails_anyhow c promise stage why exchanges w after disk disk' turn =
    let ends = turn.2 in (
      turn.0,
      turn.1,
      record {
        between = ends.between;
        inside = ends.inside;
        held = ends.held;
        done = ends.done;
        ending = ends.ending;
        onward = ends.onward;
        bounded = ends.bounded;
        keeps = ends.keeps;
        goes_on = λ is. absurd (not_open turn.0 is);
      },
    )

pub asks_failing : {D S : Type 0} (medium : D → Medium) (gives : Giving S) (old w : RunningWorker)
    (after : WorkerStore) (question : Question) (why : WorkFault) (disk disk' : D)
    (source source' : S) → why ≢ Work slice.Source
    → AsksHolding medium gives question (asking_scene old disk source) (Err why)
    (asking_scene w disk' source')
    → AsksHolding medium gives question (asking_scene old disk source) (Err why)
    (asking_scene (with_store w after) disk' source')
asks_failing medium gives old w after question why disk disk' source source' other asks = (
  asks.0,
  asks.1,
  asks.2,
  λ c promise stage p lines_held asking batch free foretold.
      fails_other medium c promise stage asks.0 lines_held (with_store w after) disk disk' why other
      (fails_anyhow c promise stage why asks.0 w after (medium disk) (medium disk')
      (other_fails medium c promise stage asks.0 lines_held w disk disk' why other
      (asks.3 c promise stage p lines_held asking batch free foretold))),
)

pub stops_failing : (old new after : WorkerStore) (why : WorkFault) (disk disk' : Medium)
    → after ≡ failed_store new → StoreStops old new why disk disk'
    → StoreStops old after why disk disk'
stops_failing old new after why disk disk' is stops =
    subst (λ (k : WorkerStore). StoreStops old k why disk disk') (sym is) (record {
      geometry = stops.geometry;
      passes = stops.passes;
      counts = stops.counts;
      made = stops.made;
      are = stops.are;
      last = stops.last;
      last_are = stops.last_are;
      left_out = stops.left_out;
      calls = stops.calls;
      cause = stops.cause;
    })
