-- What an image stands by, and what it stands for by that.
use Rattle.std.proofs.Common.{◌≡◌, ℕ, zero, suc, ◌+◌, List, [], ◌++◌, refl, sym, subst, arith}
use Rattle.std.specs.Prelude.{map, take, length}
use Rattle.std.proofs.lemmas.List.{append-nil}
use Rattle.wasm_syntax.specs.declared.module.Module.{Module}
use Rattle.wasi_abi.specs.declared.version.Version.{Version}
use Rattle.wasi_abi.specs.rules.Configs.{Settings}
use Rattle.process_rules.specs.Processes.{ProcessState, Guest}
use Rattle.process_rules.specs.Runs.{Kept}
use Rattle.process_rules.proofs.Growing.{runs_count, start_counts}
use Rattle.state_image.specs.rules.ProcessImage.{process_image}
use Rattle.state_image.proofs.Marks.{version_of_process_image}
use Rattle.sector_disk.specs.rules.DiskImage.{DiskImage}
use Rattle.disk_layout.specs.rules.Places.{Geometry, geometry_of}
use Rattle.disk_layout.specs.rules.Sectors.{HasWorker, HoldsProcessImage}
use Rattle.disk_layout.specs.rules.Journal.{Record}
use Rattle.journal.specs.rules.Steps.{JournalHolds}
use Rattle.wasi_abi.specs.rules.Versions.{version_number}
use Rattle.record_replay.specs.rules.Records.{Recorded, none, more, given_in}
use Rattle.worker_store.specs.restart_theorem.Stands.{ShowsNoneLater}
use Rattle.worker_store.specs.rules.Savepoints.{Savepoint, IsAtSavepoint}
use Rattle.worker_store.specs.laws.Savepoints.{StandsBySaved, IsAtItsSavepoint, PointStands}
use Rattle.worker_store.specs.laws.Savepoints.{ReadAlikeIsAtSavepoint, PointStandsAlone}

-- ---- records, one after another

-- so many of the first of them lead to a process from which others lead on
pub record HasFront (guest : Guest) (p q : ProcessState) (records : List Record) (count : ℕ)
    : Type 0 where
  pub process : ProcessState
  pub recorded : Recorded guest p (take count records) process
  pub others : List Record
  pub on : Recorded guest process others q

pub recorded_front : (guest : Guest) (p q : ProcessState) (records : List Record) (count : ℕ)
    → Recorded guest p records q → HasFront guest p q records count
recorded_front guest p q records count (none {p = p'}) =
    record {
      process = p';
      recorded = subst (λ l. Recorded guest p' l p') (no_front count) none;
      others = [];
      on = none;
    }
  where
    no_front : (count : ℕ) → (let l : List Record = [] in l) ≡ take count []
    no_front zero = refl
    no_front (suc count) = refl
recorded_front guest p q records zero (more {p = p'} first moves recorded) = record {
  process = p';
  recorded = none;
  others = _;
  on = more first moves recorded;
}
recorded_front guest p q records (suc count) (more {p = p'} {q = before} {r = after} {s = last}
    {a = a} {n = n} {records = rest} first moves recorded) =
    let on = recorded_front guest after last rest count recorded in
    record {
      process = on.process;
      recorded = more first moves on.recorded;
      others = on.others;
      on = on.on;
    }

-- ---- steps

pub steps_of : (m : Module) (config : Settings) (point : Savepoint m config)
    → point.process.steps ≡ point.steps
steps_of m config point =
    let reached = point.reached in
    let counted : point.process.steps ≡ reached.start.steps + point.steps =
    runs_count reached.guest reached.start point.process point.front point.steps reached.runs in
    let from_none = start_counts m config reached.guest reached.start reached.begins in
    omega (arith, counted, from_none)

-- ---- what an image stands for

pub is_at_its_savepoint : IsAtItsSavepoint
is_at_its_savepoint disk m config kept n stands = record {
  worker = stands.worker;
  holds = stands.holds;
  in_journal = stands.in_journal;
  recorded = stands.recorded;
  numbers = stands.numbers;
  none_later = stands.none_later;
}

pub by_point : (m : Module) (config : Settings) (point : Savepoint m config)
    (records : List Record) (last : ProcessState) (disk : DiskImage) (kept : List Kept) (n : ℕ)
    → IsAtSavepoint point records last disk → kept ≡ point.front ++ map given_in records
    → n ≡ last.steps → StandsBySaved point kept n disk
by_point m config point records last disk kept n at rest step = record {
  stands = record {
    wasm = point.wasm;
    accepted = point.accepted;
    settings = point.settings;
    worker = at.worker;
    generation = point.generation;
    saved = point.saved;
    holds = at.holds;
    front = point.front;
    steps = point.steps;
    process = point.process;
    reached = point.reached;
    functions = point.functions;
    function_types = point.function_types;
    table = point.table;
    shown = point.shown;
    records = records;
    in_journal = at.in_journal;
    rest = rest;
    last = last;
    recorded = at.recorded;
    numbers = at.numbers;
    at_step = step;
    none_later = at.none_later;
    room = point.room;
  };
  saved = refl;
  generation = refl;
  wasm = refl;
}

pub point_stands : PointStands
point_stands m config point records last disk kept at rest =
    by_point m config point records last disk kept last.steps at rest refl

pub point_stands_alone : PointStandsAlone
point_stands_alone m config point disk at =
    by_point m config point [] point.process disk point.front point.steps at
    (sym (append-nil point.front)) (sym (steps_of m config point))

pub read_alike_is_at_savepoint : ReadAlikeIsAtSavepoint
read_alike_is_at_savepoint m config point other records last q disk found at there wasm
    generation bytes =
    let place : List ℕ → Geometry = λ w. geometry_of config (length w) in
    let version : other.saved.version ≡ point.saved.version =
    version_of_process_image other.saved point.saved bytes in
    let v : Version = other.saved.version in
    let holds : HoldsProcessImage (place point.wasm) found point.generation
    (version_number point.saved.version) (process_image point.saved) =
    subst (λ w. HoldsProcessImage (place point.wasm) found point.generation (version_number w)
    (process_image point.saved)) version
    (subst (λ l. HoldsProcessImage (place point.wasm) found point.generation
    (version_number v) l) bytes (subst (λ g. HoldsProcessImage (place point.wasm) found g
    (version_number v) (process_image other.saved)) generation
    (subst (λ w. HoldsProcessImage (place w) found other.generation (version_number v)
    (process_image other.saved)) wasm there.holds))) in
    record {
      worker = subst (λ w. HasWorker config w found) wasm there.worker;
      holds = holds;
      in_journal = subst (λ w. JournalHolds (place point.wasm) w point.generation records found)
          version (subst (λ g. JournalHolds (place point.wasm) v g records found) generation
          (subst (λ w. JournalHolds (place w) v other.generation records found) wasm
          there.in_journal));
      recorded = at.recorded;
      numbers = at.numbers;
      none_later = subst (λ g. ShowsNoneLater (place point.wasm) found g) generation
          (subst (λ w. ShowsNoneLater (place w) found other.generation) wasm there.none_later);
    }
