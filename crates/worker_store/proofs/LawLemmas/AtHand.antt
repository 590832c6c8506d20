-- The process at hand, as a savepoint.
use Rattle.std.proofs.Common.{◌≡◌, ℕ, ◌+◌, ◌≤◌, List, [], ◌∷◌, ◌++◌, length, refl, sym, ap, ◌∙◌}
use Rattle.std.proofs.Common.{subst, arith}
use Rattle.std.proofs.lemmas.List.{append-nil}
use Rattle.std.specs.Prelude.{map}
use Rattle.wasm_syntax.specs.declared.types.FunctionType.{FunctionType}
use Rattle.wasm_syntax.specs.declared.module.Module.{Module}
use Rattle.wasm_rules.specs.Validity.{AreFunctionTypes, module_context}
use Rattle.wasi_abi.specs.declared.version.Version.TheVariants.{One}
use Rattle.wasi_abi.specs.rules.Configs.{Settings}
use Rattle.wasi_calls_rules.specs.WasiStates.{WasiState}
use Rattle.process_rules.specs.Processes.{ProcessState, Guest}
use Rattle.process.specs.rules.Values.{ProcessValue, ShowsProcess}
use Rattle.process_rules.specs.Runs.{Kept, Given, Wider, Succeeds, Runs, none, version_after}
use Rattle.process_rules.proofs.ReachedStates.{reached_versions}
use Rattle.process_rules.proofs.Quiet.{runs_join}
use Rattle.process.proofs.Lines.{all_shown}
use Rattle.state_image.specs.rules.ProcessImage.{SavedShowsProcess}
use Rattle.state_image.specs.rules.Saving.{saved_of}
use Rattle.state_image.proofs.Shown.{saves_shown}
use Rattle.disk_layout.specs.rules.Journal.{Record, TakesRecords}
use Rattle.record_replay.specs.rules.Records.{Recorded, given_in}
use Rattle.record_replay.proofs.Recordings.{recorded_runs}
use Rattle.worker_store.specs.rules.Savepoints.{Savepoint}
use Rattle.worker_store.specs.rules.Carried.{answers_at}
use Rattle.worker_store.specs.laws.AtHand.{ShownIsSaved, ShownIsNumbered, NextIsAtHand}
use Rattle.worker_store.specs.laws.AtHand.{FirstIsAtHand, VersionStays}
use Rattle.worker_store.proofs.LawLemmas.Reopening.{no_lines}

pub shown_is_saved : ShownIsSaved
shown_is_saved m config guest v p shows same =
    let saved = saves_shown v guest p shows in
    let functions : List FunctionType = saved.0 in
    record {
      functions = functions;
      function_types = subst (λ (z : Module). AreFunctionTypes z functions) same saved.1;
      table = v.machine.table;
      shows = subst (λ (z : Module). SavedShowsProcess (module_context z functions) guest.program
          v.machine.table (saved_of v) p) same saved.2;
    }

pub shown_is_numbered : ShownIsNumbered
shown_is_numbered guest v p is shows =
    let all = all_shown v.host p.host shows.host in
    record {
      steps = omega (arith, shows.steps, is.few_steps);
      lines = omega (arith, all, is.few_lines);
    }

pub same_within : (a b c : ℕ) → a ≡ b → b ≤ c → a ≤ c
same_within a b c e le = omega (arith, e, le)

-- ---- the version

version_behind : (front : List Kept) (records : List Record)
    → version_after (front ++ map given_in records) ≡ version_after front
version_behind [] [] = refl
version_behind [] (r ∷ records) = version_behind [] records
version_behind (Given a ∷ front) records = version_behind front records
version_behind (Wider steps ∷ front) records = refl
version_behind (Succeeds o ∷ front) records = version_behind front records

pub version_of_point : (m : Module) (config : Settings) (point : Savepoint m config)
    → point.saved.version ≡ version_after point.front
version_of_point m config point =
    let shown = point.shown in
    shown.version ∙ reached_versions m config point.front point.steps point.process point.reached

pub version_stays : VersionStays
version_stays m config point records last p n recorded runs =
    let guest : Guest = point.reached.guest in
    let start : ProcessState = point.reached.start in
    let on = recorded_runs guest point.process last records recorded in
    let back : Runs guest start (answers_at point records) (point.steps + on.steps) last =
    runs_join guest start point.process last point.front (map given_in records) point.steps
    on.steps point.reached.runs on.runs in
    let all : Runs guest start (answers_at point records ++ []) (point.steps + on.steps + n) p =
    runs_join guest start last p (answers_at point records) [] (point.steps + on.steps) n back
    runs in
    reached_versions m config (answers_at point records ++ []) (point.steps + on.steps + n) p
    (record { guest = guest; start = start; begins = point.reached.begins; runs = all })
    ∙ ap version_after (append-nil (answers_at point records))
    ∙ version_behind point.front records ∙ sym (version_of_point m config point)

-- what is saved of a process is of the version of each that it shows
pub version_shown : (guest : Guest) (v : ProcessValue) (p : ProcessState)
    → ShowsProcess v guest p → (saved_of v).version ≡ p.host.version
version_shown guest v p shows =
    let host = shows.host in
    sym (ap (λ (h : WasiState). h.version) host.is)

-- so what is saved where nothing else was kept is of the savepoint's version
pub version_at_hand : (m : Module) (config : Settings) (point : Savepoint m config)
    (records : List Record) (last p : ProcessState) (n : ℕ) (v : ProcessValue)
    → Recorded point.reached.guest point.process records last
    → Runs point.reached.guest last [] n p → ShowsProcess v point.reached.guest p
    → (saved_of v).version ≡ point.saved.version
version_at_hand m config point records last p n v recorded runs shows =
    version_shown point.reached.guest v p shows
    ∙ version_stays m config point records last p n recorded runs

-- ---- savepoints

pub next_is_at_hand : NextIsAtHand
next_is_at_hand m config point records more last p n v recorded runs shows is same room =
    let guest : Guest = point.reached.guest in
    let start : ProcessState = point.reached.start in
    let answers : List Kept = answers_at point records in
    let on = recorded_runs guest point.process last records recorded in
    let back : Runs guest start answers (point.steps + on.steps) last =
    runs_join guest start point.process last point.front (map given_in records) point.steps
    on.steps point.reached.runs on.runs in
    let all : Runs guest start (answers ++ more) (point.steps + on.steps + n) p =
    runs_join guest start last p answers more (point.steps + on.steps) n back runs in
    let saved = shown_is_saved m config guest v p shows same in
    let lines : (saved_of v).lines ≡ length p.host.lines = saved.shows.lines in
    let next : Savepoint m config = record {
      wasm = point.wasm;
      accepted = point.accepted;
      settings = point.settings;
      generation = point.generation + 1;
      saved = saved_of v;
      front = answers ++ more;
      steps = point.steps + on.steps + n;
      process = p;
      reached = record {
        guest = guest;
        start = start;
        begins = point.reached.begins;
        runs = all;
      };
      functions = saved.functions;
      function_types = saved.function_types;
      table = saved.table;
      shown = saved.shows;
      room = room;
    } in (
      next,
      record {
        comes = record {
          wasm = refl;
          generation = refl;
          numbers = shown_is_numbered guest v p is shows;
        };
        saved = refl;
        front = refl;
        process = refl;
        same = refl;
        saves = λ promise kept up heard. record {
          front = refl;
          kept = kept;
          up_to = up;
          steps = n;
          runs = runs;
          heard = same_within (saved_of v).lines (length p.host.lines) promise.heard lines heard;
        };
      },
    )

pub first_is_at_hand : FirstIsAtHand
first_is_at_hand m config bytes guest p v accepted settings start shows is same =
    let saved = shown_is_saved m config guest v p shows same in
    let first_version : (saved_of v).version ≡ One =
    version_shown guest v p shows ∙ reached_versions m config [] 0 p
    (record { guest = guest; start = p; begins = start; runs = none }) in
    let first : Savepoint m config = record {
      wasm = bytes;
      accepted = accepted;
      settings = settings;
      generation = 1;
      saved = saved_of v;
      front = [];
      steps = 0;
      process = p;
      reached = record { guest = guest; start = p; begins = start; runs = none };
      functions = saved.functions;
      function_types = saved.function_types;
      table = saved.table;
      shown = saved.shows;
      room = subst (λ w. TakesRecords w config.journal) (sym first_version) tt;
    } in (
      first,
      record {
        generation = refl;
        wasm = refl;
        saved = refl;
        numbers = shown_is_numbered guest v p is shows;
        front = refl;
        process = refl;
        same = refl;
        no_lines = saved.shows.lines ∙ no_lines m config guest p start;
      },
    )
