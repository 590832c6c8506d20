-- The lives of `hello` go on from what another worker has left.
use Rattle.std.proofs.Common.{◌≡◌, ℕ, ◌≤◌, ◌^◌, List, [], ◌∷◌, ◌++◌, length, Option, refl, sym}
use Rattle.std.proofs.Common.{subst, arith}
use Rattle.wasm_syntax.specs.laws.Examples.{hello}
use Rattle.wasm_rules.specs.Configuration.{Program}
use Rattle.wasm_rules.specs.Typing.{Context}
use Rattle.wasm_rules.specs.Validity.{module_context}
use Rattle.wasi_abi.specs.declared.version.Version.TheVariants.{One}
use Rattle.wasi_abi.specs.rules.Configs.{Settings}
use Rattle.wasi_calls_rules.specs.WasiStates.{Line}
use Rattle.process_rules.specs.Processes.{ProcessState, Guest}
use Rattle.process_rules.specs.Origins.{IsSucceeding, succeeding}
use Rattle.process_rules.specs.Runs.{Reaches, none, succeed}
use Rattle.process_rules.specs.laws.Examples.{hello_end}
use Rattle.process_rules.specs.laws.SucceedingExamples.{three_lines, files_left, left, hi_line}
use Rattle.process_rules.specs.laws.SucceedingExamples.{succeeds, succeeded_end, HelloSucceeds}
use Rattle.process_rules.proofs.ExamplesHold.{hello_ends}
use Rattle.process_rules.proofs.ExamplesValid.{hello_is_valid}
use Rattle.process_rules.proofs.OneProcess.{succeeds_first}
use Rattle.process_rules.proofs.OneStart.{start_once}
use Rattle.process_rules.proofs.SucceedingHolds.{hello_goes_on}
use Rattle.state_image.specs.rules.ProcessImage.{Saved, SavedShowsProcess}
use Rattle.worker_store.specs.restart_theorem.Promises.{Promise, promised_by, IsAt, IsLived}
use Rattle.worker_store.specs.restart_theorem.Successions.{promised_from}
use Rattle.worker_store.specs.restart_theorem.laws.Honest.{HasLine}
use Rattle.worker_store.specs.restart_theorem.laws.SuccessorLives.{fourth_told, left_first}
use Rattle.worker_store.specs.restart_theorem.laws.SuccessorLives.{left_last, cut_successor}
use Rattle.worker_store.specs.restart_theorem.laws.SuccessorLives.{last_successor, ended_successor}
use Rattle.worker_store.specs.restart_theorem.laws.SuccessorLives.{HelloSuccessors}
use Rattle.worker_store.specs.restart_theorem.laws.WholeLives.{hello_first, hello_last, cut_inputs}
use Rattle.worker_store.specs.restart_theorem.laws.WholeLives.{last_inputs, ended_inputs}
use Rattle.worker_store.proofs.RestartLemmas.HelloShown.{at_first_step, at_last_step}
use Rattle.worker_store.proofs.RestartLemmas.Events.{never, all_held, opens_at, tells, ends}
use Rattle.worker_store.proofs.RestartLemmas.Widenings.{nowhere}

module _ (config : Settings) (some : 1 ≤ config.pages) (few : config.pages ≤ 2 ^ 16)
    (room : 1 ≤ config.files) where
  goes : HelloSucceeds config
  goes = (hello_goes_on config).0 room

  reached_end : Reaches hello config succeeds 15 (succeeded_end config)
  reached_end = goes.comes.reached

  -- ---- what is shown

  -- a process that shows this shows with it what was left, after so many steps and lines
  with_left : {c : Context} {program : Program} {table : List (Option ℕ)} {saved : Saved}
      {p : ProcessState} (steps : ℕ) (lines : List Line)
      → SavedShowsProcess c program table saved p
      → SavedShowsProcess c program table (record saved {
        files = files_left;
        last_monotonic = 5;
        steps = steps;
        answers = 2;
        requests = 1;
        lines = length lines;
      }) (record p {
        host = record p.host { files = files_left; lines = lines; last_monotonic = 5 };
        steps = steps;
        answers = 2;
        requests = 1;
      })
  with_left steps lines shown = record {
    version = shown.version;
    machine = shown.machine;
    files = refl;
    descriptors = shown.descriptors;
    unread = shown.unread;
    input_ended = shown.input_ended;
    last_monotonic = refl;
    first = shown.first;
    second = shown.second;
    steps = refl;
    answers = refl;
    requests = refl;
    lines = refl;
    ended = shown.ended;
  }

  at_origin : IsAt hello config succeeds 7 left_first
  at_origin =
      let at = at_first_step config some few in
      let r = at.reached in
      let there = reached_end in
      let same = start_once hello config r.guest there.guest r.start there.start hello_is_valid
      r.begins there.begins in
      let on = succeeds_first there.guest there.start (succeeded_end config) succeeds [] 15 left
      there.runs refl in
      let may : IsSucceeding left r.start =
      subst (λ (z : ProcessState). IsSucceeding left z) (sym same.1) on.succeeds in
      let stays : at.process ≡ r.start =
      nowhere r.guest r.start at.process [] 0 refl refl r.runs in
      record {
        process = succeeding left r.start;
        reached = record {
          guest = r.guest;
          start = r.start;
          begins = r.begins;
          runs = succeed may refl none;
        };
        functions = at.functions;
        function_types = at.function_types;
        table = at.table;
        shown = with_left 7 three_lines (subst (λ (z : ProcessState).
            SavedShowsProcess (module_context hello at.functions) r.guest.program at.table
            hello_first z) stays at.shown);
      }

  at_end : IsAt hello config succeeds 15 left_last
  at_end =
      let at = at_last_step config some few in
      let r = at.reached in
      let there = reached_end in
      let same = start_once hello config r.guest there.guest r.start there.start hello_is_valid
      r.begins there.begins in
      let is : at.process ≡ hello_end config =
      (hello_ends config).comes.no_other at.process at.reached in
      record {
        process = succeeded_end config;
        reached = there;
        functions = at.functions;
        function_types = at.function_types;
        table = at.table;
        shown = with_left 15 (three_lines ++ hi_line ∷ []) (subst (λ (g : Guest).
            SavedShowsProcess (module_context hello at.functions) g.program at.table hello_last
            (hello_end config)) same.0 (subst (λ (z : ProcessState).
            SavedShowsProcess (module_context hello at.functions) r.guest.program at.table
            hello_last z) is at.shown));
      }

  -- ---- the lives

  -- its line, by its last step
  abbrev its_line : HasLine hello config succeeds 3 7 15 fourth_told.line
  its_line = record {
    steps = 15;
    late = omega arith;
    early = omega arith;
    process = succeeded_end config;
    reached = reached_end;
    is = refl;
  }

  abbrev from : Promise
  from = promised_from One left

  lives_cut : IsLived hello config from cut_inputs cut_successor
  lives_cut = record {
    kept = (
      opens_at refl refl refl at_origin (all_held 1 at_end refl (λ n. tt) (omega arith)
          (omega arith) (omega arith)) (omega arith),
      (tells 1 its_line tt (omega arith, omega arith) refl (omega arith) (omega arith) refl, tt),
    );
    ends = (tt, omega arith);
    begins = λ creates. never creates;
  }

  abbrev behind_cut : Promise
  behind_cut = promised_by from cut_successor

  lives_on : IsLived hello config behind_cut last_inputs last_successor
  lives_on = record {
    kept = (
      opens_at refl refl refl at_origin (all_held 1 at_end refl (λ n. tt) (omega arith)
          (omega arith) (omega arith)) (omega arith),
      (
        tells 1 its_line tt (omega arith, omega arith) refl (omega arith) (omega arith) refl,
        (
          ends refl at_end refl (omega arith) (omega arith)
              (refl, omega arith, refl, record { all_taken = refl; all_told = refl }) (λ at. tt),
          (
            ends refl at_end refl (omega arith) (omega arith)
                (refl, refl, record { all_taken = refl; all_told = refl }) (λ at. tt),
            tt,
          ),
        ),
      ),
    );
    ends = (refl, refl, tt);
    begins = λ creates. never creates;
  }

  lives_ended : IsLived hello config (promised_by behind_cut last_successor) ended_inputs
      ended_successor
  lives_ended = record {
    kept = (
      opens_at refl refl refl at_end (all_held 1 at_end refl (λ n. tt) (omega arith) (omega arith)
          (omega arith)) (omega arith),
      (
        ends refl at_end refl (omega arith) (omega arith)
            (refl, omega arith, refl, record { all_taken = refl; all_told = refl }) (λ at. tt),
        tt,
      ),
    );
    ends = (refl, refl, tt);
    begins = λ creates. never creates;
  }

pub hello_successors : (config : Settings) → HelloSuccessors config
hello_successors config some few room = (
  lives_cut config some few room,
  (lives_on config some few room, (lives_ended config some few room, tt)),
)
