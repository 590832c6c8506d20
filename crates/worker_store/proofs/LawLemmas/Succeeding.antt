-- The first savepoint of a worker that goes on from what another one has left.
use Rattle.std.proofs.Common.{◌≡◌, List, length, take, refl, sym, ap, ◌∙◌, subst, arith}
use Rattle.std.proofs.lemmas.List.{take_all}
use Rattle.wasm_syntax.specs.declared.module.Module.{Module}
use Rattle.wasi_abi.specs.declared.version.Version.{Version}
use Rattle.wasi_abi.specs.rules.Configs.{Settings}
use Rattle.wasi_calls_rules.specs.WasiStates.{Line}
use Rattle.process_rules.specs.Processes.{ProcessState}
use Rattle.process_rules.specs.Origins.{Origin}
use Rattle.process_rules.specs.Runs.{Kept, Runs, first_kept, Reaches}
use Rattle.state_image.specs.rules.ProcessImage.{Saved}
use Rattle.state_image.specs.rules.Saving.{saved_of}
use Rattle.worker_store.specs.restart_theorem.Promises.{HoldsAll}
use Rattle.worker_store.specs.restart_theorem.Successions.{promised_from}
use Rattle.worker_store.specs.rules.Savepoints.{Savepoint}
use Rattle.worker_store.specs.laws.Savepoints.{StandsBySaved}
use Rattle.worker_store.specs.laws.Succeeding.{SuccessorIsAtHand, SuccessorHoldsPromise}
use Rattle.worker_store.proofs.RestartLemmas.SuccessionOrigins.{reached_from}
use Rattle.worker_store.proofs.LawLemmas.AtHand.{shown_is_saved, shown_is_numbered}
use Rattle.worker_store.proofs.LawLemmas.Points.{point_stands_alone}
use Rattle.worker_store.proofs.LawLemmas.Raising.{up_to_end}

pub successor_is_at_hand : SuccessorIsAtHand
successor_is_at_hand m config v o bytes p value accepted settings reached shows is same room =
    let saved = shown_is_saved m config reached.guest value p shows same in
    let from = reached_from m config v o o.steps p reached in
    let first : Savepoint m config = record {
      wasm = bytes;
      accepted = accepted;
      settings = settings;
      generation = 1;
      saved = saved_of value;
      front = first_kept v o;
      steps = o.steps;
      process = p;
      reached = reached;
      functions = saved.functions;
      function_types = saved.function_types;
      table = saved.table;
      shown = saved.shows;
      room = room;
    } in (
      first,
      record {
        generation = refl;
        wasm = refl;
        saved = refl;
        numbers = shown_is_numbered reached.guest value p is shows;
        front = refl;
        steps = refl;
        process = refl;
        lines = saved.shows.lines ∙ ap (λ (l : List Line). length l) (from.lines refl);
      },
    )

-- what is reached on all that it goes on from holds what is promised of it
holds_from : (m : Module) (config : Settings) (v : Version) (o : Origin) (p : ProcessState)
    → Reaches m config (first_kept v o) o.steps p
    → HoldsAll m config (first_kept v o) (promised_from v o) (length (first_kept v o)) o.steps
holds_from m config v o p reached =
    let kept : List Kept = first_kept v o in
    let from = reached_from m config v o o.steps p reached in
    let emitted : length p.host.lines ≡ length o.lines =
    ap (λ (l : List Line). length l) (from.lines refl) in
    let there : Reaches m config (take (length kept) kept) o.steps p = record {
      guest = reached.guest;
      start = reached.start;
      begins = reached.begins;
      runs = subst (λ (l : List Kept). Runs reached.guest reached.start l o.steps p)
          (sym (take_all (length kept) kept (omega arith))) reached.runs;
    } in
    record {
      within = omega arith;
      up_to = up_to_end kept o.steps;
      answers = omega arith;
      steps_held = omega arith;
      lines = λ i begun. (
        length kept,
        omega arith,
        record {
          within = omega arith;
          steps = o.steps;
          process = p;
          reached = there;
          up_to = up_to_end kept o.steps;
          emitted = omega (arith, begun, emitted);
        },
      );
      syncs = λ k a begun behind. behind.within;
    }

pub successor_holds_promise : SuccessorHoldsPromise
successor_holds_promise m config v o bytes p value first disk is at =
    let kept : List Kept = first_kept v o in
    let alone : StandsBySaved first first.front first.steps disk =
    point_stands_alone m config first disk at in
    let held : StandsBySaved first (take (length kept) kept) o.steps disk =
    subst (λ n. StandsBySaved first (take (length kept) kept) n disk) is.steps
    (subst (λ (l : List Kept). StandsBySaved first l first.steps disk)
    (is.front ∙ sym (take_all (length kept) kept (omega arith))) alone) in
    let reached : Reaches m config kept o.steps first.process = record {
      guest = first.reached.guest;
      start = first.reached.start;
      begins = first.reached.begins;
      runs = subst (λ n. Runs first.reached.guest first.reached.start kept n first.process) is.steps
          (subst (λ (l : List Kept). Runs first.reached.guest first.reached.start l first.steps
          first.process) is.front first.reached.runs);
    } in
    let lines : held.stands.saved.lines ≡ length o.lines =
    ap (λ (s : Saved). s.lines) held.saved ∙ is.lines in
    record {
      created = refl;
      held = length kept;
      steps = o.steps;
      stands = held.stands;
      holds = holds_from m config v o first.process reached;
      snapshot_heard = omega (arith, lines);
      snapshot_passed = omega (arith, lines);
    }
