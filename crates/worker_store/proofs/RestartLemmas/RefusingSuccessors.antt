-- Events that are none of a worker that goes on from what another one has left.
use Rattle.std.proofs.Common.{◌≡◌, ℕ, ◌+◌, ◌≤◌, true, false, List, length, take, ap, ◌∙◌}
use Rattle.std.proofs.Common.{subst, arith, length-append}
use Rattle.std.proofs.lemmas.List.{take_all}
use Rattle.wasm_syntax.specs.declared.module.Module.{Module}
use Rattle.wasi_abi.specs.declared.version.Version.{Version}
use Rattle.wasi_abi.specs.rules.Configs.{Settings}
use Rattle.wasi_calls_rules.specs.WasiStates.{Line}
use Rattle.process_rules.specs.Origins.{Origin}
use Rattle.process_rules.specs.Runs.{Kept, Runs, first_kept, version_after}
use Rattle.state_image.specs.rules.ProcessImage.{Saved}
use Rattle.worker_store.specs.restart_theorem.Lives.{Opened}
use Rattle.worker_store.specs.restart_theorem.Courses.{Stage}
use Rattle.worker_store.specs.restart_theorem.Promises.{IsKept}
use Rattle.worker_store.specs.restart_theorem.Successions.{promised_from}
use Rattle.worker_store.specs.restart_theorem.laws.Successions.{RefusedSuccessors}
use Rattle.worker_store.proofs.RestartLemmas.SuccessionOrigins.{some_first, first_version}
use Rattle.worker_store.proofs.RestartLemmas.SuccessionOrigins.{IsFromOrigin, reached_from}
use Rattle.worker_store.proofs.RestartLemmas.Widenings.{at_version}

module _ (m : Module) (config : Settings) (v : Version) (o : Origin) (stage : Stage) where
  abbrev kept_first : List Kept
  kept_first = first_kept v o

  -- it opens with all of them
  all_held : (held : ℕ) (shown : Saved)
      → IsKept m config (promised_from v o) stage (Opened held shown)
      → take held kept_first ≡ kept_first
  all_held held shown kept =
      let enough : length kept_first ≤ held = kept.holds.answers in
      take_all held kept_first enough

  opens_from : (held : ℕ) (shown : Saved)
      → (kept : IsKept m config (promised_from v o) stage (Opened held shown))
      → IsFromOrigin v o shown.steps kept.at.process
  opens_from held shown kept =
      let reached = kept.at.reached in
      reached_from m config v o shown.steps kept.at.process (record {
        guest = reached.guest;
        start = reached.start;
        begins = reached.begins;
        runs = subst (λ (l : List Kept). Runs reached.guest reached.start l shown.steps
            kept.at.process) (all_held held shown kept) reached.runs;
      })

  pub refused_successors : RefusedSuccessors m config v o stage
  refused_successors = record {
    tells_a_line_again = λ r is_taken few kept.
        (let beyond = kept.not_passed in omega (arith, few, beyond));
    leaves_a_line_out = λ r is_taken late kept.
        (let next = kept.none_skipped in omega (arith, late, next));
    begins_anew = λ shown kept.
        (let enough : length kept_first ≤ 0 = kept.holds.answers in
        let some = some_first v o in
        omega (arith, enough, some));
    takes_back_a_step = λ held shown few kept.
        (let enough = kept.holds.steps_held in omega (arith, few, enough));
    takes_back_a_line = λ held shown few kept.
        (let from = opens_from held shown kept in
        let emitted : length kept.at.process.host.lines ≡ length o.lines + length from.more =
        ap (λ (l : List Line). length l) from.emitted ∙ length-append o.lines from.more in
        let lines = kept.at.shown.lines in
        omega (arith, few, emitted, lines));
    changes_its_version = λ held shown kept.
        at_version m config (take held kept_first) shown.steps shown kept.at
        ∙ ap (λ (l : List Kept). version_after l) (all_held held shown kept) ∙ first_version v o;
    shows_what_was_left = λ held shown here kept.
        (let from = opens_from held shown kept in
        let shows = kept.at.shown in (
          shows.files ∙ from.files here,
          shows.lines ∙ ap (λ (l : List Line). length l) (from.lines here),
          shows.answers ∙ from.answers here,
          shows.requests ∙ from.requests here,
          shows.last_monotonic ∙ from.last_monotonic here,
        ));
    is_created_again = λ inputs life creates lived. once (lived.begins creates).0;
  }
    where
      once : true ≡ false → ⊥
      once e = cc
