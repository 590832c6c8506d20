-- A worker that is recovered, and opens.
use Rattle.std.proofs.Common.{◌≡◌, ◌⊎◌, ℕ, ◌+◌, ◌≤◌, List, [], length, take, drop, refl}
use Rattle.std.proofs.Common.{sym, ap, ◌∙◌, subst, inr, ⊎_elim, arith}
use Rattle.std.specs.Prelude.{map}
use Rattle.std.proofs.lemmas.List.{append-nil, take-take}
use Rattle.wasm_syntax.specs.declared.module.Module.{Module}
use Rattle.wasi_abi.specs.rules.Configs.{Settings}
use Rattle.process_rules.specs.Processes.{ProcessState, Guest}
use Rattle.process_rules.specs.Runs.{Kept, Runs, Reaches}
use Rattle.process_rules.specs.Behind.{IsNarrowTo}
use Rattle.process_rules.proofs.Quiet.{runs_join}
use Rattle.state_image.specs.rules.ProcessImage.{Saved}
use Rattle.sector_disk.specs.rules.DiskImage.{DiskImage}
use Rattle.sector_disk.specs.rules.Medium.{Medium}
use Rattle.sector_disk.proofs.Moments.{leaves_weaker}
use Rattle.disk_layout.specs.rules.Journal.{Record}
use Rattle.record_replay.specs.rules.Records.{Recorded, given_in}
use Rattle.record_replay.proofs.Recordings.{recorded_runs}
use Rattle.worker_store.proofs.RestartLemmas.Fronts.{reached_counts}
use Rattle.worker_store.specs.restart_theorem.Lives.{Opened}
use Rattle.worker_store.specs.restart_theorem.Promises.{Promise, after}
use Rattle.worker_store.specs.restart_theorem.Holds.{HoldsPromise, DiskImageHolds}
use Rattle.worker_store.specs.rules.Savepoints.{Savepoint, IsAtSavepoint, BeginsAtPoint}
use Rattle.worker_store.specs.laws.Savepoints.{StandsBySaved}
use Rattle.worker_store.specs.rules.Carried.{answers_at, count_at, IsHeldAt}
use Rattle.worker_store.specs.laws.Recovered.{RetoldIsHeld, RecoveryOpens}
use Rattle.worker_store.proofs.LawLemmas.Points.{by_point}
use Rattle.worker_store.proofs.LawLemmas.Carrying.{held_at_holds_promise, less_is_held}
use Rattle.worker_store.proofs.LawLemmas.Carrying.{held_of_front, retold, next_is_held}
use Rattle.worker_store.proofs.LawLemmas.Carrying.{opening_is_held, answers_count}

-- ---- lines

-- what a savepoint and its records lead to
recorded_is_reached : (m : Module) (config : Settings) (point : Savepoint m config)
    (records : List Record) (last : ProcessState) (kept : List Kept)
    → Recorded point.reached.guest point.process records last → kept ≡ answers_at point records
    → (n : ℕ) × Reaches m config kept n last
recorded_is_reached m config point records last kept recorded same =
    let guest : Guest = point.reached.guest in
    let start : ProcessState = point.reached.start in
    let on = recorded_runs guest point.process last records recorded in
    let runs : Runs guest start (answers_at point records) (point.steps + on.steps) last =
    runs_join guest start point.process last point.front (map given_in records) point.steps
    on.steps point.reached.runs on.runs in (
      point.steps + on.steps,
      record {
        guest = guest;
        start = start;
        begins = point.reached.begins;
        runs = subst (λ (l : List Kept). Runs guest start l (point.steps + on.steps) last)
            (sym same) runs;
      },
    )

pub retold_is_held : RetoldIsHeld
retold_is_held m config promise promise' point records last held adds =
    let reached = recorded_is_reached m config point records last
    (take (count_at point records) promise.kept) held.recorded held.front in
    retold m config promise promise' point records last (length last.host.lines) held adds
    (λ i few. (
      count_at point records,
      omega arith,
      record {
        within = held.holds.within;
        steps = reached.0;
        process = last;
        reached = reached.1;
        up_to = subst (λ n. IsNarrowTo (drop (count_at point records) promise.kept) n)
            (reached_counts m config (take (count_at point records) promise.kept) reached.0 last
            reached.1) held.holds.up_to;
        emitted = few;
      },
    ))

-- ---- the opening

-- What is there holds what was promised, of the answers that the opening keeps.
front_opened : (m : Module) (config : Settings) (promise : Promise) (point : Savepoint m config)
    (records : List Record) (last : ProcessState) (n : ℕ) (shown : Saved) (disk : DiskImage)
    → IsHeldAt promise point records last → IsAtSavepoint point records last disk
    → count_at point records ≡ n
    → HoldsPromise m config promise (after promise (Opened n shown)) disk
front_opened m config promise point records last n shown disk held at same =
    let all = held.holds in
    let bound : count_at point records ≤ length promise.kept = all.within in
    let within : n ≤ length promise.kept = omega (arith, bound, same) in
    let front : take (count_at point records) (take n promise.kept) ≡ answers_at point records =
    take-take (count_at point records) n promise.kept (omega (arith, same)) ∙ held.front in
    let by : StandsBySaved point (take (count_at point records) (take n promise.kept)) last.steps
    disk =
    by_point m config point records last disk
    (take (count_at point records) (take n promise.kept)) last.steps at front refl in
    record {
      created = held.created;
      held = count_at point records;
      steps = last.steps;
      stands = by.stands;
      holds = held_of_front m config promise promise.kept n (count_at point records) last.steps
          within same all;
      snapshot_heard = subst (λ s. s.lines ≤ promise.heard) (sym by.saved) held.heard;
      snapshot_passed = subst (λ s. promise.passed ≤ s.lines) (sym by.saved) held.passed;
    }

module _ {D : Type 0} (medium : D → Medium) where
  pub recovery_opens : RecoveryOpens medium
  recovery_opens m config less promise shown point next records last old new no_more held saves same
      leaves stands =
      let n : ℕ = length next.front in
      let more : Promise = after promise (Opened (length next.front) shown) in
      let there : IsHeldAt promise next [] next.process =
      next_is_held m config promise point next records [] last held saves in
      let opened : IsHeldAt (after promise (Opened (length next.front) shown)) next []
      next.process =
      subst (λ (s : Saved).
      IsHeldAt (after promise (Opened (length next.front) s)) next [] next.process) same
      (opening_is_held m config promise next there) in
      let long : length next.front ≡ length (answers_at point records) =
      ap (λ (l : List Kept). length l) (saves.front ∙ append-nil (answers_at point records)) in
      let P : DiskImage → Type 0 = λ disk.
      IsAtSavepoint point records last disk ⊎ BeginsAtPoint next disk in
      let holds : (disk : DiskImage) → P disk → HoldsPromise m config less more disk =
      λ disk at. ⊎_elim
      (λ (stood : IsAtSavepoint point records last disk).
      less_is_held m config less promise more disk no_more
      (front_opened m config promise point records last (length next.front) shown disk held stood
      (sym (long ∙ answers_count point records))))
      (λ (begins : BeginsAtPoint next disk).
      less_is_held m config less promise more disk no_more
      (front_opened m config promise next [] next.process (length next.front) shown disk there
      begins.at (omega arith))) at in
      record {
        carries = record {
          at_any_moment = leaves_weaker (medium old) (medium new) P
              (DiskImageHolds m config less more) leaves (λ disk at. inr (holds disk at));
          in_the_end = λ disk crashed. inr
              (held_at_holds_promise m config more next [] next.process disk opened
              (stands disk crashed));
        };
        held = opened;
      }
