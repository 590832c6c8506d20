-- Honest stories with an upgrade keep all promises.
use Rattle.std.proofs.Common.{◌≡◌, ◌≤◌, ℕ, zero, suc, true, List, [], ◌∷◌, Option, Some, None}
use Rattle.std.proofs.Common.{refl, sym, ap, arith}
use Rattle.wasm_syntax.specs.declared.module.Module.{Module}
use Rattle.wasi_abi.specs.rules.Configs.{Settings}
use Rattle.process_rules.specs.Runs.{Kept, Given, Wider}
use Rattle.process_rules.specs.Behind.{AnswersBehindLine, AnswersBehindSync}
use Rattle.worker_store.specs.restart_theorem.Lives.{Upgrade, Inputs, OfDisk, Reply, Done, Fails}
use Rattle.worker_store.specs.restart_theorem.Lives.{Ended, Creates}
use Rattle.worker_store.specs.restart_theorem.Courses.{Stage, at_beginning, stage_after}
use Rattle.worker_store.specs.restart_theorem.Promises.{Promise, nothing_yet, promised, promised_by}
use Rattle.worker_store.specs.restart_theorem.Promises.{IsAt, IsReply, IsAtBound, AreKept, IsLived}
use Rattle.worker_store.specs.restart_theorem.Promises.{GoOn}
use Rattle.worker_store.specs.restart_theorem.laws.Refused.{creation_begun}
use Rattle.worker_store.specs.restart_theorem.laws.Honest.{Teller, nothing_to_do, as_upgraded}
use Rattle.worker_store.specs.restart_theorem.laws.Honest.{Upgraded, one_told, upgraded_life}
use Rattle.worker_store.specs.restart_theorem.laws.Honest.{cut_upgrade, wide_life, narrow_life}
use Rattle.worker_store.specs.restart_theorem.laws.Honest.{upgrade_at_20, HonestUpgrades}
use Rattle.worker_store.proofs.RestartLemmas.Fronts.{reached_counts}
use Rattle.worker_store.proofs.RestartLemmas.Widenings.{past_widening}
use Rattle.worker_store.proofs.RestartLemmas.Events.{behind, all_held, tells, asks, ends, spent}
use Rattle.worker_store.proofs.RestartLemmas.Events.{only_opens}
use Rattle.worker_store.proofs.RestartLemmas.Honesty.{opens}

module _ {m : Module} {config : Settings} (t : Teller m config) (u : Upgraded t) where
  abbrev kept_wide : List Kept
  kept_wide = Given t.hello ∷ Wider 20 ∷ []

  -- ---- the first life

  module _ (stop : Option ℕ) where
    abbrev inputs : Inputs
    inputs = record (upgrade_at_20 t u) { stop = stop }

    abbrev rested : Promise
    rested = promised creation_begun (one_told t u [])

    abbrev rested_stage : Stage
    rested_stage = stage_after (at_beginning Creates inputs) (one_told t u [])

    -- It tells its one line, and its syncs have returned. So it may be widened, whatever the
    -- upgrade answers.
    upgrades : (reply : Reply)
        → IsReply config kept_wide rested_stage 2 (as_upgraded u.wide) Upgrade reply
        → ((at : IsAt m config kept_wide 20 (as_upgraded u.wide)) → IsAtBound rested at reply)
        → AreKept m config creation_begun (at_beginning Creates inputs)
        (one_told t u (Ended Upgrade reply 2 (as_upgraded u.wide) ∷ []))
    upgrades reply says bound =
        let e = t.fresh.counted in
        let l = t.fresh.lines_are in
        let f = u.resting.counted in
        let early = u.told in (
          opens t inputs,
          (
            asks t.asks_first ((omega arith, omega arith), (omega arith, omega arith))
                (ap (λ (n : ℕ). Some n) l) t.asks_first.fits refl,
            (
              tells 1 t.has_first tt (omega arith, omega arith) (omega arith) (omega arith)
                  (omega arith) refl,
              (
                ends refl u.resting.at refl (omega arith) (omega arith)
                    (spent 20 u.resting refl (omega arith) refl refl) (λ at. tt),
                (
                  record {
                    is_next = refl;
                    within = omega arith;
                    at = u.at;
                    onward = omega arith;
                    reply = says;
                    bound = bound u.at;
                    widens = λ differs.
                        record { lines = omega arith; syncs = omega arith; room = u.room };
                  },
                  tt,
                ),
              ),
            ),
          ),
        )

  is_upgraded : IsLived m config nothing_yet (upgrade_at_20 t u) (upgraded_life t u)
  is_upgraded = record {
    kept = upgrades None Done
        (refl, sym u.resting.counted, refl, record { all_taken = refl; all_told = refl })
        (λ at. tt);
    ends = (refl, refl, tt);
    begins = λ creates. (refl, (refl, t.fresh.counted));
  }

  is_cut : IsLived m config nothing_yet (inputs (Some 50)) (cut_upgrade t u)
  is_cut = let f = u.resting.counted in record {
    kept = upgrades (Some 50) (Fails OfDisk) (tt, omega (arith, f), omega arith) (λ at. tt);
    ends = (refl, omega arith);
    begins = λ creates. (refl, (refl, t.fresh.counted));
  }

  -- ---- restarts

  -- in version 2
  opens_wide : (so_far : Promise) → so_far.answers ≤ 2 → so_far.steps ≤ 20 → so_far.begun ≤ 1
      → 1 ≤ so_far.heard → so_far.was_created ≡ true
      → IsLived m config (record so_far { kept = kept_wide }) (nothing_to_do t) (wide_life t u)
  opens_wide so_far answers steps begun heard created =
      only_opens created u.at (all_held 2 u.at refl (λ n. tt) answers steps begun) heard

  opens_twice : (so_far : Promise) → so_far.answers ≤ 2 → so_far.steps ≤ 20 → so_far.begun ≤ 1
      → 1 ≤ so_far.heard → so_far.was_created ≡ true
      → GoOn m config (record so_far { kept = kept_wide }) (nothing_to_do t ∷ nothing_to_do t ∷ [])
      (wide_life t u ∷ wide_life t u ∷ [])
  opens_twice so_far answers steps begun heard created = (
    opens_wide so_far answers steps begun heard created,
    (
      opens_wide (promised_by (record so_far { kept = kept_wide }) (wide_life t u))
          (omega (arith, answers)) (omega (arith, steps)) begun heard created,
      tt,
    ),
  )

  -- the line is after the answer, and not after the widening
  line_behind : (i : ℕ) → i ≤ 1 → AnswersBehindLine m config kept_wide i 1
  line_behind i few =
      let e = t.emitted.counted in
      let l = t.emitted.lines_are in
      behind kept_wide 1 i (omega arith) t.emitted.at (omega (arith, e)) (omega (arith, few, l))

  -- no sync up to there is after the widening
  sync_before : (k a : ℕ) → k ≤ 20 → AnswersBehindSync m config kept_wide k a → a ≤ 1
  sync_before k zero early b = omega arith
  sync_before k (suc zero) early b = omega arith
  sync_before k (suc (suc zero)) early b =
      let r = b.reached in
      let counted = reached_counts m config kept_wide b.before b.process r in
      let past : 20 ≤ b.process.steps =
      past_widening r.guest r.start b.process kept_wide (Given t.hello ∷ []) [] b.before 20 r.runs
      refl in
      let next = b.next in
      absurd (omega (arith, early, counted, past, next))
  sync_before k (suc (suc (suc a))) early b =
      let within = b.within in
      absurd (omega (arith, within))

  opens_narrow : IsLived m config (promised_by nothing_yet (cut_upgrade t u)) (nothing_to_do t)
      (narrow_life t u)
  opens_narrow =
      let e = t.fresh.counted in
      let f = u.resting.counted in
      let g = t.answered.counted in
      let l = t.answered.lines_are in
      only_opens refl t.answered.at (record {
        within = omega arith;
        up_to = omega (arith, g);
        answers = omega arith;
        steps_held = omega arith;
        lines = λ i few. (1, omega arith, line_behind i few);
        syncs = λ k a few b. sync_before k a (omega (arith, e, f, few)) b;
      }) (omega arith)

  pub honest_upgrades : HonestUpgrades t u
  honest_upgrades = let e = t.fresh.counted in record {
    done = (
      is_upgraded,
      opens_twice (promised_by nothing_yet (upgraded_life t u)) (omega arith) (omega (arith, e))
          (omega arith) (omega arith) refl,
    );
    not_begun = (is_cut, (opens_narrow, tt));
    begun = (
      is_cut,
      opens_twice (promised_by nothing_yet (cut_upgrade t u)) (omega arith) (omega (arith, e))
          (omega arith) (omega arith) refl,
    );
  }
