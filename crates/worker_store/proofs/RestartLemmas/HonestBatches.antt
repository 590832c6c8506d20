-- Honest stories with batches keep all promises.
use Rattle.std.proofs.Common.{◌≤◌, ℕ, true, List, [], ◌∷◌, Option, Some, None, Ok, Err}
use Rattle.std.proofs.Common.{inr, refl, arith}
use Rattle.wasm_syntax.specs.declared.module.Module.{Module}
use Rattle.wasi_abi.specs.rules.Configs.{Settings}
use Rattle.wasi_abi.specs.rules.Versions.{text_limit}
use Rattle.process_rules.specs.Behind.{AnswersBehindLine}
use Rattle.record_replay.specs.declared.fault.SourceFault.{SourceFault}
use Rattle.worker_store.specs.restart_theorem.Lives.{SourceSaid, Batch, Inputs, OfSource, OfDisk}
use Rattle.worker_store.specs.restart_theorem.Lives.{Spent, Waits, Fails, Event, Told, Ended}
use Rattle.worker_store.specs.restart_theorem.Lives.{Creates}
use Rattle.worker_store.specs.restart_theorem.Courses.{at_beginning, first_said, stage_after}
use Rattle.worker_store.specs.restart_theorem.Promises.{Promise, nothing_yet, promised, promised_by}
use Rattle.worker_store.specs.restart_theorem.Promises.{IsFitting, AreKept, IsLived}
use Rattle.worker_store.specs.restart_theorem.laws.Refused.{creation_begun}
use Rattle.worker_store.specs.restart_theorem.laws.Honest.{Teller, line_one, line_two}
use Rattle.worker_store.specs.restart_theorem.laws.Honest.{both_requests, nothing_to_do}
use Rattle.worker_store.specs.restart_theorem.laws.Batches.{SyncsNothing, asking_twice, batch_life}
use Rattle.worker_store.specs.restart_theorem.laws.Batches.{cut_batch, fresh_life, answered_life}
use Rattle.worker_store.specs.restart_theorem.laws.Batches.{waiting_batch, failing_batch}
use Rattle.worker_store.specs.restart_theorem.laws.Batches.{cut_behind, batch_42, first_request}
use Rattle.worker_store.specs.restart_theorem.laws.Batches.{HonestBatches}
use Rattle.worker_store.proofs.RestartLemmas.Events.{behind, all_held, tells, asks, ends, spent}
use Rattle.worker_store.proofs.RestartLemmas.Events.{waits, only_opens}
use Rattle.worker_store.proofs.RestartLemmas.Honesty.{kept_both, opens, retelling}

module _ {m : Module} {config : Settings} (t : Teller m config) where
  -- ---- both questions, the second one while a line waits

  abbrev inputs : List SourceSaid → Option ℕ → Inputs
  inputs rest stop = record (batch_42 t (Ok (Some t.hello) ∷ rest)) { stop = stop }

  -- whatever is said to the second one that fits, and whatever comes then
  asked_twice : (rest : List SourceSaid) (stop : Option ℕ) (more : List Event)
      → IsFitting (text_limit t.asks_second.process.host.version) t.question (first_said rest) true
      → AreKept m config (promised creation_begun (asking_twice t (first_said rest) []))
      (stage_after (at_beginning Creates (inputs rest stop)) (asking_twice t (first_said rest) []))
      more
      → AreKept m config creation_begun (at_beginning Creates (inputs rest stop))
      (asking_twice t (first_said rest) more)
  asked_twice rest stop more fitting then =
      let e = t.fresh.counted in
      let l = t.fresh.lines_are in (
        opens t (inputs rest stop),
        (
          asks t.asks_first ((omega arith, omega arith), (omega arith, omega arith))
              (omega arith, omega arith) t.asks_first.fits refl,
          (
            asks t.asks_second ((omega arith, omega arith), (omega arith, omega arith))
                (omega arith, omega arith) fitting refl,
            then,
          ),
        ),
      )

  -- ---- two lines behind one barrier

  abbrev said_both : List SourceSaid
  said_both = Ok (Some t.world) ∷ []

  works : IsLived m config nothing_yet (batch_42 t (both_requests t)) (batch_life t)
  works =
      let e = t.fresh.counted in
      let l = t.fresh.lines_are in
      let f = t.later.counted in
      let first = t.has_first.early in
      let second = t.has_second.early in
      let more : List Event = Told (line_one t) true ∷ Told (line_two t) true
      ∷ Ended (Batch 42 2) Spent 2 t.later.saved ∷ [] in
      record {
        kept = asked_twice said_both None more t.asks_second.fits (
          tells 1 t.has_first tt (omega arith, omega arith) (omega arith) (omega arith)
              (omega arith) refl,
          (
            tells 2 t.has_second tt (omega arith, omega arith) refl (omega arith) (omega arith)
                refl,
            (
              ends refl t.later.at refl (omega arith) (omega arith)
                  (spent 42 t.later refl (omega arith) refl refl) (λ at. tt),
              tt,
            ),
          ),
        );
        ends = (refl, refl, tt);
        begins = λ creates. (refl, (refl, e));
      }

  abbrev behind_batch : Promise
  behind_batch = promised_by nothing_yet (batch_life t)

  -- ---- the power is cut in the barrier

  cut : IsLived m config nothing_yet (inputs said_both (Some 35)) (cut_batch t)
  cut = record {
    kept = asked_twice said_both (Some 35) [] t.asks_second.fits tt;
    ends = (tt, omega arith);
    begins = λ creates. (refl, (refl, t.fresh.counted));
  }

  abbrev behind_cut : Promise
  behind_cut = promised_by nothing_yet (cut_batch t)

  -- no line was begun, and no sync had an answer before it
  none_begun : (i : ℕ) → i ≤ behind_cut.begun → AnswersBehindLine m config (kept_both t) i 0
  none_begun i few = behind (kept_both t) 0 i (omega arith) t.fresh.at tt (omega (arith, few))

  fresh_again : SyncsNothing t → IsLived m config behind_cut (nothing_to_do t) (fresh_life t)
  fresh_again quiet =
      let e = t.fresh.counted in
      let l = t.fresh.lines_are in
      only_opens refl t.fresh.at (record {
        within = omega arith;
        up_to = tt;
        answers = omega arith;
        steps_held = omega arith;
        lines = λ i few. (0, omega arith, none_begun i few);
        syncs = λ k a few b. (let none = quiet.none k a (omega (arith, few, e)) b in
            omega (arith, none));
      }) (omega arith)

  one_again : SyncsNothing t → IsLived m config behind_cut (nothing_to_do t) (answered_life t)
  one_again quiet =
      let e = t.fresh.counted in
      let f = t.answered.counted in
      let l = t.answered.lines_are in
      only_opens refl t.answered.at (record {
        within = omega arith;
        up_to = tt;
        answers = omega arith;
        steps_held = omega arith;
        lines = λ i few. (0, omega arith, none_begun i few);
        syncs = λ k a few b. (let none = quiet.none k a (omega (arith, few, e)) b in
            omega (arith, none));
      }) (omega arith)

  -- ---- a line waits behind the last question

  -- it is told then, and the source had none,
  none_there : IsLived m config nothing_yet (batch_42 t (first_request t)) (waiting_batch t)
  none_there =
      let e = t.fresh.counted in
      let l = t.fresh.lines_are in
      let f = t.asking.counted in
      let early = t.has_first.early in
      let more : List Event =
      Told (line_one t) true ∷ Ended (Batch 42 2) Waits 1 t.asking.saved ∷ [] in
      record {
        kept = asked_twice [] None more tt (
          tells 1 t.has_first tt (tt, tt, (omega arith, omega arith)) (omega arith) (omega arith)
              (omega arith) refl,
          (
            ends refl t.asking.at refl (omega arith) (omega arith)
                (waits 42 t.asking refl (omega arith) refl refl) (λ at. tt),
            tt,
          ),
        );
        ends = (refl, refl, tt);
        begins = λ creates. (refl, (refl, e));
      }

  -- or failed,
  fails : (fault : SourceFault)
      → IsLived m config nothing_yet (batch_42 t (Ok (Some t.hello) ∷ Err fault ∷ []))
      (failing_batch t fault)
  fails fault =
      let e = t.fresh.counted in
      let l = t.fresh.lines_are in
      let f = t.asking.counted in
      let k = t.asking.lines_are in
      let early = t.has_first.early in
      let more : List Event =
      Told (line_one t) true ∷ Ended (Batch 42 2) (Fails OfSource) 1 t.asking.saved ∷ [] in
      record {
        kept = asked_twice (Err fault ∷ []) None more tt (
          tells 1 t.has_first tt (tt, tt, (omega arith, omega arith)) (omega arith) (omega arith)
              (omega arith) refl,
          (
            ends refl t.asking.at refl (omega arith) (omega arith)
                (refl, omega arith, omega arith) (λ at. tt),
            tt,
          ),
        );
        ends = (refl, tt, tt);
        begins = λ creates. (refl, (refl, e));
      }

  -- or the power was cut before it.
  cut_late : IsLived m config nothing_yet (inputs [] (Some 38)) (cut_behind t)
  cut_late =
      let e = t.fresh.counted in
      let l = t.fresh.lines_are in
      let f = t.asking.counted in
      let k = t.asking.lines_are in
      let more : List Event = Ended (Batch 42 2) (Fails OfDisk) 1 t.asking.saved ∷ [] in
      record {
        kept = asked_twice [] (Some 38) more tt (
          ends refl t.asking.at refl (omega arith) (omega arith)
              (inr tt, omega arith, omega arith) (λ at. tt),
          tt,
        );
        ends = (refl, omega arith);
        begins = λ creates. (refl, (refl, e));
      }

  then_answered : IsLived m config (promised_by nothing_yet (cut_behind t)) (nothing_to_do t)
      (answered_life t)
  then_answered =
      let e = t.fresh.counted in
      let f = t.answered.counted in
      let l = t.answered.lines_are in
      let k = t.emitted.lines_are in
      only_opens refl t.answered.at (all_held 1 t.emitted.at refl (λ n. tt) (omega arith)
      (omega arith) (omega arith)) (omega arith)

  pub honest_batches : HonestBatches t
  honest_batches =
      let e = t.fresh.counted in
      let l = t.fresh.lines_are in
      record {
        both_told = (
          works,
          (
            retelling t behind_batch (omega arith) (omega (arith, e)) (omega arith)
                (omega (arith, l)) refl,
            tt,
          ),
        );
        none_left = λ quiet. (cut, (fresh_again quiet, tt));
        one_left = λ quiet. (cut, (one_again quiet, tt));
        both_left = (
          cut,
          (
            retelling t behind_cut (omega arith) (omega (arith, e)) (omega arith) (omega (arith, l))
                refl,
            tt,
          ),
        );
        none_there = (none_there, tt);
        source_fails = λ fault. (fails fault, tt);
        cut_then = (cut_late, (then_answered, tt));
      }
