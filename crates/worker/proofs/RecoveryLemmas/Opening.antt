-- A recovery that is done, as events of a life, and what its disk holds.
use Rattle.std.proofs.Common.{◌≡◌, ℕ, suc, ◌+◌, ◌≤◌, List, []}
use Rattle.std.proofs.Common.{length, take, drop, refl, sym, ap, ◌∙◌, subst, arith, Bool, true}
use Rattle.std.proofs.Common.{false, ◌||◌, Option, Some, None, is_some}
use Rattle.std.proofs.lemmas.List.{append-nil}
use Rattle.wasm_syntax.specs.declared.module.Module.{Module}
use Rattle.wasi_abi.specs.rules.Configs.{Settings}
use Rattle.process_rules.specs.Processes.{Ending, ProcessState}
use Rattle.process_rules.specs.Runs.{Kept, Runs, none as no_step}
use Rattle.state_image.specs.rules.Saving.{saved_of}
use Rattle.sector_disk.specs.rules.Medium.{Medium, LeavesOnly}
use Rattle.record_replay.specs.rules.Calls.{Taking, all_taken}
use Rattle.worker_store.specs.restart_theorem.Lives.{Inputs, Event, Opened}
use Rattle.worker_store.specs.restart_theorem.Courses.{Stage, at_first, next_stage, stage_after}
use Rattle.worker_store.specs.restart_theorem.Promises.{Promise, after, IsOpening}
use Rattle.worker_store.specs.restart_theorem.Holds.{DiskImageHolds, KeepsPromise, CarriesPromise}
use Rattle.worker_store.specs.restart_theorem.Holds.{KeepsBounds, StaysWithin}
use Rattle.worker_store.specs.rules.Savepoints.{Savepoint}
use Rattle.worker_store.specs.rules.BetweenCalls.{IsBetween}
use Rattle.worker_store.specs.laws.CallEnds.{IsSavedAs}
use Rattle.worker_store.specs.rules.Carried.{answers_at, count_at}
use Rattle.worker_store.specs.laws.Recovered.{OpensAtNext}
use Rattle.worker_store.proofs.LawLemmas.AtHand.{shown_is_saved, same_within}
use Rattle.worker_store.proofs.LawLemmas.Carrying.{answers_count, begins_carried, first_on_record}
use Rattle.worker_store.proofs.LawLemmas.Carrying.{first_up_to}
use Rattle.worker_store.proofs.LawLemmas.Pieces.{ends_join}
use Rattle.worker_store.proofs.LawLemmas.Raising.{all_syncs_are_held}
use Rattle.worker_store.proofs.LawLemmas.Recovering.{recovery_opens}
use Rattle.worker_store.proofs.LawLemmas.LastTaken.{goes_no_further}
use Rattle.worker_store.proofs.LawLemmas.Reopening.{lives_open}
use Rattle.worker_store.specs.rules.Stores.{IsStoreOf}
use Rattle.worker_store.proofs.LawLemmas.Telling.{max_within}
use Rattle.worker.specs.declared.found.Found.{Found}
use Rattle.worker.specs.rules.DurableValues.{DurableValue}
use Rattle.worker.specs.rules.OpenWorkers.{IsAbreast, IsOnDisk, IsOpenOn, identity}
use Rattle.worker.specs.rules.Recoveries.{IsJustSynced, Reopens, recovery_events}
use Rattle.worker.specs.Revivals.{OpensStore}
use Rattle.worker.proofs.AbreastLemmas.{ended_is_still, none_beyond, told_changes_none}
use Rattle.worker.proofs.RecoveryLemmas.There.{IsThere}
use Rattle.worker.proofs.RecoveryLemmas.Lives.{IsBack}
use Rattle.worker.proofs.RecoveryLemmas.NextPoint.{HasNext, has_next, next_stored}
use Rattle.worker.proofs.RecoveryLemmas.Written.{retold_lines, IsRetold, moments_hold}
use Rattle.worker.proofs.RecoveryLemmas.Written.{moments_within}

-- ---- the opening

-- it has ended for some reason
ended_so : (ended : Option Ending) → is_some ended ≡ true → (why : Ending) × (ended ≡ Some why)
ended_so None is = absurd (cc)
ended_so (Some why) is = (why, refl)

first_true : (a b : Bool) → (a || b) ≡ true → b ≡ false → a ≡ true
first_true true b is none = refl
first_true false b is none = absurd (cc)

one_later : (a b c d : ℕ) → a ≡ b + 1 → b ≤ c → c ≤ d → a ≤ d + 1
one_later a b c d e x y = omega (arith, e, x, y)

module _ {D O : Type 0} (medium : D → Medium) (takes : Taking O) (m : Module)
    (config : Settings) (promise : Promise) (found : Found) (old mid new : D)
    (there : IsThere m config promise found (medium old).sectors (medium mid)) (w : DurableValue)
    (outlet outlet' : O)
    (back : IsBack takes there.point there.last w.process w.replayed outlet outlet')
    (opens : OpensStore found.geometry found.generation w.process w.store (medium mid)
    (medium new)) (works : w.has_failed ≡ false)
    (says : w.is_abreast ≡ is_some w.process.ended) where
  has : HasNext m config promise found (medium old).sectors (medium mid) (medium new) there
      w.process
  has = has_next medium takes m config promise found (medium old).sectors mid new there w.process
      w.replayed outlet outlet' back opens.writes

  stored : IsStoreOf has.next w.store [] [] has.next.process has.next.process (medium new)
  stored = next_stored medium takes m config promise found (medium old).sectors mid new there
      w.process w.replayed outlet outlet' back w.store opens has

  shown_whole : IsSavedAs m config there.point.reached.guest there.last (saved_of w.process)
  shown_whole = shown_is_saved m config there.point.reached.guest w.process there.last back.shows
      back.module_is

  module _ (inputs : Inputs)
      (told : IsRetold m config promise inputs there.point found.records.items there.last) where
    abbrev held : ℕ
    held = length has.next.front

    abbrev opening : Event
    opening = Opened (length has.next.front) (saved_of w.process)

    counted : length has.next.front ≡ count_at there.point found.records.items
    counted = ap (λ (l : List Kept). length l) has.front
        ∙ answers_count there.point found.records.items

    opened_there : IsOpening m config told.made.promise' told.made.stage' held
        (saved_of w.process)
        × IsBetween m config there.point.reached.guest (after told.made.promise' opening)
        (next_stage told.made.stage' opening) there.last
    opened_there =
        let holds = told.held in
        subst (λ n. IsOpening m config told.made.promise' told.made.stage' n (saved_of w.process)
        × IsBetween m config there.point.reached.guest
        (after told.made.promise' (Opened n (saved_of w.process)))
        (next_stage told.made.stage' (Opened n (saved_of w.process))) there.last) (sym counted)
        (lives_open m config there.point.reached.guest told.made.promise' told.made.stage'
        (count_at there.point found.records.items) there.last (saved_of w.process) told.lives
        shown_whole holds.created holds.holds (goes_no_further m config promise
        told.made.promise' (at_first inputs) told.made.stage' there.point found.records.items
        there.last holds refl told.made.done))

    heard : length there.last.host.lines ≤ told.made.promise'.heard
    heard = (let lives = told.lives in lives.heard)

    opens_at : OpensAtNext promise told.made.promise' (saved_of w.process) has.next (medium mid)
        (medium new)
    opens_at =
        recovery_opens medium m config promise told.made.promise' (saved_of w.process) there.point
        has.next found.records.items there.last mid new told.no_more told.held
        (has.is_next.saves told.made.promise'
        (first_on_record m config told.made.promise' there.point found.records.items there.last
        has.next.front told.held has.front)
        (first_up_to m config told.made.promise' there.point found.records.items there.last
        has.next.front told.held has.front) heard) has.is_next.saved has.leaves
        stored.journaled.at_savepoint

    -- all kept answers are those of the savepoint
    kept_is : (after told.made.promise' opening).kept ≡ answers_at has.next []
    kept_is =
        let all = told.held in
        ap (λ n. take n told.made.promise'.kept) counted ∙ all.front ∙ sym has.front
        ∙ sym (append-nil has.next.front)

    on_disk_now : IsOnDisk (identity m config there.point.reached.guest)
        (after told.made.promise' opening) there.last there.last.steps
        (told.made.promise'.events + 1) w.store (medium new)
    on_disk_now =
        let now : Promise = after told.made.promise' opening in
        let next : Savepoint m config = has.next in
        let next_is = has.is_next in
        let comes = next_is.comes in
        let adds = told.made.adds in
        let carries = opens_at in
        record {
          point = next;
          same = next_is.same;
          records = [];
          pending = [];
          last = next.process;
          now = next.process;
          stores = stored;
          carried = begins_carried medium m config now next w.store.journal new carries.held
              stored.journaled;
          on_record = kept_is;
          n = 0;
          runs = subst (λ (z : ProcessState).
              Runs there.point.reached.guest z [] 0 there.last) (sym next_is.process) no_step;
          syncs = all_syncs_are_held m config now next [] there.last.steps kept_is;
          early = one_later next.generation there.point.generation promise.events
              told.made.promise'.events comes.generation there.early adds.events;
        }

    -- until it opens, the life isn't abreast
    behind_at_first : told.made.stage'.is_abreast ≡ false
    behind_at_first =
        let done = told.made.done in
        ap (λ (s : Stage). s.is_abreast) done.stage_is
        ∙ told_changes_none (all_taken (suc there.point.saved.lines)
        (drop there.point.saved.lines there.last.host.lines)) (retold_lines there.point there.last)
        done.events (at_first inputs) done.are refl

    -- where the process has ended, no line is beyond it
    abreast_now : IsAbreast (after told.made.promise' opening)
        (next_stage told.made.stage' opening) there.last w.is_abreast
    abreast_now =
        let shows = back.shows in
        record {
          none_beyond = λ here.
              (let why = ended_so there.last.ended (ap is_some (sym shows.ended) ∙ sym says ∙ here)
              in
              none_beyond medium m config there.point.reached.guest
              (after told.made.promise' opening) there.last there.last.steps
              (told.made.promise'.events + 1) w.store new on_disk_now
              (ended_is_still there.point.reached.guest there.last why.0 why.1));
          says_so = λ abreast.
              says ∙ first_true (is_some w.process.ended) told.made.stage'.is_abreast abreast
              behind_at_first;
        }

    open_now : IsOpenOn m config there.point.reached.guest (after told.made.promise' opening)
        (next_stage told.made.stage' opening) there.last w (medium new)
    open_now =
        let at = there.found_at in
        let lines : (saved_of w.process).lines ≡ length there.last.host.lines =
        shown_whole.shows.lines in
        let steps : (saved_of w.process).steps ≡ there.last.steps = shown_whole.shows.steps in
        let lives = told.lives in
        record {
          works = works;
          opened = refl;
          texts = at.texts;
          shows = back.shows;
          module_is = back.module_is;
          between = opened_there.1;
          heard = heard;
          passed = max_within (saved_of w.process).lines told.made.promise'.passed
              (length there.last.host.lines) (same_within _ _ _ lines (omega arith)) lives.passed;
          none_waits = back.none_waits;
          on_disk = on_disk_now;
          synced = same_within _ _ _ steps (omega arith);
          abreast = abreast_now;
        }

    module _ (just_synced : IsJustSynced (medium old) (medium mid))
        (keeps : KeepsPromise m config promise (medium old))
        (bounds : KeepsBounds promise.events (medium old)) where
      pub reopens : Reopens m config promise inputs
          (all_taken (suc there.point.saved.lines)
          (drop there.point.saved.lines there.last.host.lines)) w (medium old) (medium new)
      reopens =
          let made = told.made in
          let done = made.done in
          let joined = ends_join m config promise made.promise' (at_first inputs) made.stage'
          (retold_lines there.point there.last) opening done opened_there.0 in
          let carries = opens_at in
          let moments : CarriesPromise m config promise told.made.promise' (medium old)
          (medium new) =
          moments_hold medium takes m config promise found old mid new there w.process w.replayed
          outlet outlet' back has inputs told just_synced keeps in
          let last_stage : Stage = stage_after (at_first inputs)
          (recovery_events done.events held w) in
          record {
            events = done.events;
            are = done.are;
            held = held;
            kept = joined.0;
            at_any_moment = subst (λ (p : Promise).
                LeavesOnly (medium old) (medium new) (DiskImageHolds m config promise p))
                done.promised_is moments.at_any_moment;
            in_the_end = subst (λ (p : Promise). KeepsPromise m config p (medium new))
                (sym joined.1) carries.carries.in_the_end;
            bounded = subst (λ (p : Promise). StaysWithin p.events (medium old) (medium new))
                (sym joined.1)
                (moments_within medium takes m config promise found old mid new there w.process
                w.replayed outlet outlet' back has inputs told just_synced bounds);
            counted = (let passes = just_synced.leaves.passes in
                let writes = opens.writes in
                omega (arith, just_synced.counted, writes.counted, passes.sectors));
            guest = there.point.reached.guest;
            process = there.last;
            opened = subst (λ (p : Promise). IsOpenOn m config there.point.reached.guest p
                last_stage there.last w (medium new)) (sym joined.1)
                (subst (λ (s : Stage). IsOpenOn m config there.point.reached.guest
                (after made.promise' opening) s there.last w (medium new)) (sym joined.2)
                open_now);
          }
