-- A barrier and a commit, one after the other.
use Rattle.std.proofs.Common.{◌≡◌, ◌⊎◌, ℕ, List, [], ◌∷◌, ◌++◌, length, take, refl, sym, ap, ◌∙◌}
use Rattle.std.proofs.Common.{subst, inl, inr, ⊎_elim, arith}
use Rattle.std.proofs.lemmas.List.{append-nil}
use Rattle.std.proofs.Math.Nat.{le-max_right}
use Rattle.std.proofs.Math.Seq.{take-length}
use Rattle.wasm_syntax.specs.declared.module.Module.{Module}
use Rattle.wasi_abi.specs.rules.Configs.{Settings}
use Rattle.process_rules.specs.Processes.{ProcessState}
use Rattle.process_rules.specs.Runs.{Kept}
use Rattle.state_image.specs.rules.ProcessImage.{Saved}
use Rattle.sector_disk.specs.rules.DiskImage.{DiskImage}
use Rattle.sector_disk.specs.rules.Medium.{Medium, LeavesOnly}
use Rattle.sector_disk.proofs.Moments.{goes_on, weaker, leaves_only, leaves_weaker}
use Rattle.disk_layout.specs.rules.Journal.{Record}
use Rattle.journal.specs.rules.State.{JournalState}
use Rattle.record_replay.specs.rules.Records.{Recorded, none}
use Rattle.worker_store.specs.restart_theorem.Lives.{Act, Checkpoint, Done, Fails, Cause, Ended}
use Rattle.worker_store.specs.restart_theorem.Promises.{Promise, after, synced_by}
use Rattle.worker_store.specs.restart_theorem.Holds.{HoldsPromise, DiskImageHolds, CarriesPromise}
use Rattle.worker_store.specs.rules.Savepoints.{Savepoint, IsAtSavepoint, IsAtFront, BeginsAtPoint}
use Rattle.worker_store.specs.rules.Savepoints.{IsAtFrontOrNext}
use Rattle.worker_store.specs.laws.Acts.{SavesWith, keeping_more}
use Rattle.worker_store.specs.rules.Carried.{IsHeldAt, IsCarried, count_at, SyncsAreHeld}
use Rattle.worker_store.specs.laws.Carried.{SavesFront}
use Rattle.worker_store.specs.laws.Saves.{SaveAtAnyMoment, SaveCarries, IsSavingAt, promise_saved}
use Rattle.worker_store.specs.laws.Saves.{DoneSavesCarry, FailedSavesCarry, EndsPromiseNoLess}
use Rattle.worker_store.proofs.LawLemmas.Acts.{saving_ends_alike}
use Rattle.worker_store.proofs.LawLemmas.Carrying.{carries, front_is_held, all_is_held}
use Rattle.worker_store.proofs.LawLemmas.Carrying.{next_is_held}
use Rattle.worker_store.proofs.LawLemmas.Carrying.{held_at_holds_promise, saved_is_held}
use Rattle.worker_store.proofs.LawLemmas.Raising.{ended_carries}

-- ---- fronts

take_none : (records : List Record) → take 0 records ≡ []
take_none [] = refl
take_none (r ∷ records) = refl

-- none of the pending records
pub front_of_none : (m : Module) (config : Settings) (point : Savepoint m config)
    (records pending : List Record) (last : ProcessState) (disk : DiskImage)
    → IsAtSavepoint point records last disk → IsAtFront point records last pending disk
front_of_none m config point records pending last disk at = record {
  count = 0;
  within = omega arith;
  process = last;
  recorded = subst (λ (l : List Record). Recorded point.reached.guest last l last)
      (sym (take_none pending)) none;
  at = subst (λ (l : List Record). IsAtSavepoint point l last disk)
      (sym (ap (λ (l : List Record). records ++ l) (take_none pending) ∙ append-nil records)) at;
}

-- all of them
pub front_of_all : (m : Module) (config : Settings) (point : Savepoint m config)
    (records pending : List Record) (last now : ProcessState) (disk : DiskImage)
    → Recorded point.reached.guest last pending now
    → IsAtSavepoint point (records ++ pending) now disk
    → IsAtFront point records last pending disk
front_of_all m config point records pending last now disk recorded at = record {
  count = length pending;
  within = omega arith;
  process = now;
  recorded = subst (λ (l : List Record). Recorded point.reached.guest last l now)
      (sym (take-length pending)) recorded;
  at = subst (λ (l : List Record). IsAtSavepoint point (records ++ l) now disk)
      (sym (take-length pending)) at;
}

-- ---- a promise

pub ends_promise_no_less : EndsPromiseNoLess
ends_promise_no_less promise act reply held shown = record {
  answers = le-max_right _ promise.answers;
  steps = le-max_right _ promise.steps;
  passed = le-max_right _ promise.passed;
  begun = omega arith;
  synced = le-max_right _ promise.synced;
}

-- What holds a promise with more kept holds it also when the end of a call has promised more.
held_on : (m : Module) (config : Settings) (promise : Promise) (more : List Kept) (n : ℕ)
    (shown : Saved) (disk : DiskImage)
    → HoldsPromise m config (keeping_more promise more) (keeping_more promise more) disk
    → HoldsPromise m config promise
    (after (keeping_more promise more) (Ended Checkpoint Done n shown)) disk
held_on m config promise more n shown disk holds =
    let all = holds.holds in
    record {
      created = holds.created;
      held = holds.held;
      steps = holds.steps;
      stands = holds.stands;
      holds = record {
        within = all.within;
        up_to = all.up_to;
        answers = all.answers;
        steps_held = all.steps_held;
        lines = all.lines;
        syncs = all.syncs;
      };
      snapshot_heard = holds.snapshot_heard;
      snapshot_passed = holds.snapshot_passed;
    }

module _ {D : Type 0} (medium : D → Medium) where
  pub save_at_any_moment : SaveAtAnyMoment medium
  save_at_any_moment m config point next journal records pending last now old mid new is one two =
      let P : DiskImage → Type 0 = IsAtFront point records last pending in
      let Q : DiskImage → Type 0 = λ disk.
      IsAtSavepoint point (records ++ pending) now disk ⊎ BeginsAtPoint next disk in
      let R : DiskImage → Type 0 = IsAtFrontOrNext point next records last pending in
      leaves_only (medium old) (medium new) R
      (goes_on (medium old) (medium mid) (medium new) R Q
      (weaker (medium old) (medium mid) P R one.passes (λ disk at. inl at)) two.passes
      (λ disk at. ⊎_elim
      (λ (stands : IsAtSavepoint point (records ++ pending) now disk).
      inl (front_of_all m config point records pending last now disk is.recorded stands))
      (λ (begins : BeginsAtPoint next disk). inr begins) at))
      (λ disk crashed. inl (front_of_none m config point records pending last disk
      (is.at_savepoint disk crashed)))

  -- each image that a save leaves holds what is promised
  module _ (m : Module) (config : Settings) (promise : Promise) (point next : Savepoint m config)
      (journal : JournalState) (records pending : List Record) (more : List Kept)
      (last now : ProcessState) (old : D)
      (is : IsCarried promise point journal records pending last now (medium old))
      (saves : SavesFront promise point next (records ++ pending) more now) where
    pub next_held : IsHeldAt promise next [] next.process
    next_held = next_is_held m config promise point next (records ++ pending) more now
        (all_is_held m config promise point journal records pending last now (medium old) is) saves

    pub saved_holds : (disk : DiskImage) → IsAtFrontOrNext point next records last pending disk
        → HoldsPromise m config promise promise disk
    saved_holds disk at = ⊎_elim
        (λ (front : IsAtFront point records last pending disk).
        front_is_held m config promise point records pending last is.held is.answers now
        is.journaled.recorded is.up_to disk front)
        (λ (begins : BeginsAtPoint next disk).
        held_at_holds_promise m config promise next [] next.process disk next_held begins.at) at

  pub save_carries : SaveCarries medium
  save_carries m config less promise point next journal records pending more last now old new
      no_more is saves leaves =
      carries m config less promise (medium old) (medium new)
      (IsAtFrontOrNext point next records last pending) no_more
      (saved_holds m config promise point next journal records pending more last now old is saves)
      leaves

  -- ---- by an act

  module _ (m : Module) (config : Settings) (promise : Promise) (act : Act) (more : List Kept)
      (shown : Saved) (point next : Savepoint m config) (journal : JournalState)
      (records pending : List Record) (last now : ProcessState) (old new : D)
      (is : IsSavingAt promise act more shown point next (records ++ pending) now)
      (carried : IsCarried (keeping_more promise more) point journal records pending last now
      (medium old))
      (leaves : LeavesOnly (medium old) (medium new)
      (IsAtFrontOrNext point next records last pending)) where
    done_held : IsHeldAt (promise_saved promise act more shown) next [] next.process
    done_held =
        let long : length next.front ≡ length (promise.kept ++ more) =
        ap (λ (l : List Kept). length l) is.all in
        let saves : SavesWith promise act more next.saved =
        subst (λ (s : Saved). SavesWith promise act more s) (sym is.saved) is.saves in
        subst (λ (s : Saved). IsHeldAt (promise_saved promise act more s) next [] next.process)
        is.saved
        (subst (λ n. IsHeldAt (after promise (Ended act Done n next.saved)) next [] next.process)
        long
        (saved_is_held m config promise act more next saves
        (next_held m config (keeping_more promise more) point next journal records pending more last
        now old carried is.front) is.all))

    done_moments : LeavesOnly (medium old) (medium new)
        (DiskImageHolds m config promise (promise_saved promise act more shown))
    done_moments =
        let n : ℕ = length (promise.kept ++ more) in
        subst (λ (z : Promise).
        LeavesOnly (medium old) (medium new) (DiskImageHolds m config promise z))
        (sym (saving_ends_alike promise act more shown Done n is.saves))
        (leaves_weaker (medium old) (medium new)
        (IsAtFrontOrNext point next records last pending)
        (DiskImageHolds m config promise
        (after (keeping_more promise more) (Ended Checkpoint Done n shown))) leaves
        (λ disk at. inr (held_on m config promise more n shown disk
        (saved_holds m config (keeping_more promise more) point next journal records pending more
        last now old carried is.front disk at))))

    failed_carries : (cause : Cause) (held : ℕ)
        → SyncsAreHeld m config (promise.kept ++ more) (count_at point records)
        (synced_by (Fails cause) shown.steps)
        → CarriesPromise m config promise (after promise (Ended act (Fails cause) held shown))
        (medium old) (medium new)
    failed_carries cause held syncs =
        let front = is.front in
        subst (λ (z : Promise). CarriesPromise m config promise z (medium old) (medium new))
        (sym (saving_ends_alike promise act more shown (Fails cause) held is.saves))
        (save_carries m config promise
        (after (keeping_more promise more) (Ended Checkpoint (Fails cause) held shown)) point next
        journal records pending more last now old new
        (record {
          answers = le-max_right _ promise.answers;
          steps = le-max_right _ promise.steps;
          passed = le-max_right _ promise.passed;
          begun = omega arith;
          synced = le-max_right _ promise.synced;
        })
        (ended_carries medium m config (keeping_more promise more) point journal records pending
        last now Checkpoint (Fails cause) held shown old carried refl (λ count. refl) syncs)
        (record {
          front = front.front;
          kept = front.kept;
          up_to = front.up_to;
          steps = front.steps;
          runs = front.runs;
          heard = front.heard;
        }) leaves)

  pub done_saves_carry : DoneSavesCarry medium
  done_saves_carry m config promise act more shown point next journal records pending last now old
      new is carried leaves stands =
      let held : IsHeldAt (promise_saved promise act more shown) next [] next.process =
      done_held m config promise act more shown point next journal records pending last now old new
      is carried leaves in
      record {
        carries = record {
          at_any_moment = done_moments m config promise act more shown point next journal records
              pending last now old new is carried leaves;
          in_the_end = λ disk crashed. inr (held_at_holds_promise m config
              (promise_saved promise act more shown) next [] next.process disk held
              (stands disk crashed));
        };
        held = held;
      }

  pub failed_saves_carry : FailedSavesCarry medium
  failed_saves_carry m config promise act more shown cause held point next journal records pending
      last now old new is carried syncs leaves =
      failed_carries m config promise act more shown point next journal records pending last now old
      new is carried leaves cause held syncs
