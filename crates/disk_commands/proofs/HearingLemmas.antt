-- Which questions of slices were refused.
use Rattle.std.proofs.Common.{◌≡◌, ◌⊎◌, inl, inr, ⊎_elim, ℕ, suc, Bool, true, false, List, []}
use Rattle.std.proofs.Common.{◌∷◌, ◌++◌, length, Option, Some, None, Ok, Err, refl, sym, subst}
use Rattle.std.specs.Prelude.{map, Result}
use Rattle.std.specs.List.{AllByRecursion}
use Rattle.wasi_abi.specs.declared.answer.Answer.{Answer}
use Rattle.wasi_abi.specs.declared.answer.Question.{Question}
use Rattle.wasi_calls_rules.specs.WasiStates.{Line}
use Rattle.process_rules.specs.Processes.{ProcessState, Guest}
use Rattle.record_replay.specs.rules.Calls.{Giving, Taking, Ask, Asked, Begun, Exchange, Asks}
use Rattle.record_replay.specs.rules.Calls.{Tells, asks_of, last_refused, ports}
use Rattle.record_replay.proofs.Following.{asks_of-append, leads_join}
use Rattle.process.specs.rules.Values.{ProcessValue, IsProcess}
use Rattle.record_replay.specs.declared.slices.fault.SliceFault.TheVariants as slice
use Rattle.record_replay.specs.declared.slices.fault.Refusal.TheVariants as refusal
use Rattle.record_replay.specs.declared.slices.now.Now.{Now}
use Rattle.record_replay.specs.declared.slices.now.Now.TheVariants as now
use Rattle.record_replay.specs.rules.Workers.{WorkerValue}
use Rattle.record_replay.specs.rules.Slices.{HasAnswer, AreWanted, IsNow, Slices}
use Rattle.record_replay.specs.rules.Faults.{LeadsUpTo, EmitsLast, StopsAtLine, last_answer}
use Rattle.worker.specs.declared.fault.WorkFault.{WorkFault}
use Rattle.worker.specs.declared.fault.WorkFault.TheVariants as work
use Rattle.worker.specs.declared.recover_fault.RecoverFault.{RecoverFault}
use Rattle.worker.specs.declared.recover_fault.RecoverFault.TheVariants as recover
use Rattle.worker.specs.rules.Batches.{BatchFails, IsBatchCause}
use Rattle.worker.specs.rules.DurableFailures.{SlicesOnDiskInVain, IsDiskCause}
use Rattle.worker.specs.rules.DurableFailures.{StopsAtDisk, StopsAtStore}
use Rattle.worker.specs.rules.LifeWords.{Act, Slice, Batch, Checkpoint, Upgrade}
use Rattle.worker.proofs.StopLemmas.{stops_at_store}
use Rattle.disk_commands.specs.rules.Hearings.{WasHeard, AsksUnless, IsOfSource, IsOfTelling}
use Rattle.disk_commands.specs.rules.Hearings.{MayRefuse}

-- ---- questions one after another

heard_both : (front rest : List Ask) → AllByRecursion WasHeard front → AllByRecursion WasHeard rest
    → AllByRecursion WasHeard (front ++ rest)
heard_both [] rest all others = others
heard_both (ask ∷ front) rest all others = (all.0, heard_both front rest all.1 others)

module _ {S : Type 0} (gives : Giving S) where
  pub nothing_asked : (s : S) → AsksUnless gives ⊥ s s
  nothing_asked s = record { asks = []; led = refl; heard = inl tt }

  module _ (Refused : Type 0) (s t u : S) (before : AsksUnless gives ⊥ s t)
      (more : AsksUnless gives Refused t u) where
    both_heard : AllByRecursion WasHeard before.asks ⊎ ⊥
        → AllByRecursion WasHeard more.asks ⊎ Refused
        → AllByRecursion WasHeard (before.asks ++ more.asks) ⊎ Refused
    both_heard (inl all) (inl others) = inl (heard_both before.asks more.asks all others)
    both_heard (inl all) (inr refused) = inr refused
    both_heard (inr none) others = absurd none

    pub asked_on : AsksUnless gives Refused s u
    asked_on = record {
      asks = before.asks ++ more.asks;
      led = leads_join (Asked gives) s u t before.asks more.asks before.led more.led;
      heard = both_heard before.heard more.heard;
    }

  -- where there is an error of something else
  pub asked_so_far : (Refused : Type 0) (s t : S) → AsksUnless gives ⊥ s t
      → AsksUnless gives Refused s t
  asked_so_far Refused s t before = asked_on Refused s t t before
      (record { asks = []; led = refl; heard = inl tt })

-- no question was refused, where the error is neither the source's nor one of telling lines
pub none_refused : (act : Act) (undone : Result (List Act) RecoverFault)
    → (IsOfSource undone → ⊥) → (IsOfTelling undone → ⊥) → MayRefuse act undone → ⊥
none_refused (Slice fuel) undone source telling may = source may
none_refused (Batch fuel most) undone source telling may = ⊎_elim source telling may
none_refused Checkpoint undone source telling may = source may
none_refused Upgrade undone source telling may = source may

-- ---- slices

answered_heard : (asks : List Ask) → AllByRecursion HasAnswer asks → AllByRecursion WasHeard asks
answered_heard [] all = tt
answered_heard (ask ∷ asks) all = ((Some all.0.0, all.0.1), answered_heard asks all.1)

-- the questions of these exchanges, and one more
one_more : (front : List Exchange) (question : Question) (found : Option Answer)
    → AllByRecursion HasAnswer (asks_of front)
    → AllByRecursion WasHeard
    (asks_of (front ++ (Asks (record { question = question; said = Ok found }) ∷ [])))
one_more front question found all =
    let last = Asks (record { question = question; said = Ok found }) ∷ [] in
    subst (AllByRecursion WasHeard) (sym (asks_of-append front last))
    (heard_both (asks_of front) (asks_of last) (answered_heard (asks_of front) all)
    ((found, refl), tt))

module _ (guest : Guest) (p : ProcessState) (exchanges : List Exchange) (steps : ℕ) where
  -- all questions of a slice without an error
  now_heard : (q : ProcessState) (fuel : ℕ) (why : Now) → AreWanted guest p exchanges
      → IsNow guest q exchanges steps fuel why → AllByRecursion WasHeard (asks_of exchanges)
  now_heard q fuel now.Spent wanted h = answered_heard (asks_of exchanges) h.2.all
  now_heard q fuel (now.Ended how) wanted h = answered_heard (asks_of exchanges) h.2.all
  now_heard q fuel now.Waiting wanted h =
      let front = h.4.0 in
      let last : Ask = record { question = h.2; said = Ok None } in
      let before = wanted front [] last h.4.1 in
      subst (λ z. AllByRecursion WasHeard (asks_of z)) (sym h.4.1)
      (one_more front h.2 None before.answered.all)

  -- those before an error that isn't the source's
  up_to_heard : (q : ProcessState) (given : Option Answer)
      → LeadsUpTo guest p exchanges steps q given
      → AllByRecursion WasHeard (asks_of exchanges)
  up_to_heard q given h =
      subst (λ z. AllByRecursion WasHeard (asks_of z)) (sym h.is)
      (with_last h.front h.question given h.answered.all)
    where
      with_last : (front : List Exchange) (question : Question) (given : Option Answer)
          → AllByRecursion HasAnswer (asks_of front)
          → AllByRecursion WasHeard (asks_of (front ++ last_answer question given))
      with_last front question None all =
          subst (AllByRecursion WasHeard) (sym (asks_of-append front []))
          (heard_both (asks_of front) [] (answered_heard (asks_of front) all) tt)
      with_last front question (Some a) all = one_more front question (Some a) all

-- lines that are told ask nothing
told_ask_nothing : (told : List Begun) → asks_of (map Tells told) ≡ []
told_ask_nothing [] = refl
told_ask_nothing (begun ∷ told) = told_ask_nothing told

module _ (guest : Guest) (p : ProcessState) (exchanges : List Exchange) (steps : ℕ)
    (q : ProcessState) where
  abbrev AllHeard : Type 0
  AllHeard = AllByRecursion WasHeard (asks_of exchanges)

  emits_heard : (lines : List Line) → EmitsLast guest p exchanges steps q lines → AllHeard
  emits_heard lines h = up_to_heard guest p exchanges h.steps h.before h.given h.leads

  line_heard : StopsAtLine guest p exchanges steps q → AllHeard
  line_heard h =
      let told = last_refused (suc (length h.last.before.host.lines)) h.told h.line in
      let last = h.last in
      subst (λ z. AllByRecursion WasHeard (asks_of z)) (sym h.is)
      (subst (AllByRecursion WasHeard) (sym (asks_of-append h.front (map Tells told)))
      (heard_both (asks_of h.front) (asks_of (map Tells told))
      (up_to_heard guest p h.front last.steps last.before last.given last.leads)
      (subst (AllByRecursion WasHeard) (sym (told_ask_nothing told)) tt)))

  disk_heard : StopsAtDisk guest p exchanges steps q → AllHeard
  disk_heard (inl h) = emits_heard h.0 h.1
  disk_heard (inr h) = up_to_heard guest p exchanges steps q None h

  store_heard : StopsAtStore guest p exchanges steps q → AllHeard
  store_heard (inl h) = disk_heard h
  store_heard (inr h) = up_to_heard guest p exchanges steps q (Some h.0) h.1

  cause_heard : (fuel : ℕ) (why : WorkFault) → IsDiskCause guest p fuel exchanges steps q why
      → AllHeard ⊎ IsOfSource (Err (recover.Worker why))
  cause_heard fuel (work.Work slice.Source) h = inr refl
  cause_heard fuel (work.Work slice.Outlet) h = inl (line_heard h.1)
  cause_heard fuel (work.Work slice.Memory) h =
      inl (up_to_heard guest p exchanges steps q h.3 h.4)
  cause_heard fuel (work.Work slice.Failed) h = inl (store_heard h.1)
  cause_heard fuel (work.Work (slice.Refused refusal.StepsSpent)) h =
      inl (up_to_heard guest p exchanges steps q h.2 h.3)
  cause_heard fuel (work.Work (slice.Refused (refusal.Module why))) h = absurd h
  cause_heard fuel (work.Disk why) h = inl (disk_heard h.1)
  cause_heard fuel (work.Store why) h =
      inl (store_heard (stops_at_store guest p fuel exchanges steps q why h))
  cause_heard fuel (work.Upgrade why) h = absurd h

  cause_of_batch_heard : (fuel most : ℕ) (why : WorkFault)
      → IsBatchCause guest p fuel exchanges steps q why
      → AllHeard ⊎ MayRefuse (Batch fuel most) (Err (recover.Worker why))
  cause_of_batch_heard fuel most (work.Work slice.Source) h = inr (inl refl)
  cause_of_batch_heard fuel most (work.Work slice.Outlet) h = inr (inr tt)
  cause_of_batch_heard fuel most (work.Work slice.Memory) h =
      inl (up_to_heard guest p exchanges steps q h.3 h.4)
  cause_of_batch_heard fuel most (work.Work slice.Failed) h = inl (store_heard h.1)
  cause_of_batch_heard fuel most (work.Work (slice.Refused refusal.StepsSpent)) h =
      inl (up_to_heard guest p exchanges steps q h.2 h.3)
  cause_of_batch_heard fuel most (work.Work (slice.Refused (refusal.Module why))) h = absurd h
  cause_of_batch_heard fuel most (work.Disk why) h = inr (inr tt)
  cause_of_batch_heard fuel most (work.Store why) h = inr (inr tt)
  cause_of_batch_heard fuel most (work.Upgrade why) h = absurd h

module _ {S O : Type 0} (gives : Giving S) (takes : Taking O) (fuel : ℕ) (s t : S) (o p : O) where
  pub slice_hears : (old new : WorkerValue) (why : Now)
      → (old.failed ≡ false → IsProcess old.process)
      → Slices gives takes old fuel why new (ports s o) (ports t p) → AsksUnless gives ⊥ s t
  slice_hears old new why shows slices =
      let is = shows slices.had_not_failed in
      let works = slices.shown is.guest is.process is.shows in
      record {
        asks = asks_of works.0.exchanges;
        led = works.0.exchanged.asked;
        heard = inl (now_heard is.guest is.process works.0.exchanges works.0.steps works.0.process
            fuel why works.0.wanted works.1);
      }

  abbrev HearsUpTo : WorkFault → Type 0
  HearsUpTo why = AsksUnless gives (IsOfSource (Err (recover.Worker why))) s t

  break_hears : (old new : ProcessValue) (why : WorkFault) → IsProcess old
      → SlicesOnDiskInVain gives takes old fuel why new (ports s o) (ports t p) → HearsUpTo why
  break_hears old new why is slices =
      let fails = slices is.guest is.process is.shows in
      record {
        asks = asks_of fails.0.exchanges;
        led = fails.0.exchanged.asked;
        heard = cause_heard is.guest is.process fails.0.exchanges fails.0.steps fails.0.process
            fuel why fails.1;
      }

  -- a worker that had failed asks nothing
  pub slice_hears_up_to : (old new : ProcessValue) (why : WorkFault)
      (has_failed : Bool) → (has_failed ≡ false → IsProcess old)
      → (has_failed ≡ false → SlicesOnDiskInVain gives takes old fuel why new (ports s o)
      (ports t p))
      → (has_failed ≡ true → t ≡ s) → HearsUpTo why
  slice_hears_up_to old new why false shows breaks none =
      break_hears old new why (shows refl) (breaks refl)
  slice_hears_up_to old new why true shows breaks none =
      record { asks = []; led = none refl; heard = inl tt }

  -- so it is of a batch
  pub batch_hears_up_to : (most : ℕ) (old new : ProcessValue) (why : WorkFault)
      (has_failed : Bool) → (has_failed ≡ false → IsProcess old)
      → (has_failed ≡ false → BatchFails gives takes old fuel why new (ports s o) (ports t p))
      → (has_failed ≡ true → t ≡ s)
      → AsksUnless gives (MayRefuse (Batch fuel most) (Err (recover.Worker why))) s t
  batch_hears_up_to most old new why false shows breaks none =
      let is = shows refl in
      let batch = breaks refl is.guest is.process is.shows in
      let fails = batch.1 in
      record {
        asks = asks_of fails.exchanges;
        led = fails.exchanged.asked;
        heard = cause_of_batch_heard is.guest is.process fails.exchanges fails.steps fails.process
            fuel most why batch.3;
      }
  batch_hears_up_to most old new why true shows breaks none =
      record { asks = []; led = none refl; heard = inl tt }
