-- Of slices and batches: which of their lines were told, and taken.
use Rattle.std.proofs.Common.{◌≡◌, inl, inr, ⊎_elim, ℕ, ◌+◌, suc, List, [], ◌∷◌, ◌++◌, length, None}
use Rattle.std.proofs.Common.{Some, refl, sym, ap, ◌∙◌, subst, append_assoc, append-nil}
use Rattle.std.proofs.lemmas.List.{map-append}
use Rattle.std.specs.Prelude.{map, Option}
use Rattle.wasi_abi.specs.declared.answer.Answer.{Answer}
use Rattle.wasi_calls_rules.specs.WasiStates.{Line}
use Rattle.process_rules.specs.Processes.{ProcessState, Guest}
use Rattle.record_replay.specs.declared.line_list.NumberedLine.{NumberedLine}
use Rattle.record_replay.specs.rules.Calls.{Ask, Begun, Exchange, Asks, Tells, Releases}
use Rattle.record_replay.specs.rules.Calls.{releases_of, all_taken}
use Rattle.record_replay.specs.rules.Lists.{numbered}
use Rattle.record_replay.proofs.Following.{releases_of-append}
use Rattle.record_replay.specs.declared.slices.fault.SliceFault.TheVariants as slice
use Rattle.record_replay.specs.declared.slices.fault.Refusal.TheVariants as refusal
use Rattle.record_replay.specs.rules.Slices.{SliceLeadsTo}
use Rattle.record_replay.specs.rules.Faults.{LeadsUpTo, EmitsLast, last_answer}
use Rattle.worker.specs.declared.fault.WorkFault.{WorkFault}
use Rattle.worker.specs.declared.fault.WorkFault.TheVariants as work
use Rattle.worker.specs.rules.Batches.{IsBatchCause, StopsBatch, keeping, taking}
use Rattle.worker.specs.rules.DurableFailures.{StopsAtDisk, StopsAtStore}
use Rattle.worker.proofs.StopLemmas.{batch_stops_at_store}
use Rattle.disk_commands.proofs.PrintedLemmas.{asks_only}

-- The releases among these calls are of some lines, each of which was taken.
pub record AllTaken (exchanges : List Exchange) : Type 0 where
  pub first : ℕ
  pub lines : List Line
  pub are : releases_of exchanges ≡ all_taken first lines

-- releases, as calls
pub releases_told : (told : List Begun) → releases_of (map Tells told) ≡ told
releases_told [] = refl
releases_told (begun ∷ told) = ap (λ z. begun ∷ z) (releases_told told)

-- questions after them release nothing
pub taken_then : (exchanges front last : List Exchange) → exchanges ≡ front ++ last
    → releases_of last ≡ [] → AllTaken front → AllTaken exchanges
taken_then exchanges front last is none all = record {
  first = all.first;
  lines = all.lines;
  are = ap releases_of is ∙ releases_of-append front last
      ∙ ap (λ z. releases_of front ++ z) none ∙ append-nil (releases_of front) ∙ all.are;
}

module _ (guest : Guest) (p : ProcessState) (exchanges : List Exchange) (steps : ℕ) where
  pub by_leads : (q : ProcessState) → SliceLeadsTo guest p exchanges steps q → AllTaken exchanges
  by_leads q leads = record {
    first = suc (length p.host.lines);
    lines = leads.lines;
    are = leads.released;
  }

pub up_to : (guest : Guest) (p : ProcessState) (exchanges : List Exchange) (steps : ℕ)
    (q : ProcessState) (given : Option Answer) → LeadsUpTo guest p exchanges steps q given
    → AllTaken exchanges
up_to guest p exchanges steps q given h =
    taken_then exchanges h.front (last_answer h.question given) h.is (asks_only h.question given)
    (by_leads guest p h.front steps q h.leads)

module _ (guest : Guest) (p : ProcessState) (exchanges : List Exchange) (steps : ℕ)
    (q : ProcessState) where
  pub emits : (lines : List Line) → EmitsLast guest p exchanges steps q lines → AllTaken exchanges
  emits lines h = up_to guest p exchanges h.steps h.before h.given h.leads

  pub at_disk : StopsAtDisk guest p exchanges steps q → AllTaken exchanges
  at_disk (inl h) = emits h.0 h.1
  at_disk (inr h) = up_to guest p exchanges steps q None h

  pub at_store : StopsAtStore guest p exchanges steps q → AllTaken exchanges
  at_store (inl h) = at_disk h
  at_store (inr h) = up_to guest p exchanges steps q (Some h.0) h.1

-- ---- a batch

-- questions, as calls
questions_only : (asks : List Ask) → releases_of (map Asks asks) ≡ []
questions_only [] = refl
questions_only (ask ∷ asks) = questions_only asks

module _ (guest : Guest) (p : ProcessState) (exchanges : List Exchange) (steps : ℕ)
    (q : ProcessState) where
  stopped : StopsBatch guest p exchanges steps q → AllTaken exchanges
  stopped h =
      taken_then exchanges h.0 (map Asks h.1) h.3 (questions_only h.1)
      (by_leads guest p h.0 steps q h.4)

  batch_taken : (fuel : ℕ) (why : WorkFault) → IsBatchCause guest p fuel exchanges steps q why
      → AllTaken exchanges
  batch_taken fuel (work.Work slice.Source) h =
      taken_then exchanges h.1.front (Asks h.1.ask ∷ []) h.1.is refl
      (by_leads guest p h.1.front steps q h.1.leads)
  batch_taken fuel (work.Work slice.Outlet) h = stopped h.1
  batch_taken fuel (work.Work slice.Memory) h = up_to guest p exchanges steps q h.3 h.4
  batch_taken fuel (work.Work slice.Failed) h = at_store guest p exchanges steps q h.1
  batch_taken fuel (work.Work (slice.Refused refusal.StepsSpent)) h =
      up_to guest p exchanges steps q h.2 h.3
  batch_taken fuel (work.Work (slice.Refused (refusal.Module why))) h = absurd h
  batch_taken fuel (work.Disk why) h = stopped h.1
  batch_taken fuel (work.Store why) h =
      ⊎_elim (λ at. at_store guest p exchanges steps q at) (λ at. stopped at)
      (batch_stops_at_store guest p fuel exchanges steps q why h)
  batch_taken fuel (work.Upgrade why) h = absurd h

-- what a list has kept of lines that were released to it, and that it took
kept_as_taken : (first : ℕ) (lines : List Line) (before told : List NumberedLine)
    → Releases keeping before (all_taken first lines) told
    → map taking told ≡ map taking before ++ all_taken first lines
kept_as_taken first [] before told led =
    ap (λ z. map taking z) led ∙ sym (append-nil (map taking before))
kept_as_taken first (line ∷ lines) before told led =
    let one : List NumberedLine = numbered first line ∷ [] in
    kept_as_taken (first + 1) lines led.0 told led.2
    ∙ ap (λ z. map taking z ++ all_taken (first + 1) lines) led.1
    ∙ ap (λ z. z ++ all_taken (first + 1) lines) (map-append taking before one)
    ∙ append_assoc (map taking before) (map taking one) (all_taken (first + 1) lines)

-- The lines of a batch that has failed, as a list has kept them, are those that it has released.
pub told_as_taken : (guest : Guest) (p : ProcessState) (exchanges : List Exchange) (steps : ℕ)
    (q : ProcessState) (fuel : ℕ) (why : WorkFault)
    → IsBatchCause guest p fuel exchanges steps q why → (told : List NumberedLine)
    → Releases keeping [] (releases_of exchanges) told
    → map taking told ≡ releases_of exchanges
told_as_taken guest p exchanges steps q fuel why cause told led =
    let all = batch_taken guest p exchanges steps q fuel why cause in
    kept_as_taken all.first all.lines [] told (subst (λ z. Releases keeping [] z told) all.are led)
    ∙ sym all.are
