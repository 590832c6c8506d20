-- An answer that is kept on record, and taken, or not.
use Rattle.std.proofs.Common.{◌≡◌, ℕ, length, refl, sym, inl, inr, Bool, true, false, Ok, Err, ◌≤◌}
use Rattle.std.proofs.Common.{subst}
use Rattle.std.specs.Prelude.{◌↔◌, IsTrue}
use Rattle.wasi_abi.specs.declared.answer.Question.{Question}
use Rattle.wasi_abi.specs.rules.Answers.{Fits}
use Rattle.wasi_abi.specs.rules.Versions.{text_limit}
use Rattle.process.specs.declared.fault.ProcessFault.{ProcessFault}
use Rattle.process.specs.rules.Values.{ProcessValue, IsProcess}
use Rattle.process.specs.rules.Stops.{GivesAnswer}
use Rattle.disk_layout.specs.rules.Journal.{Record, record_bytes}
use Rattle.journal.specs.rules.State.{room_of}
use Rattle.journal.specs.rules.Steps.{RecordFits}
use Rattle.worker_store.specs.declared.fault.StoreFault.{StoreFault}
use Rattle.worker_store.specs.declared.store.WorkerStore.{WorkerStore}
use Rattle.worker_store.specs.rules.Calls.{AppendFails}
use Rattle.worker_store.specs.rules.Stores.{with_record}
use Rattle.record_replay.specs.declared.slices.fault.SliceFault.TheVariants as slice
use Rattle.worker.specs.declared.fault.WorkFault.TheVariants.{Work}
use Rattle.worker.specs.declared.running_worker.RunningWorker.{RunningWorker}
use Rattle.worker.specs.rules.WorkFaults.{fault_of_store}
use Rattle.record_replay.specs.rules.Refusals.{slice_fault}
use Rattle.worker.specs.DurableTurns.{TakesOnRecord, TakesNone}

module _ (old : RunningWorker) (question : Question) (r : Record) (limit : ℕ)
    (limit_is : limit ≡ text_limit old.process.host.host.version) (does_fit : Bool)
    (fitting : IsTrue does_fit ↔ Fits limit question r.answer) where
  fits_there : does_fit ≡ true → Fits (text_limit old.process.host.host.version) question r.answer
  fits_there is = subst (λ n. Fits n question r.answer) limit_is (fitting.0 is)

  -- it doesn't fit
  pub misfit_refused : does_fit ≡ false → TakesNone old question r (Work slice.Source) old
  misfit_refused is = inl (record {
    misfits = λ fits. not_both (fitting.1 (subst (λ n. Fits n question r.answer)
        (sym limit_is) fits));
    is = refl;
    same = refl;
  })
    where
      not_both : does_fit ≡ true → ⊥
      not_both fits = absurd (cc)

  module _ (is : does_fit ≡ true) (process : ProcessValue) (after : WorkerStore) where
    -- its record isn't kept
    pub record_lacking : (fault : StoreFault) → AppendFails old.store r fault
        → TakesNone old question r (fault_of_store fault) (record old { store = after })
    record_lacking fault fails = inr (inl (record {
      fits = fits_there is;
      fault = fault;
      fails = fails;
      is = refl;
      same = refl;
    }))

    -- the process doesn't take it
    pub answer_refused : (fault : ProcessFault) → after ≡ with_record old.store r
        → GivesAnswer old.process r.answer (Err fault) process
        → TakesNone old question r (Work (slice_fault fault))
        (record old { process = process; store = after })
    answer_refused fault appended given = inr (inr (record {
      fits = fits_there is;
      fault = fault;
      given = given;
      is = refl;
      appended = appended;
    }))

    -- it does
    pub answer_taken : after ≡ with_record old.store r → RecordFits old.store.journal.version r
        → length (record_bytes old.store.journal.version r)
        ≤ room_of old.store.geometry old.store.journal
        → GivesAnswer old.process r.answer (Ok tt) process → IsProcess process
        → process.host.released ≡ old.process.host.released
        → process.machine.guest ≡ old.process.machine.guest
        → TakesOnRecord old question r (record old { process = process; store = after })
    answer_taken appended fits room given some released guest = record {
      fits = fits_there is;
      appended = appended;
      record_fits = fits;
      room = room;
      given = given;
      some = some;
      abreast_same = refl;
      released_same = released;
      guest_same = guest;
    }
