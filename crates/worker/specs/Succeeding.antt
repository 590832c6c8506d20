-- A worker that is followed by another, step by step.
use Rattle.std.specs.Prelude.{◌≡◌, ◌≢◌, ◌⊎◌, ◌+◌, ◌≤◌, ℕ, Bool, true, false, List, []}
use Rattle.std.specs.Prelude.{Option, Some, Result, Ok, Err}
use Rattle.wasm_syntax.specs.declared.module.Module.{Module}
use Rattle.wasm_rules.specs.Acceptance.{IsAccepted}
use Rattle.wasi_abi.specs.declared.answer.Question.{Question}
use Rattle.wasi_abi.specs.declared.answer.Question.TheVariants as question
use Rattle.wasi_abi.specs.declared.numbers.TheConstants.{NUMBERS_END}
use Rattle.wasi_abi.specs.rules.Configs.{Settings}
use Rattle.machine.specs.rules.Offers.{offer}
use Rattle.process_rules.specs.Processes.{ProcessState, Guest}
use Rattle.process.specs.rules.Legacies.{LegacyValue, IsLegacy, HasSucceeded}
use Rattle.process.specs.rules.Values.{ProcessValue, ShowsProcess}
use Rattle.state_image.specs.rules.Saving.{saved_of}
use Rattle.worker_store.specs.declared.fault.StoreFault.{StoreFault}
use Rattle.worker_store.specs.declared.store.WorkerStore.{WorkerStore}
use Rattle.worker_store.specs.restart_theorem.Successions.{IsAtRest}
use Rattle.worker.specs.declared.fault.WorkFault.{WorkFault}
use Rattle.worker.specs.declared.found.Found.{Found}
use Rattle.worker.specs.declared.handover.Handover.{Handover}
use Rattle.worker.specs.declared.leave_fault.LeaveFault.{LeaveFault}
use Rattle.worker.specs.declared.leave_fault.LeaveFault.TheVariants.{NotParked, StepsSpent, Recover}
use Rattle.worker.specs.rules.Successions.{handed_over}
use Rattle.worker.specs.rules.WorkFaults.{fault_of_store}

-- ---- what is left

-- a request is asked for
abbrev pub asks_request : Option Question → Bool
asks_request (Some question.Request) = true
asks_request other = false

-- There is no record after the process that was found, and that is at rest, whichever one of the
-- rules it shows.
pub record IsFoundParked (found : Found) : Type 0 where
  pub no_records : found.records.items ≡ []
  pub at_rest : (guest : Guest) (p : ProcessState) → ShowsProcess found.process guest p
      → IsAtRest guest p

-- there is one, or none that it shows is at rest
abbrev pub IsFoundAtWork : Found → Type 0
IsFoundAtWork found = (found.records.items ≢ [])
    ⊎ ((guest : Guest) (p : ProcessState) → ShowsProcess found.process guest p
    → IsAtRest guest p → ⊥)

-- what is handed over of what was found, or why nothing is
abbrev pub HandsOverFound : Found → Result Handover LeaveFault → Type 0
HandsOverFound found (Ok told) =
    IsFoundParked found × (told ≡ handed_over (saved_of found.process))
HandsOverFound found (Err NotParked) = IsFoundAtWork found
HandsOverFound found (Err StepsSpent) =
    IsFoundParked found × (NUMBERS_END ≤ found.process.steps + 1)
HandsOverFound found (Err (Recover why)) = ⊥

-- ---- the next worker

-- The bytes spell an accepted module, and its process goes on from what was left. That is known of
-- some origin.
pub record BeginsFrom (bytes : List ℕ) (config : Settings) (left : LegacyValue) (v : ProcessValue)
    : Type 0 where
  pub spelled : Module
  pub accepted : IsAccepted offer config.pages bytes spelled
  pub some : IsLegacy left
  pub succeeded : HasSucceeded spelled config left v

-- what is told of a disk that was laid out, or not
abbrev pub told_of : Result WorkerStore StoreFault → Result (Unit {0}) WorkFault
told_of (Ok store) = Ok tt
told_of (Err why) = Err (fault_of_store why)
