-- What a worker hands over, by what was found of it.
use Rattle.std.proofs.Common.{true≢false, ◌≡◌, ◌≢◌, ◌↔◌, inl, inr, ℕ, ◌+◌, ◌*◌, ◌<◌}
use Rattle.std.proofs.Common.{◌≤◌, Bool, true, false, List, [], refl, sym, ap, ◌∙◌, subst, arith}
use Rattle.std.proofs.Common.{Option, Some, None, is_some, option_map}
use Rattle.std.specs.Prelude.{IsTrue, Result, Ok, Err}
use Rattle.wasm_syntax.specs.declared.module.Module.{Module}
use Rattle.wasi_abi.specs.declared.answer.Answer.TheVariants as answer
use Rattle.wasi_abi.specs.declared.answer.Question.{Question}
use Rattle.wasi_abi.specs.declared.answer.Question.TheVariants as question
use Rattle.wasi_abi.specs.declared.numbers.TheConstants.{NUMBERS_END}
use Rattle.wasi_abi.specs.rules.Configs.{Settings}
use Rattle.process_rules.specs.Processes.{ProcessState, Guest}
use Rattle.process_rules.specs.Runs.{Kept, Wants, next_of}
use Rattle.process.specs.declared.stop.ProcessEnd.{ProcessEnd}
use Rattle.process.specs.rules.Values.{ProcessValue, ShowsProcess, ending_of}
use Rattle.state_image.specs.rules.ProcessImage.{Saved}
use Rattle.sector_disk.specs.declared.fault.DiskFault.{DiskFault}
use Rattle.sector_disk.specs.rules.DiskImage.{DiskImage}
use Rattle.sector_disk.specs.rules.Medium.{CallsUpTo, Medium, SyncsMedium}
use Rattle.disk_layout.specs.rules.Stored.{OnlyReads}
use Rattle.worker_store.specs.restart_theorem.Stands.{StandsFor}
use Rattle.worker_store.specs.restart_theorem.Successions.{IsAtRest}
use Rattle.worker_store.specs.laws.Savepoints.{point_of}
use Rattle.worker_store.proofs.LawLemmas.Points.{is_at_its_savepoint}
use Rattle.worker.specs.declared.fault.WorkFault.TheVariants.{Disk}
use Rattle.worker.specs.declared.found.Found.{Found}
use Rattle.worker.specs.declared.handover.Handover.{Handover}
use Rattle.worker.specs.declared.leave_fault.LeaveFault.{LeaveFault}
use Rattle.worker.specs.declared.leave_fault.LeaveFault.TheVariants.{NotParked, StepsSpent, Recover}
use Rattle.worker.specs.declared.recover_fault.RecoverFault.{RecoverFault}
use Rattle.worker.specs.declared.recover_fault.RecoverFault.TheVariants as recover
use Rattle.worker.specs.rules.Questions.{HasQuestion}
use Rattle.worker.specs.rules.ShownDisks.{HoldsWorker}
use Rattle.worker.specs.rules.Successions.{IsParked, handed_over, HandsOverIn, HandsOverAt}
use Rattle.worker.specs.rules.Successions.{IsFaultOfDisk, ReadsLegacy}
use Rattle.worker.specs.Findings.{FindsOne, FindsWorker, HasSearchCause, IsFoundAt}
use Rattle.worker.specs.FoundDisks.{FindsIn, IsFoundIn}
use Rattle.worker.specs.Succeeding.{HandsOverFound, IsFoundAtWork, IsFoundParked, asks_request}
use Rattle.worker.proofs.AnswerLemmas.{found_there, held_in, shows_saved}
use Rattle.worker.proofs.RecoveryLemmas.Results.{is_just_synced, sync_faulted}

-- ---- a process at rest

pub runs_on : (v : ProcessValue) (reached : Option ProcessEnd)
    → option_map ending_of reached ≡ v.ended → is_some reached ≡ false → v.ended ≡ None
runs_on v (Some how) ended none = let no : true ≡ false = none in absurd (cc)
runs_on v None ended none = sym ended

-- one that asks for something else isn't
works_on : (guest : Guest) (p : ProcessState) (q : Question) → p.ended ≡ None
    → next_of guest p None ≡ Wants q → (question.Request ≡ q → ⊥) → IsAtRest guest p → ⊥
works_on guest p q running wants other (inl ended) = ended running
works_on guest p q running wants other (inr request) =
    let same : question.Request ≡ q = cc in other same

-- nor is one that asks for nothing
works_alone : (guest : Guest) (p : ProcessState) → p.ended ≡ None → HasQuestion guest p None
    → IsAtRest guest p → ⊥
works_alone guest p running none (inl ended) = ended running
works_alone guest p running none (inr request) =
    none running answer.End (question.Request, request, tt)

told_no : (P : Type 0) → (P → ⊥) → IsTrue false ↔ P
told_no P none = (λ (no : false ≡ true). absurd (cc), λ is. absurd (none is))

-- one that runs is at rest exactly where it asks for a request
pub asking_rests : (v : ProcessValue) (asked : Option Question) → v.ended ≡ None → (guest : Guest)
    (p : ProcessState) → ShowsProcess v guest p → HasQuestion guest p asked
    → IsTrue (asks_request asked) ↔ IsAtRest guest p
asking_rests v (Some question.Request) running guest p shows has =
    (λ yes. inr has.1, λ rest. refl)
asking_rests v (Some question.Realtime) running guest p shows has =
    told_no (IsAtRest guest p) (works_on guest p question.Realtime has.0 has.1
    (λ (same : question.Request ≡ question.Realtime). cc))
asking_rests v (Some question.Monotonic) running guest p shows has =
    told_no (IsAtRest guest p) (works_on guest p question.Monotonic has.0 has.1
    (λ (same : question.Request ≡ question.Monotonic). cc))
asking_rests v (Some (question.Random count)) running guest p shows has =
    told_no (IsAtRest guest p) (works_on guest p (question.Random count) has.0 has.1
    (λ (same : question.Request ≡ question.Random count). cc))
asking_rests v None running guest p shows has =
    told_no (IsAtRest guest p) (works_alone guest p (sym shows.ended ∙ running) has)

-- ---- what was found

-- none that it shows is at rest, where a test says so
pub works_where_told : (found : Found) (told : Bool)
    → ((guest : Guest) (p : ProcessState) → ShowsProcess found.process guest p
    → IsTrue told ↔ IsAtRest guest p) → told ≡ false → IsFoundAtWork found
works_where_told found told rests denied =
    inr (λ guest p shows rest.
    not_both told denied (let both = rests guest p shows in both.1 rest))
  where
    not_both : (b : Bool) → b ≡ false → b ≡ true → ⊥
    not_both b denied granted = true≢false (sym granted ∙ denied)

module _ (sectors : ℕ) (disk : DiskImage) (found : Found) (at : IsFoundIn sectors disk found) where
  abbrev held : HoldsWorker sectors disk
  held = held_in sectors disk found at

  shows : ShowsProcess found.process held.well_typed.guest held.well_typed.process
  shows = shows_saved sectors disk found at

  parked_in : IsFoundParked found
      → IsParked held.records held.well_typed.guest held.well_typed.process
  parked_in parked = record {
    no_records = parked.no_records;
    at_rest = parked.at_rest held.well_typed.guest held.well_typed.process shows;
  }

  at_work_in : IsFoundAtWork found
      → IsParked held.records held.well_typed.guest held.well_typed.process → ⊥
  at_work_in (inl some) parked = some parked.no_records
  at_work_in (inr works) parked =
      works held.well_typed.guest held.well_typed.process shows parked.at_rest

  pub hands_over_in : (result : Result Handover LeaveFault) → HandsOverFound found result
      → HandsOverIn sectors disk result
  hands_over_in (Ok told) hands = (held, parked_in hands.0, hands.1)
  hands_over_in (Err NotParked) hands = (held, at_work_in hands)
  hands_over_in (Err StepsSpent) hands = (held, parked_in hands.0, hands.1)
  hands_over_in (Err (Recover why)) hands = absurd hands

module _ {disk : DiskImage} {m : Module} {config : Settings} {kept : List Kept} {n : ℕ}
    (wasm : List ℕ) (stands : StandsFor disk m config kept n) (found : Found)
    (at : IsFoundAt wasm (point_of stands) stands.records found) where
  parked_at : IsFoundParked found
      → IsParked stands.records stands.reached.guest stands.process
  parked_at parked = record {
    no_records = sym at.records_are ∙ parked.no_records;
    at_rest = parked.at_rest stands.reached.guest stands.process at.shows;
  }

  at_work_at : IsFoundAtWork found
      → IsParked stands.records stands.reached.guest stands.process → ⊥
  at_work_at (inl some) parked = some (at.records_are ∙ parked.no_records)
  at_work_at (inr works) parked =
      works stands.reached.guest stands.process at.shows parked.at_rest

  pub hands_over_at : (result : Result Handover LeaveFault) → HandsOverFound found result
      → HandsOverAt stands result
  hands_over_at (Ok told) hands = (
    parked_at hands.0,
    hands.1 ∙ ap (λ (s : Saved). handed_over s) at.saved,
  )
  hands_over_at (Err NotParked) hands = at_work_at hands
  hands_over_at (Err StepsSpent) hands = (
    parked_at hands.0,
    subst (λ (s : Saved). NUMBERS_END ≤ s.steps + 1) at.saved hands.1,
  )
  hands_over_at (Err (Recover why)) hands = absurd hands

-- what was found is no fault of the disk
no_fault : (found : Found) (result : Result Handover LeaveFault) (old new : Medium)
    → HandsOverFound found result → IsFaultOfDisk result old new
no_fault found (Ok told) old new hands = λ fault is. absurd (cc)
no_fault found (Err NotParked) old new hands = λ fault is. absurd (cc)
no_fault found (Err StepsSpent) old new hands = λ fault is. absurd (cc)
no_fault found (Err (Recover why)) old new hands = absurd hands

-- ---- the disk couldn't be synced

pub failed_sync_hands : {T : Type 0} (old new : Medium) (fault : DiskFault) (why : RecoverFault)
    → SyncsMedium {T = T} (Err fault) old new → why ≡ recover.Worker (Disk fault)
    → ReadsLegacy (Err (Recover why)) old new
failed_sync_hands old new fault why syncs is =
    let calls = syncs.calls in
    inl (
      why,
      refl,
      record {
        fault = fault;
        is = ap (λ e. Err e) is;
        stays = syncs.stays;
        calls = calls.begun;
        faulted = sync_faulted old new fault syncs;
        none_told = refl;
      },
    )

-- ---- it was, and then it was read

module _ {T : Type 0} (old sync new : Medium) (done : T)
    (syncs : SyncsMedium {T = T} (Ok done) old sync) (reads : OnlyReads sync new)
    (few : CallsUpTo (2 * sync.sectors) sync new) where
  finds_there : (result : Result Found RecoverFault) (one : FindsOne sync.sectors new result)
      → (image : DiskImage) → new.shows image → FindsWorker old.sectors one.0 image result
  finds_there result one =
      let passes = syncs.passes in
      subst (λ n. (image : DiskImage) → new.shows image → FindsWorker n one.0 image result)
      passes.sectors one.1

  -- no worker was found
  pub unfound_hands : (why : RecoverFault) (one : FindsOne sync.sectors new (Err why))
      → HasSearchCause sync new why
      → ((image : DiskImage) → new.shows image → FindsIn sync.sectors image (Err why))
      → ReadsLegacy (Err (Recover why)) old new
  unfound_hands why one cause shown = inr (
    is_just_synced old sync new done syncs reads few,
    λ fault is. (let same : why ≡ recover.Worker (Disk fault) = cc in
        since old.faults sync.faults new.faults earlier
        (subst (λ (e : RecoverFault). HasSearchCause sync new e) same cause)),
    λ image shows. record {
      shown = found_there old sync new done syncs (Err why) shown image shows;
      stands = λ m config kept n stands room.
          finds_there (Err why) one image shows m config (point_of stands) stands.records
          stands.last (is_at_its_savepoint image m config kept n stands) room;
    },
  )
    where
      earlier : old.faults ≤ sync.faults
      earlier = (let passes = syncs.passes in passes.faults)

      since : (a b c : ℕ) → a ≤ b → b < c → a < c
      since a b c x y = omega (arith, x, y)

  -- one was
  pub found_hands : (found : Found) (one : FindsOne sync.sectors new (Ok found))
      → ((image : DiskImage) → new.shows image → FindsIn sync.sectors image (Ok found))
      → (result : Result Handover LeaveFault) → HandsOverFound found result
      → ReadsLegacy result old new
  found_hands found one shown result hands = inr (
    is_just_synced old sync new done syncs reads few,
    no_fault found result old new hands,
    λ image shows. record {
      shown = hands_over_in old.sectors image found
          (found_there old sync new done syncs (Ok found) shown image shows) result hands;
      stands = λ m config kept n stands room.
          hands_over_at one.0 stands found
          (finds_there (Ok found) one image shows m config (point_of stands) stands.records
          stands.last (is_at_its_savepoint image m config kept n stands) room) result hands;
    },
  )
