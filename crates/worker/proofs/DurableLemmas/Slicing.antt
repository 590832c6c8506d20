-- What holds between two turns of a slice of a worker on its disk.
use Rattle.std.proofs.Common.{◌≡◌, ℕ, ◌-◌, ◌<◌, refl, sym, ap, ◌∙◌, subst, Bool, true, false, Ok}
use Rattle.std.proofs.Common.{Err, []}
use Rattle.std.specs.Prelude.{Result, IfOk}
use Rattle.wasi_abi.specs.declared.answer.Question.{Question}
use Rattle.process.specs.declared.fault.ProcessFault.{ProcessFault}
use Rattle.process.specs.declared.stop.ProcessEnd.{ProcessEnd}
use Rattle.process.specs.declared.stop.Stop.TheVariants as stops
use Rattle.process.specs.rules.Values.{ProcessValue, IsProcess, waiting_in}
use Rattle.process.specs.rules.Stops.{AdvancesProcess}
use Rattle.sector_disk.specs.rules.Medium.{Medium, CallsUpTo}
use Rattle.record_replay.specs.rules.Calls.{Giving, Taking, ports}
use Rattle.record_replay.specs.rules.Waiting.{ReleasesAll}
use Rattle.record_replay.proofs.Emitted.{released_none, released_steps}
use Rattle.record_replay.specs.declared.slices.now.Now.TheVariants as now
use Rattle.worker.specs.declared.fault.WorkFault.{WorkFault}
use Rattle.worker.specs.declared.fault.WorkFault.TheVariants.{Work}
use Rattle.worker.specs.declared.running_worker.RunningWorker.{RunningWorker}
use Rattle.record_replay.specs.rules.Refusals.{slice_fault}
use Rattle.record_replay.specs.rules.Slices.{Slices}
use Rattle.record_replay.specs.Turns.{working, AsksOnce}
use Rattle.worker.specs.rules.Scenes.{scene}
use Rattle.worker.specs.DurableTurns.{Hears, FlushesTurn, AsksTurn, WorksOn}
use Rattle.worker.specs.DurableTurns.{IsFlushFault, IsAskFault, asking_scene}
use Rattle.worker.specs.StoreTurns.{StoreGoes, StoreStops, StoreRuns, PaysCalls, LeavesStore}
use Rattle.worker.specs.rules.CallCounts.{most_saving}
use Rattle.worker.specs.rules.DurableFailures.{SlicesOnDiskInVain}
use Rattle.record_replay.proofs.Ending.{measure, Turning, turning_none, owes, owes_less, asks}
use Rattle.record_replay.proofs.Ending.{asks_counts, released_all, waiting, given, stays_waiting}
use Rattle.record_replay.proofs.Ending.{given_less, Questioning, cannot_advance}
use Rattle.worker.proofs.DurableLemmas.InVain.{as_on_disk, flushed_vainly, asked_vainly}
use Rattle.worker.proofs.DurableLemmas.Asking.{asks_once_of}
use Rattle.worker.proofs.DurableLemmas.Advancing.{with_process, says_abreast}
use Rattle.worker.proofs.StoreTurnLemmas.{goes_none, goes_join, goes_stop, runs_join, process_cause}
use Rattle.worker.proofs.DurableLemmas.Working.{SoFar, so_far_none, works_spent, works_over}
use Rattle.worker.proofs.DurableLemmas.Working.{works_in_vain, works_flushed, works_unflushed}
use Rattle.worker.proofs.DurableLemmas.Working.{works_given, works_waiting, works_unasked}

-- where the source has answered, or has none
pub once_if_ok : {S : Type 0} (gives : Giving S) (old mid new : RunningWorker)
    (question : Question) (step : ℕ) (result : Result Bool WorkFault) (source source' : S)
    → mid.process ≡ old.process → Hears gives mid question step result new source source'
    → IfOk result (λ b. AsksOnce gives question old.process (Ok b) new.process source source')
once_if_ok gives old mid new question step (Ok b) source source' same h =
    asks_once_of gives old mid new question step b source source' same h
once_if_ok gives old mid new question step (Err why) source source' same h = tt

module _ {D S O : Type 0} (medium : D → Medium) (gives : Giving S) (takes : Taking O) where
  -- it goes on, with and without its disk
  pub record InSlice (old w : RunningWorker) (fuel first : ℕ) (disk disk' : D) (source source' : S)
      (outlet outlet' : O) : Type 0 where
    pub turning : Turning gives takes old.process w.process fuel first source source' outlet
        outlet'
    pub so_far : SoFar medium gives takes old fuel w disk disk' source source' outlet outlet'
    pub goes : StoreGoes old.store w.store (medium disk) (medium disk')
    pub places : w.store.geometry ≡ old.store.geometry
    pub sectors : (medium disk').sectors ≡ (medium disk).sectors

  pub in_slice_none : (w : RunningWorker) (fuel first : ℕ) (disk : D) (source : S) (outlet : O)
      → waiting_in w.process ≡ [] → IsProcess w.process → first ≡ w.process.steps
      → InSlice w w fuel first disk disk source source outlet outlet
  in_slice_none w fuel first disk source outlet none_waits is first_is = record {
    turning = turning_none gives takes w.process fuel first source outlet none_waits is first_is;
    so_far = so_far_none medium gives takes w fuel disk source outlet;
    goes = goes_none w.store (medium disk);
    places = refl;
    sectors = refl;
  }

  module _ (old w : RunningWorker) (v : ProcessValue) (fuel first fuel_left : ℕ)
      (disk mid : D) (s t : S) (o q : O) (i : InSlice old w fuel first disk mid s t o q)
      (fuel_left_is : fuel_left ≡ fuel - (w.process.steps - first))
      (same : v.host.released ≡ w.process.host.released)
      (same_guest : v.machine.guest ≡ w.process.machine.guest) where
    fuel_left_there : fuel_left ≡ fuel - (w.process.steps - old.process.steps)
    fuel_left_there =
        let turning = i.turning in
        fuel_left_is ∙ ap (λ n. fuel - (w.process.steps - n)) turning.first_is

    pub spent_on : AdvancesProcess w.process fuel_left (Ok stops.Spent) v
        → WorksOn medium gives takes fuel (scene old disk s o) (Ok now.Spent)
        (scene (with_process w v) mid t q)
    spent_on advances =
        works_spent medium gives takes old w v fuel fuel_left disk mid s t o q i.so_far
        fuel_left_there same same_guest i.sectors advances

    pub over_on : (how : ProcessEnd) → AdvancesProcess w.process fuel_left (Ok (stops.Ended how)) v
        → WorksOn medium gives takes fuel (scene old disk s o) (Ok (now.Ended how))
        (scene (says_abreast (with_process w v)) mid t q)
    over_on how advances =
        works_over medium gives takes old w v fuel fuel_left disk mid s t o q i.so_far
        fuel_left_there same same_guest i.sectors how advances

    pub vain_on : (why : ProcessFault) → AdvancesProcess w.process fuel_left (Err why) v
        → WorksOn medium gives takes fuel (scene old disk s o) (Err (Work (slice_fault why)))
        (scene (with_process w v) mid t q)
    vain_on why advances =
        works_in_vain medium gives takes old w v fuel fuel_left disk mid s t o q i.so_far
        fuel_left_there same same_guest i.sectors why advances

    pub vain_stops : (why : ProcessFault)
        → StoreStops old.store w.store (Work (slice_fault why)) (medium disk) (medium mid)
    vain_stops why =
        goes_stop old.store w.store (medium disk) (medium mid) i.goes (Work (slice_fault why))
        (process_cause old.store (medium disk) (medium mid) why)

    -- what comes after the turns so far
    pub turn_runs : {T : Type 0} (w' : RunningWorker) (disk' : D) (result : Result T WorkFault)
        → StoreRuns result w.store w'.store (medium mid) (medium disk')
        → StoreRuns result old.store w'.store (medium disk) (medium disk')
    turn_runs w' disk' result runs =
        runs_join old.store w.store (medium disk) (medium mid) i.goes w'.store result
        (medium disk') runs

    -- as a worker without a disk
    pub vain_so_far : (why : ProcessFault) → AdvancesProcess w.process fuel_left (Err why) v
        → SlicesOnDiskInVain gives takes old.process fuel (Work (slice_fault why)) v (ports s o)
        (ports t q)
    vain_so_far why advances =
        as_on_disk gives takes old.process v fuel why s t o q
        (cannot_advance gives takes old.process w.process v fuel first fuel_left s t o q i.turning
        fuel_left_is same why advances)

    module _ (advances : AdvancesProcess w.process fuel_left (Ok stops.Owes) v) (w' : RunningWorker)
        (disk' : D) (r : O) where
      pub flushed_on : ReleasesAll takes v w'.process q r
          → FlushesTurn takes (with_process w v) (Ok tt) w' (medium mid) (medium disk') q r
          → LeavesStore {T = Unit {0}} (Ok tt) w.store w'.store (medium mid) (medium disk')
          → InSlice old w' fuel first disk disk' s t o r
      flushed_on all flushes leaves = record {
        turning = released_all gives takes old.process v w'.process fuel first s t o q r
            (owes gives takes old.process w.process v fuel first fuel_left s t o q
            i.turning fuel_left_is same advances) all;
        so_far = works_flushed medium gives takes old w v fuel fuel_left disk mid s t o q i.so_far
            fuel_left_there same same_guest i.sectors advances w' disk' r flushes leaves.pays;
        goes = goes_join old.store w.store (medium disk) (medium mid) i.goes w'.store
            (medium disk') leaves.runs;
        places = leaves.places ∙ i.places;
        sectors = leaves.sectors ∙ i.sectors;
      }

      pub flushed_less : ReleasesAll takes v w'.process q r
          → measure fuel first w'.process < measure fuel first w.process
      flushed_less all =
          owes_less gives takes old.process w.process v fuel first fuel_left s t o q
          i.turning fuel_left_is same advances w'.process (released_none takes v w'.process q r all)
          (released_steps takes v w'.process q r all)

      pub unflushed_on : (why : WorkFault)
          → FlushesTurn takes (with_process w v) (Err why) w' (medium mid) (medium disk') q r
          → PaysCalls {T = Unit {0}} (Err why) w.store w'.store (medium mid) (medium disk')
          → WorksOn medium gives takes fuel (scene old disk s o) (Err why) (scene w' disk' t r)
      unflushed_on why flushes pays =
          works_unflushed medium gives takes old w v fuel fuel_left disk mid s t o q i.so_far
          fuel_left_there same same_guest i.sectors advances w' disk' r why flushes pays

      pub unflushed_so_far : (why : WorkFault) → IsFlushFault takes v why w'.process q r
          → SlicesOnDiskInVain gives takes old.process fuel why w'.process (ports s o)
          (ports t r)
      unflushed_so_far why vain =
          flushed_vainly gives takes old.process v fuel first s t o q
          (owes gives takes old.process w.process v fuel first fuel_left s t o q i.turning
          fuel_left_is same advances) why w'.process r vain

    module _ (question : Question) (advances : AdvancesProcess w.process fuel_left
        (Ok (stops.Asks question)) v) (w' : RunningWorker) (disk' : D) (u : S) where
      questioning : Questioning gives takes old.process v fuel first s t o q question
      questioning =
          asks gives takes old.process w.process v fuel first fuel_left s t o q i.turning
          fuel_left_is same question advances

      pub given_on : AsksOnce gives question v (Ok true) w'.process t u
          → w'.process.host.released ≡ v.host.released
          → AsksTurn medium gives question (asking_scene (with_process w v) mid t) (Ok true)
          (asking_scene w' disk' u)
          → StoreGoes w.store w'.store (medium mid) (medium disk')
          → w'.store.geometry ≡ w.store.geometry → (medium disk').sectors ≡ (medium mid).sectors
          → CallsUpTo (most_saving (medium mid).sectors) (medium mid) (medium disk')
          → InSlice old w' fuel first disk disk' s u o q
      given_on once still asked goes places sectors few = record {
        turning = given gives takes old.process v w'.process fuel first s t u o q question
            questioning once still;
        so_far = works_given medium gives takes old w v fuel fuel_left disk mid s t o q i.so_far
            fuel_left_there same same_guest i.sectors question advances w' disk' u few asked;
        goes = goes_join old.store w.store (medium disk) (medium mid) i.goes w'.store
            (medium disk') goes;
        places = places ∙ i.places;
        sectors = sectors ∙ i.sectors;
      }

      pub given_lower : AsksOnce gives question v (Ok true) w'.process t u
          → measure fuel first w'.process < measure fuel first w.process
      given_lower once =
          given_less gives takes old.process v w'.process fuel first s t u o q question
          questioning once w.process
          (asks_counts gives takes old.process w.process v fuel first fuel_left s t o q
          i.turning fuel_left_is same question advances)

      pub waits_done : AsksOnce gives question v (Ok false) w'.process t u
          → Slices gives takes (working old.process) fuel now.Waiting (working w'.process)
          (ports s o) (ports u q)
      waits_done once =
          waiting gives takes old.process v w'.process fuel first s t u o q question
          questioning once

      -- where the source has no answer, the process is as it was
      pub waits_shown : AsksOnce gives question v (Ok false) w'.process t u → IsProcess v
          → IsProcess w'.process
      waits_shown once is =
          subst IsProcess
          (sym (stays_waiting gives takes old.process v w'.process fuel first s t u o q question
          questioning once)) is

      pub waits_on : AsksTurn medium gives question (asking_scene (with_process w v) mid t)
          (Ok false) (asking_scene w' disk' u)
          → CallsUpTo (most_saving (medium mid).sectors) (medium mid) (medium disk')
          → WorksOn medium gives takes fuel (scene old disk s o) (Ok now.Waiting)
          (scene w' disk' u q)
      waits_on asked few =
          works_waiting medium gives takes old w v fuel fuel_left disk mid s t o q i.so_far
          fuel_left_there same same_guest i.sectors question advances w' disk' u few asked

      pub unasked_on : (why : WorkFault)
          → AsksTurn medium gives question (asking_scene (with_process w v) mid t) (Err why)
          (asking_scene w' disk' u)
          → CallsUpTo (most_saving (medium mid).sectors) (medium mid) (medium disk')
          → WorksOn medium gives takes fuel (scene old disk s o) (Err why) (scene w' disk' u q)
      unasked_on why asked few =
          works_unasked medium gives takes old w v fuel fuel_left disk mid s t o q i.so_far
          fuel_left_there same same_guest i.sectors question advances w' disk' u few why asked

      pub unasked_so_far : (why : WorkFault)
          → IsAskFault gives (with_process w v) question why w' t u
          → SlicesOnDiskInVain gives takes old.process fuel why w'.process (ports s o)
          (ports u q)
      unasked_so_far why vain =
          asked_vainly gives takes old.process v fuel first s t o q question questioning
          (with_process w v) w' why u refl vain
