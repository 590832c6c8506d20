-- What holds between two turns of a batch of a worker on its disk.
use Rattle.std.proofs.Common.{◌≡◌, ℕ, ◌+◌, ◌-◌, ◌<◌, ◌≤◌, List, [], ◌++◌, length, refl, sym, ap}
use Rattle.std.proofs.Common.{◌∙◌, subst, arith, inl, inr, ◌⊎◌, true, false, Ok, Err, append_assoc}
use Rattle.std.specs.Prelude.{Result, IfErr, ◌≢◌}
use Rattle.std.proofs.lemmas.List.{append-nil, drop_all, map-append}
use Rattle.wasi_abi.specs.declared.answer.Question.{Question}
use Rattle.wasi_calls.specs.rules.Held.{held_released}
use Rattle.process.specs.declared.fault.ProcessFault.{ProcessFault}
use Rattle.process.specs.declared.fault.ProcessFault.TheVariants as stop
use Rattle.process.specs.declared.stop.ProcessEnd.{ProcessEnd}
use Rattle.process.specs.declared.stop.Stop.TheVariants as stops
use Rattle.process.specs.rules.Values.{HasReleased, ProcessValue, IsProcess, waiting_in}
use Rattle.process.specs.rules.Stops.{AdvancesProcess}
use Rattle.sector_disk.specs.rules.Medium.{Medium, CallsUpTo}
use Rattle.record_replay.specs.declared.line_list.NumberedLine.{NumberedLine}
use Rattle.record_replay.specs.rules.Calls.{Giving, Taking, Begun, Released, Releases, all_taken}
use Rattle.record_replay.specs.rules.Calls.{ports}
use Rattle.record_replay.specs.rules.Waiting.{first_waiting, ReleasesAll}
use Rattle.record_replay.proofs.Following.{leads_join}
use Rattle.record_replay.specs.declared.slices.now.Now.{Now}
use Rattle.record_replay.specs.declared.slices.now.Now.TheVariants as now
use Rattle.record_replay.specs.declared.slices.fault.SliceFault.TheVariants as slice
use Rattle.record_replay.specs.rules.Refusals.{slice_fault}
use Rattle.record_replay.specs.Turns.{AsksOnce}
use Rattle.record_replay.proofs.Ending.{measure, Turning, turning_none, owes, owes_less, asks}
use Rattle.record_replay.proofs.Ending.{asks_counts, released_all, waiting, given, stays_waiting}
use Rattle.record_replay.proofs.Ending.{given_less, Questioning, cannot_advance, spent, over}
use Rattle.worker_store.specs.restart_theorem.Lives.{Batch}
use Rattle.worker.specs.declared.fault.WorkFault.{WorkFault}
use Rattle.worker.specs.declared.fault.WorkFault.TheVariants.{Work}
use Rattle.worker.specs.declared.running_worker.RunningWorker.{RunningWorker}
use Rattle.worker.specs.rules.Batches.{keeping, taking, BatchFails}
use Rattle.worker.specs.rules.CallCounts.{most_saving}
use Rattle.worker.specs.rules.DurableFailures.{SlicesOnDiskInVain}
use Rattle.worker.specs.rules.Scenes.{SceneOf, scene}
use Rattle.worker.specs.DurableTurns.{to_tell, HoldsNoLine, running_on, asking_scene, telling_scene}
use Rattle.worker.specs.BatchTurns.{held_as_begun, HasEnded, HoldsLines, TellsQueue, FailsQueue}
use Rattle.worker.specs.BatchTurns.{HoldsOrTells, FreesOrTells, StopsInBatch, Holding}
use Rattle.worker.specs.BatchTurns.{WorksInBatch, AsksHolding, AsksThenFails, StopsAt, holding}
use Rattle.worker.specs.StoreTurns.{StoreGoes, StoreStops, HasTurnCause, LeavesStore}
use Rattle.worker.proofs.StoreTurnLemmas.{goes_none, goes_join, stops_join, process_cause}
use Rattle.worker.proofs.DurableLemmas.InVain.{as_on_disk, asked_vainly as heard_vainly}
use Rattle.worker.proofs.DurableLemmas.Advancing.{with_process, says_abreast}
use Rattle.worker.proofs.DurableLemmas.Batching.{BatchSoFar, BatchFailed}
use Rattle.worker.proofs.DurableLemmas.Batching.{batch_begins, owing_now, holding_now, asking_now}
use Rattle.worker.proofs.DurableLemmas.Batching.{spent_now, over_now, vain_now, owing_told}
use Rattle.worker.proofs.DurableLemmas.Batching.{owing_untold, asking_told, asking_untold, asked_on}
use Rattle.worker.proofs.DurableLemmas.Batching.{asked_none, asked_fault, asked_vainly}
use Rattle.worker.proofs.DurableLemmas.BatchParts.{RunsAt, AsksAt}
use Rattle.worker.proofs.DurableLemmas.Queueing.{kept_behind, kept_taken, keep_all, taken_all}
use Rattle.worker.proofs.DurableLemmas.Queueing.{length_held, numbered_all, slices_stop}
use Rattle.worker.proofs.DurableLemmas.Queueing.{source_stops, memory_stops_it, numbers_stop_it}
use Rattle.worker.proofs.DurableLemmas.BatchFaults.{untold_so, asked_so, still_empty}

-- ---- lines that were handed over

pub released_gone : (v w : ProcessValue) → HasReleased (length (waiting_in v)) v w
    → waiting_in w ≡ []
released_gone v w released =
    ap waiting_in released.is
    ∙ drop_all (length (waiting_in v)) (waiting_in v) (omega arith)

released_steps : (v w : ProcessValue) → HasReleased (length (waiting_in v)) v w
    → w.steps ≡ v.steps
released_steps v w released = ap (λ (z : ProcessValue). z.steps) released.is

one_more_none : (n : ℕ) → n + 0 ≡ n
one_more_none n = omega arith

-- where none waits, nothing is changed
pub nothing_released : (v w : ProcessValue) → waiting_in v ≡ []
    → HasReleased (length (waiting_in v)) v w → w ≡ v
nothing_released v w empty released =
    released.is
    ∙ ap (λ (n : ℕ). record v { host = held_released n v.host }) (ap (λ l. length l) empty)
    ∙ ap (λ (k : ℕ). record v { host = record v.host { released = k } })
    (one_more_none v.host.released)

ok_is_none : (x : Now) → ◌≢◌ {A = Result Now WorkFault} (Ok x) (Err (Work slice.Outlet))
ok_is_none x e = absurd (cc)

no_line : (most : ℕ) → 0 ≤ most - 1
no_line most = omega arith

-- the fault of a process is none of an outlet
vain_not : (why : ProcessFault) → ◌≢◌ {A = Result Now WorkFault} (Err (Work (slice_fault why)))
    (Err (Work slice.Outlet))
vain_not stop.WrongAnswer e = absurd (cc)
vain_not stop.Memory e = absurd (cc)
vain_not stop.StepsSpent e = absurd (cc)

source_not : ◌≢◌ {A = Result Now WorkFault} (Err (Work slice.Source)) (Err (Work slice.Outlet))
source_not e = absurd (cc)

module _ {D S O : Type 0} (medium : D → Medium) (gives : Giving S) (takes : Taking O) where
  -- Lines were told, and others are held. So far it is a slice whose lines go to a list.
  pub record InBatch (old w : RunningWorker) (fuel most first : ℕ) (lines : List NumberedLine)
      (disk disk' : D) (source source' : S) (outlet outlet' : O) : Type 0 where
    pub told : List NumberedLine
    pub kept : List NumberedLine
    pub kept_is : kept ≡ told ++ lines
    pub turning : Turning gives keeping old.process w.process fuel first source source' [] kept
    pub released : Releases takes outlet (held_as_begun told) outlet'
    pub few : length lines ≤ most - 1
    pub so_far : BatchSoFar medium gives takes old fuel most
        (RunsAt (held_as_begun lines) w (medium disk')) w disk disk' source source' outlet outlet'
    pub goes : StoreGoes old.store w.store (medium disk) (medium disk')
    pub places : w.store.geometry ≡ old.store.geometry
    pub sectors : (medium disk').sectors ≡ (medium disk).sectors

  pub in_batch_none : (w : RunningWorker) (fuel most first : ℕ) (lines : List NumberedLine)
      (disk : D) (source : S) (outlet : O) → lines ≡ [] → waiting_in w.process ≡ []
      → IsProcess w.process → first ≡ w.process.steps
      → InBatch w w fuel most first lines disk disk source source outlet outlet
  in_batch_none w fuel most first lines disk source outlet none none_waits is first_is =
      subst (λ z. InBatch w w fuel most first z disk disk source source outlet outlet) (sym none)
      (record {
        told = [];
        kept = [];
        kept_is = refl;
        turning = turning_none gives keeping w.process fuel first source [] none_waits is first_is;
        released = refl;
        few = no_line most;
        so_far = batch_begins medium gives takes w fuel most disk source outlet;
        goes = goes_none w.store (medium disk);
        places = refl;
        sectors = refl;
      })

  -- ---- it has stopped

  leaves_so : (old w : RunningWorker) (fuel most : ℕ) (result : Result Now WorkFault)
      (told kept lines : List NumberedLine) (disk mid : D) (s t : S) (o q : O)
      → ◌≢◌ {A = Result Now WorkFault} result (Err (Work slice.Outlet))
      → BatchSoFar medium gives takes old fuel most
      (StopsAt medium result (running_on (held_as_begun lines) w (medium mid))) w disk mid s t o q
      → kept ≡ told ++ lines → Releases takes o (held_as_begun told) q
      → StopsInBatch gives old.process fuel result w.process s t kept
      → StoreGoes old.store w.store (medium disk) (medium mid)
      → IfErr result (λ why. (later : D) → HasTurnCause old.store (medium disk) (medium later) why)
      → WorksInBatch medium gives takes (Batch fuel most) (scene old disk s o) result
      (scene (holding w lines) mid t q)
  leaves_so old w fuel most result told kept lines disk mid s t o q other so_far kept_is released
      stop goes cause = (
        so_far.0,
        so_far.1,
        inr (
          other,
          so_far.2,
          so_far.3,
          (
            told,
            released,
            subst (λ z. StopsInBatch gives old.process fuel result w.process s t z) kept_is stop,
          ),
          goes,
          cause,
        ),
      )

  fails_so : (old w : RunningWorker) (fuel most : ℕ) (why : WorkFault) (lines : List NumberedLine)
      (disk mid : D) (s t : S) (o q : O) → HasEnded why w
      → BatchFailed medium gives takes old fuel most why w disk mid s t o q
      → BatchFails gives takes old.process fuel why w.process (ports s o) (ports t q)
      → StoreStops old.store w.store why (medium disk) (medium mid)
      → WorksInBatch medium gives takes (Batch fuel most) (scene old disk s o) (Err why)
      (scene (holding w lines) mid t q)
  fails_so old w fuel most why lines disk mid s t o q ended failed fails stopped =
      (failed.0, failed.1, inl (why, refl, (ended, failed.2, failed.3, fails, stopped)))

  -- ---- its turns

  module _ (old w : RunningWorker) (v : ProcessValue) (fuel most first fuel_left : ℕ)
      (lines : List NumberedLine) (disk mid : D) (s t : S) (o q : O)
      (i : InBatch old w fuel most first lines disk mid s t o q)
      (fuel_left_is : fuel_left ≡ fuel - (w.process.steps - first))
      (same : v.host.released ≡ w.process.host.released)
      (same_guest : v.machine.guest ≡ w.process.machine.guest) where
    fuel_left_there : fuel_left ≡ fuel - (w.process.steps - old.process.steps)
    fuel_left_there =
        let turning = i.turning in
        fuel_left_is ∙ ap (λ n. fuel - (w.process.steps - n)) turning.first_is

    pub spent_in : AdvancesProcess w.process fuel_left (Ok stops.Spent) v
        → WorksInBatch medium gives takes (Batch fuel most) (scene old disk s o) (Ok now.Spent)
        (scene (holding (with_process w v) lines) mid t q)
    spent_in advances =
        leaves_so old (with_process w v) fuel most (Ok now.Spent) i.told i.kept lines disk mid s t
        o q (ok_is_none now.Spent)
        (spent_now medium gives takes old fuel most (held_as_begun lines) w v fuel_left disk mid s t
        o q
        i.so_far fuel_left_there same same_guest advances) i.kept_is i.released
        (slices_stop gives old.process v fuel s t i.kept now.Spent
        (spent gives keeping old.process w.process v fuel first fuel_left s t [] i.kept i.turning
        fuel_left_is same advances)) i.goes tt

    pub over_in : (how : ProcessEnd)
        → AdvancesProcess w.process fuel_left (Ok (stops.Ended how)) v
        → WorksInBatch medium gives takes (Batch fuel most) (scene old disk s o)
        (Ok (now.Ended how)) (scene (holding (says_abreast (with_process w v)) lines) mid t q)
    over_in how advances =
        leaves_so old (says_abreast (with_process w v)) fuel most (Ok (now.Ended how)) i.told i.kept
        lines disk mid s t o q (ok_is_none (now.Ended how))
        (over_now medium gives takes old fuel most (held_as_begun lines) w v fuel_left disk mid s t
        o q
        i.so_far fuel_left_there same same_guest how advances) i.kept_is i.released
        (slices_stop gives old.process v fuel s t i.kept (now.Ended how)
        (over gives keeping old.process w.process v fuel first fuel_left s t [] i.kept i.turning
        fuel_left_is same how advances)) i.goes tt

    vain_stop : (why : ProcessFault) → AdvancesProcess w.process fuel_left (Err why) v
        → StopsInBatch gives old.process fuel (Err (Work (slice_fault why))) v s t i.kept
    vain_stop stop.WrongAnswer advances =
        let some = i.turning.some in
        let g = i.turning.goes some.guest some.process some.shows in
        absurd (advances some.guest g.process g.shows)
    vain_stop stop.Memory advances =
        let some = i.turning.some in
        let g = i.turning.goes some.guest some.process some.shows in
        let halt = advances some.guest g.process g.shows in
        let come = halt.1 in
        memory_stops_it gives old.process v fuel s t i.kept come.none_waits
        (as_on_disk gives keeping old.process v fuel stop.Memory s t [] i.kept
        (cannot_advance gives keeping old.process w.process v fuel first fuel_left s t [] i.kept
        i.turning fuel_left_is same stop.Memory advances))
    vain_stop stop.StepsSpent advances =
        let some = i.turning.some in
        let g = i.turning.goes some.guest some.process some.shows in
        let halt = advances some.guest g.process g.shows in
        let come = halt.1 in
        numbers_stop_it gives old.process v fuel s t i.kept come.none_waits
        (as_on_disk gives keeping old.process v fuel stop.StepsSpent s t [] i.kept
        (cannot_advance gives keeping old.process w.process v fuel first fuel_left s t [] i.kept
        i.turning fuel_left_is same stop.StepsSpent advances))

    pub vain_in : (why : ProcessFault) → AdvancesProcess w.process fuel_left (Err why) v
        → WorksInBatch medium gives takes (Batch fuel most) (scene old disk s o)
        (Err (Work (slice_fault why))) (scene (holding (with_process w v) lines) mid t q)
    vain_in why advances =
        leaves_so old (with_process w v) fuel most (Err (Work (slice_fault why))) i.told i.kept
        lines disk mid s t o q (vain_not why)
        (vain_now medium gives takes old fuel most (held_as_begun lines) w v fuel_left disk mid s t
        o q
        i.so_far fuel_left_there same same_guest why advances) i.kept_is i.released
        (vain_stop why advances) i.goes
        (λ later. process_cause old.store (medium disk) (medium later) why)

    -- ---- what is owed

    module _ (advances : AdvancesProcess w.process fuel_left (Ok stops.Owes) v)
        (w' : RunningWorker) where
      owing_turn : Turning gives keeping old.process v fuel first s t [] i.kept
      owing_turn =
          owes gives keeping old.process w.process v fuel first fuel_left s t [] i.kept i.turning
          fuel_left_is same advances

      -- lines are held
      held_on : (lines' : List NumberedLine) → HoldsLines most (holding (with_process w v) lines)
          (holding w' lines')
          → InBatch old w' fuel most first lines' disk mid s t o q
      held_on lines' h =
          let holds = h.holds in
          let begun : List Begun = all_taken (first_waiting v) (waiting_in v) in
          let all : ReleasesAll keeping v w'.process i.kept (i.told ++ lines') = record {
            told = subst (λ z. Releases keeping z begun (i.told ++ lines')) (sym i.kept_is)
                (kept_behind i.told lines lines' begun holds.told);
            released = holds.released;
          } in
          record {
            told = i.told;
            kept = i.told ++ lines';
            kept_is = refl;
            turning = released_all gives keeping old.process v w'.process fuel first s t [] i.kept
                (i.told ++ lines') owing_turn all;
            released = i.released;
            few = h.few;
            so_far = subst (λ z. BatchSoFar medium gives takes old fuel most
                (RunsAt z w' (medium mid)) w' disk mid s t o q)
                (sym (kept_taken (first_waiting v) (waiting_in v) lines lines' holds.told))
                (holding_now medium gives takes old fuel most (held_as_begun lines) w v fuel_left
                disk
                mid s t o q i.so_far fuel_left_there same same_guest advances h.some h.unended w'
                holds.released h.same_store h.same_says);
            goes = subst (λ k. StoreGoes old.store k (medium disk) (medium mid))
                (sym h.same_store) i.goes;
            places = ap (λ k. k.geometry) h.same_store ∙ i.places;
            sectors = i.sectors;
          }

      module _ (disk' : D) (r : O) where
        -- they are told
        told_on : (lines' : List NumberedLine)
            → TellsQueue medium takes (telling_scene (holding (with_process w v) lines) mid q)
            (telling_scene (holding w' lines') disk' r)
            → LeavesStore {T = Unit {0}} (Ok tt) w.store w'.store (medium mid) (medium disk')
            → InBatch old w' fuel most first lines' disk disk' s t o r
        told_on lines' h leaves =
            let tells = h.1 in
            let behind = tells.2 in
            let more : List NumberedLine = numbered_all (first_waiting v) (waiting_in v) in
            let begun : List Begun = all_taken (first_waiting v) (waiting_in v) in
            let to_outlet : Releases takes q (to_tell (held_as_begun lines) v) r =
            leads_join (Released takes) q r tells.0 (held_as_begun lines) begun tells.1 behind.told
            in
            let all : ReleasesAll keeping v w'.process i.kept (i.kept ++ more) = record {
              told = keep_all (first_waiting v) (waiting_in v) i.kept;
              released = behind.released;
            } in
            let are : held_as_begun (i.kept ++ more)
            ≡ held_as_begun i.told ++ to_tell (held_as_begun lines) v =
            map-append taking i.kept more
            ∙ ap (λ z. held_as_begun z ++ held_as_begun more) i.kept_is
            ∙ ap (λ z. z ++ held_as_begun more) (map-append taking i.told lines)
            ∙ append_assoc (held_as_begun i.told) (held_as_begun lines) (held_as_begun more)
            ∙ ap (λ z. held_as_begun i.told ++ (held_as_begun lines ++ z))
            (taken_all (first_waiting v) (waiting_in v)) in
            subst (λ z. InBatch old w' fuel most first z disk disk' s t o r) (sym h.0) (record {
              told = i.kept ++ more;
              kept = i.kept ++ more;
              kept_is = sym (append-nil (i.kept ++ more));
              turning = released_all gives keeping old.process v w'.process fuel first s t []
                  i.kept (i.kept ++ more) owing_turn all;
              released = subst (λ z. Releases takes o z r) (sym are)
                  (leads_join (Released takes) o r q (held_as_begun i.told)
                  (to_tell (held_as_begun lines) v) i.released to_outlet);
              few = no_line most;
              so_far = owing_told medium gives takes old fuel most (held_as_begun lines)
                  (with_process w v) w' disk mid disk' s t o q r
                  (owing_now medium gives takes old fuel most (held_as_begun lines) w v fuel_left
                  disk
                  mid s t o q i.so_far fuel_left_there same same_guest advances) i.sectors
                  to_outlet h.2 leaves.pays;
              goes = goes_join old.store w.store (medium disk) (medium mid) i.goes w'.store
                  (medium disk') leaves.runs;
              places = leaves.places ∙ i.places;
              sectors = leaves.sectors ∙ i.sectors;
            })

        pub owed_in : (lines' : List NumberedLine)
            → HoldsOrTells medium takes most
            (telling_scene (holding (with_process w v) lines) mid q)
            (telling_scene (holding w' lines') disk' r)
            → LeavesStore {T = Unit {0}} (Ok tt) w.store w'.store (medium mid) (medium disk')
            → InBatch old w' fuel most first lines' disk disk' s t o r
        owed_in lines' (inl h) leaves =
            subst (λ d. InBatch old w' fuel most first lines' disk d s t o r) (sym h.1)
            (subst (λ z. InBatch old w' fuel most first lines' disk mid s t o z) (sym h.2)
            (held_on lines' h.0))
        owed_in lines' (inr h) leaves = told_on lines' h leaves

        pub owed_lower : (lines' : List NumberedLine)
            → HoldsOrTells medium takes most
            (telling_scene (holding (with_process w v) lines) mid q)
            (telling_scene (holding w' lines') disk' r)
            → measure fuel first w'.process < measure fuel first w.process
        owed_lower lines' (inl h) =
            let holds = h.0.holds in
            owes_less gives keeping old.process w.process v fuel first fuel_left s t [] i.kept
            i.turning fuel_left_is same advances w'.process
            (released_gone v w'.process holds.released)
            (released_steps v w'.process holds.released)
        owed_lower lines' (inr h) =
            let behind = h.1.2 in
            owes_less gives keeping old.process w.process v fuel first fuel_left s t [] i.kept
            i.turning fuel_left_is same advances w'.process
            (released_gone v w'.process behind.released)
            (released_steps v w'.process behind.released)

        -- they aren't
        pub unowed_in : (lines' : List NumberedLine) (why : WorkFault)
            → FailsQueue medium takes (telling_scene (holding (with_process w v) lines) mid q) why
            (telling_scene w' disk' r)
            → LeavesStore {T = Unit {0}} (Err why) w.store w'.store (medium mid) (medium disk')
            → WorksInBatch medium gives takes (Batch fuel most) (scene old disk s o) (Err why)
            (scene (holding w' lines') disk' t r)
        unowed_in lines' why h leaves =
            fails_so old w' fuel most why lines' disk disk' s t o r h.0
            (owing_untold medium gives takes old fuel most (held_as_begun lines) (with_process w v)
            w'
            disk mid disk' s t o q r
            (owing_now medium gives takes old fuel most (held_as_begun lines) w v fuel_left disk mid
            s t
            o q i.so_far fuel_left_there same same_guest advances) i.sectors why h.2 leaves.pays)
            (untold_so gives takes old.process (with_process w v) w'.process fuel first s t o q r
            i.told i.kept lines i.kept_is owing_turn i.released why h.1)
            (stops_join old.store w.store (medium disk) (medium mid) i.goes w'.store why
            (medium disk') leaves.runs)

  -- ---- questions

  -- the source may be asked
  pub record AtQuestion (old w : RunningWorker) (fuel most first : ℕ) (question : Question)
      (lines : List NumberedLine) (disk disk' : D) (source source' : S) (outlet outlet' : O)
      : Type 0 where
    pub told : List NumberedLine
    pub kept : List NumberedLine
    pub kept_is : kept ≡ told ++ lines
    pub questioning : Questioning gives keeping old.process w.process fuel first source source' []
        kept question
    pub released : Releases takes outlet (held_as_begun told) outlet'
    pub few : length lines ≤ most - 1
    pub so_far : BatchSoFar medium gives takes old fuel most
        (AsksAt question (held_as_begun lines) w (medium disk')) w disk disk' source source' outlet
        outlet'
    pub goes : StoreGoes old.store w.store (medium disk) (medium disk')
    pub places : w.store.geometry ≡ old.store.geometry
    pub sectors : (medium disk').sectors ≡ (medium disk).sectors

  pub asks_in : (old w : RunningWorker) (v : ProcessValue) (fuel most first fuel_left : ℕ)
      (lines : List NumberedLine) (disk mid : D) (s t : S) (o q : O)
      (i : InBatch old w fuel most first lines disk mid s t o q)
      → fuel_left ≡ fuel - (w.process.steps - first)
      → v.host.released ≡ w.process.host.released
      → v.machine.guest ≡ w.process.machine.guest → (question : Question)
      → AdvancesProcess w.process fuel_left (Ok (stops.Asks question)) v
      → AtQuestion old (with_process w v) fuel most first question lines disk mid s t o q
  asks_in old w v fuel most first fuel_left lines disk mid s t o q i fuel_left_is same same_guest
      question advances = record {
        told = i.told;
        kept = i.kept;
        kept_is = i.kept_is;
        questioning = asks gives keeping old.process w.process v fuel first fuel_left s t [] i.kept
            i.turning fuel_left_is same question advances;
        released = i.released;
        few = i.few;
        so_far = asking_now medium gives takes old fuel most (held_as_begun lines) w v fuel_left
            disk mid s t
            o q i.so_far
            (fuel_left_there old w v fuel most first fuel_left lines disk mid s t o q i fuel_left_is
            same same_guest) same same_guest
            (subst (λ n. n ≤ most - 1) (sym (length_held lines)) i.few) question advances;
        goes = i.goes;
        places = i.places;
        sectors = i.sectors;
      }

  -- no step is taken back
  pub asked_counts : (old w : RunningWorker) (v : ProcessValue) (fuel most first fuel_left : ℕ)
      (lines : List NumberedLine) (disk mid : D) (s t : S) (o q : O)
      (i : InBatch old w fuel most first lines disk mid s t o q)
      → fuel_left ≡ fuel - (w.process.steps - first)
      → v.host.released ≡ w.process.host.released → (question : Question)
      → AdvancesProcess w.process fuel_left (Ok (stops.Asks question)) v
      → w.process.steps ≤ v.steps
  asked_counts old w v fuel most first fuel_left lines disk mid s t o q i fuel_left_is same question
      advances =
      asks_counts gives keeping old.process w.process v fuel first fuel_left s t [] i.kept i.turning
      fuel_left_is same question advances

  pub freed_steps : (w w' : RunningWorker) (lines lines' : List NumberedLine) (mid disk' : D)
      (q r : O) → FreesOrTells medium takes (telling_scene (holding w lines) mid q)
      (telling_scene (holding w' lines') disk' r)
      → w'.process.steps ≡ w.process.steps
  freed_steps w w' lines lines' mid disk' q r (inl h) =
      ap (λ (k : SceneOf Holding D (Unit {0}) O). k.worker.running.process.steps) h.1
  freed_steps w w' lines lines' mid disk' q r (inr h) =
      let behind = h.1.2 in released_steps w.process w'.process behind.released

  module _ (old w w' : RunningWorker) (fuel most first : ℕ) (question : Question)
      (lines lines' : List NumberedLine) (disk mid disk' : D) (s t : S) (o q r : O)
      (i : AtQuestion old w fuel most first question lines disk mid s t o q) where
    asked_told : TellsQueue medium takes (telling_scene (holding w lines) mid q)
        (telling_scene (holding w' lines') disk' r)
        → LeavesStore {T = Unit {0}} (Ok tt) w.store w'.store (medium mid) (medium disk')
        → AtQuestion old w' fuel most first question lines' disk disk' s t o r
    asked_told h leaves =
        let tells = h.1 in
        let behind = tells.2 in
        let empty : waiting_in w.process ≡ [] =
        (let questioning = i.questioning in questioning.empty) in
        let stays : w'.process ≡ w.process =
        nothing_released w.process w'.process empty behind.released in
        let begun : List Begun = all_taken (first_waiting w.process) (waiting_in w.process) in
        let to_outlet : Releases takes q (to_tell (held_as_begun lines) w.process) r =
        leads_join (Released takes) q r tells.0 (held_as_begun lines) begun tells.1 behind.told in
        let only : to_tell (held_as_begun lines) w.process ≡ held_as_begun lines =
        ap (λ z. held_as_begun lines ++ all_taken (first_waiting w.process) z) empty
        ∙ append-nil (held_as_begun lines) in
        let are : held_as_begun i.kept ≡ held_as_begun i.told ++ held_as_begun lines =
        ap (λ z. held_as_begun z) i.kept_is ∙ map-append taking i.told lines in
        subst (λ z. AtQuestion old w' fuel most first question z disk disk' s t o r) (sym h.0)
        (record {
          told = i.kept;
          kept = i.kept;
          kept_is = sym (append-nil i.kept);
          questioning = subst (λ z. Questioning gives keeping old.process z fuel first s t [] i.kept
              question) (sym stays) i.questioning;
          released = subst (λ z. Releases takes o z r) (sym are)
              (leads_join (Released takes) o r q (held_as_begun i.told) (held_as_begun lines)
              i.released
              (subst (λ z. Releases takes q z r) only to_outlet));
          few = no_line most;
          so_far = asking_told medium gives takes old fuel most question (held_as_begun lines) w w'
              disk
              mid disk' s t o q r i.so_far i.sectors stays to_outlet h.2 leaves.pays;
          goes = goes_join old.store w.store (medium disk) (medium mid) i.goes w'.store
              (medium disk') leaves.runs;
          places = leaves.places ∙ i.places;
          sectors = leaves.sectors ∙ i.sectors;
        })

    -- lines were told before it, or it is free to be asked
    pub freed_in : FreesOrTells medium takes (telling_scene (holding w lines) mid q)
        (telling_scene (holding w' lines') disk' r)
        → LeavesStore {T = Unit {0}} (Ok tt) w.store w'.store (medium mid) (medium disk')
        → AtQuestion old w' fuel most first question lines' disk disk' s t o r
    freed_in (inl h) leaves =
        subst (λ (k : SceneOf Holding D (Unit {0}) O). AtQuestion old k.worker.running fuel most
        first question k.worker.lines disk k.disk s t o k.outlet) (sym h.1) i
    freed_in (inr h) leaves = asked_told h leaves

    pub free_in : FreesOrTells medium takes (telling_scene (holding w lines) mid q)
        (telling_scene (holding w' lines') disk' r)
        → HoldsNoLine (held_as_begun lines') w'
    free_in (inl h) =
        subst (λ (k : SceneOf Holding D (Unit {0}) O). HoldsNoLine (held_as_begun k.worker.lines)
        k.worker.running) (sym h.1) h.0
    free_in (inr h) = inl (ap (λ z. held_as_begun z) h.0)

    pub unfreed_in : (why : WorkFault)
        → FailsQueue medium takes (telling_scene (holding w lines) mid q) why
        (telling_scene w' disk' r)
        → LeavesStore {T = Unit {0}} (Err why) w.store w'.store (medium mid) (medium disk')
        → WorksInBatch medium gives takes (Batch fuel most) (scene old disk s o) (Err why)
        (scene (holding w' lines') disk' t r)
    unfreed_in why h leaves =
        let questioning = i.questioning in
        fails_so old w' fuel most why lines' disk disk' s t o r h.0
        (asking_untold medium gives takes old fuel most question (held_as_begun lines) w w' disk mid
        disk' s t o q r i.so_far i.sectors why h.2 leaves.pays)
        (untold_so gives takes old.process w w'.process fuel first s t o q r i.told i.kept lines
        i.kept_is questioning.turning i.released why h.1)
        (stops_join old.store w.store (medium disk) (medium mid) i.goes w'.store why
        (medium disk') leaves.runs)

  module _ (old w w' : RunningWorker) (fuel most first : ℕ) (question : Question)
      (lines : List NumberedLine) (disk mid disk' : D) (s t u : S) (o q : O)
      (i : AtQuestion old w fuel most first question lines disk mid s t o q)
      (free : HoldsNoLine (held_as_begun lines) w)
      (few : CallsUpTo (most_saving (medium mid).sectors) (medium mid) (medium disk')) where
    pub answered_in : AsksOnce gives question w.process (Ok true) w'.process t u
        → w'.process.host.released ≡ w.process.host.released
        → AsksHolding medium gives question (asking_scene w mid t) (Ok true)
        (asking_scene w' disk' u)
        → StoreGoes w.store w'.store (medium mid) (medium disk')
        → w'.store.geometry ≡ w.store.geometry
        → (medium disk').sectors ≡ (medium mid).sectors
        → InBatch old w' fuel most first lines disk disk' s u o q
    answered_in once still asked goes places sectors = record {
      told = i.told;
      kept = i.kept;
      kept_is = i.kept_is;
      turning = given gives keeping old.process w.process w'.process fuel first s t u [] i.kept
          question i.questioning once still;
      released = i.released;
      few = i.few;
      so_far = asked_on medium gives takes old fuel most question (held_as_begun lines) w w' disk
          mid
          disk' s t u o q i.so_far free i.sectors few asked;
      goes = goes_join old.store w.store (medium disk) (medium mid) i.goes w'.store
          (medium disk') goes;
      places = places ∙ i.places;
      sectors = sectors ∙ i.sectors;
    }

    pub answered_lower : (v : ProcessValue)
        → AsksOnce gives question w.process (Ok true) w'.process t u
        → v.steps ≤ w.process.steps
        → measure fuel first w'.process < measure fuel first v
    answered_lower v once before =
        given_less gives keeping old.process w.process w'.process fuel first s t u [] i.kept
        question i.questioning once v before

    pub waits_in : AsksOnce gives question w.process (Ok false) w'.process t u
        → AsksHolding medium gives question (asking_scene w mid t) (Ok false)
        (asking_scene w' disk' u)
        → StoreGoes w.store w'.store (medium mid) (medium disk')
        → WorksInBatch medium gives takes (Batch fuel most) (scene old disk s o) (Ok now.Waiting)
        (scene (holding w' lines) disk' u q)
    waits_in once asked goes =
        leaves_so old w' fuel most (Ok now.Waiting) i.told i.kept lines disk disk' s u o q
        (ok_is_none now.Waiting)
        (asked_none medium gives takes old fuel most question (held_as_begun lines) w w' disk mid
        disk' s
        t u o q i.so_far free i.sectors few asked) i.kept_is i.released
        (slices_stop gives old.process w'.process fuel s u i.kept now.Waiting
        (waiting gives keeping old.process w.process w'.process fuel first s t u [] i.kept question
        i.questioning once))
        (goes_join old.store w.store (medium disk) (medium mid) i.goes w'.store (medium disk') goes)
        tt

    pub waits_shown : AsksOnce gives question w.process (Ok false) w'.process t u
        → IsProcess w.process → IsProcess w'.process
    waits_shown once is =
        subst IsProcess
        (sym (stays_waiting gives keeping old.process w.process w'.process fuel first s t u []
        i.kept question i.questioning once)) is

    -- it has failed by its source
    source_in : AsksHolding medium gives question (asking_scene w mid t) (Err (Work slice.Source))
        (asking_scene w' disk' u)
        → AsksThenFails gives w question (Work slice.Source) w' t u
        → waiting_in w'.process ≡ []
        → StoreGoes w.store w'.store (medium mid) (medium disk')
        → WorksInBatch medium gives takes (Batch fuel most) (scene old disk s o)
        (Err (Work slice.Source)) (scene (holding w' lines) disk' u q)
    source_in asked vain none_waits goes =
        leaves_so old w' fuel most (Err (Work slice.Source)) i.told i.kept lines disk disk' s u o q
        source_not
        (asked_fault medium gives takes old fuel most question (held_as_begun lines) w w' disk mid
        disk'
        s t u o q i.so_far free i.sectors few asked) i.kept_is i.released
        (source_stops gives old.process w'.process fuel s u i.kept none_waits
        (subst (λ z. SlicesOnDiskInVain gives keeping old.process fuel (Work slice.Source) z
        (ports s []) (ports u i.kept)) (sym vain.1)
        (heard_vainly gives keeping old.process w.process fuel first s t [] i.kept question
        i.questioning w vain.0 (Work slice.Source) u refl vain.2)))
        (goes_join old.store w.store (medium disk) (medium mid) i.goes w'.store (medium disk') goes)
        (λ later. tt)

    -- or otherwise
    other_in : (why : WorkFault) → why ≢ Work slice.Source → HasEnded why w'
        → AsksHolding medium gives question (asking_scene w mid t) (Err why)
        (asking_scene w' disk' u)
        → AsksThenFails gives w question why w' t u
        → StoreStops w.store w'.store why (medium mid) (medium disk')
        → WorksInBatch medium gives takes (Batch fuel most) (scene old disk s o) (Err why)
        (scene (holding w' lines) disk' u q)
    other_in why other ended asked vain stopped =
        fails_so old w' fuel most why lines disk disk' s u o q ended
        (asked_vainly medium gives takes old fuel most question (held_as_begun lines) w w' disk mid
        disk'
        s t u o q i.so_far free i.sectors few why other asked)
        (subst (λ z. BatchFails gives takes old.process fuel why z (ports s o) (ports u q))
        (sym vain.1)
        (asked_so gives takes old.process w vain.0 fuel first s t u o q question i.told i.kept lines
        i.kept_is i.questioning i.released why other free vain.2))
        (stops_join old.store w.store (medium disk) (medium mid) i.goes w'.store why
        (medium disk') stopped)

    pub unasked_in : (why : WorkFault) → (why ≡ Work slice.Source)
        ⊎ ((why ≢ Work slice.Source) × HasEnded why w')
        → AsksHolding medium gives question (asking_scene w mid t) (Err why)
        (asking_scene w' disk' u)
        → AsksThenFails gives w question why w' t u
        → (why ≡ Work slice.Source → StoreGoes w.store w'.store (medium mid) (medium disk'))
        → StoreStops w.store w'.store why (medium mid) (medium disk')
        → WorksInBatch medium gives takes (Batch fuel most) (scene old disk s o) (Err why)
        (scene (holding w' lines) disk' u q)
    unasked_in why (inl is) asked vain goes stopped =
        subst (λ z. WorksInBatch medium gives takes (Batch fuel most) (scene old disk s o) (Err z)
        (scene (holding w' lines) disk' u q)) (sym is)
        (source_in
        (subst (λ z. AsksHolding medium gives question (asking_scene w mid t) (Err z)
        (asking_scene w' disk' u)) is
        asked) (subst (λ z. AsksThenFails gives w question z w' t u) is vain)
        (ap waiting_in vain.1
        ∙ still_empty gives takes old.process w vain.0 fuel first s t u o q question i.told i.kept
        lines i.kept_is i.questioning i.released why vain.2) (goes is))
    unasked_in why (inr ended) asked vain goes stopped =
        other_in why ended.0 ended.1 asked vain stopped
