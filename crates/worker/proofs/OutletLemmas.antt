-- What an outlet has said, release by release.
use Rattle.std.proofs.Common.{◌≡◌, inl, inr, ℕ, ◌+◌, suc, List, [], ◌∷◌, ◌++◌, length, Ok, Err}
use Rattle.std.proofs.Common.{refl, sym, subst}
use Rattle.std.specs.Prelude.{Result, drop}
use Rattle.std.specs.List.{AllByRecursion}
use Rattle.wasi_calls_rules.specs.WasiStates.{Line}
use Rattle.process.specs.rules.Values.{ProcessValue, IsProcess}
use Rattle.sector_disk.specs.declared.fault.DiskFault.{DiskFault}
use Rattle.sector_disk.specs.rules.Medium.{Medium}
use Rattle.record_replay.specs.declared.fault.ReplayFault.{ReplayFault}
use Rattle.record_replay.specs.declared.fault.ReplayFault.TheVariants as replay
use Rattle.record_replay.specs.rules.Calls.{Taking, Begun, Released, Releases, all_taken}
use Rattle.record_replay.specs.rules.Calls.{last_refused}
use Rattle.record_replay.specs.rules.Replays.{Replays, ReplaysInVain}
use Rattle.record_replay.proofs.Following.{leads_join, leads_before}
use Rattle.worker_store.specs.declared.fault.StoreFault.{StoreFault}
use Rattle.worker_store.specs.declared.fault.StoreFault.TheVariants as store
use Rattle.worker.specs.declared.fault.WorkFault.TheVariants.{Work, Disk}
use Rattle.worker.specs.declared.found.Found.{Found}
use Rattle.worker.specs.declared.recover_fault.RecoverFault.{RecoverFault}
use Rattle.worker.specs.declared.recover_fault.RecoverFault.TheVariants as recover
use Rattle.worker.specs.rules.WorkFaults.{fault_of_store}
use Rattle.worker.specs.rules.DurableValues.{DurableValue}
use Rattle.worker.specs.rules.Outlets.{WasTaken, TakesEach, RefusesLast, HeedsOutlet}
use Rattle.worker.specs.rules.Outlets.{IsOutletFault, SaysOutletFault}
use Rattle.worker.specs.Findings.{HasSearchCause}
use Rattle.worker.specs.Revivals.{RevivesFound}

taken_both : (front rest : List Begun) → AllByRecursion WasTaken front
    → AllByRecursion WasTaken rest → AllByRecursion WasTaken (front ++ rest)
taken_both [] rest all others = others
taken_both (begun ∷ front) rest all others = (all.0, taken_both front rest all.1 others)

all_are_taken : (first : ℕ) (lines : List Line) → AllByRecursion WasTaken (all_taken first lines)
all_are_taken first [] = tt
all_are_taken first (line ∷ lines) = (refl, all_are_taken (first + 1) lines)

module _ {O : Type 0} (takes : Taking O) where
  pub none_told : (o : O) → TakesEach takes o o
  none_told o = record { releases = []; led = refl; taken = tt }

  pub takes_both : (o p q : O) → TakesEach takes o p → TakesEach takes p q → TakesEach takes o q
  takes_both o p q first more = record {
    releases = first.releases ++ more.releases;
    led = leads_join (Released takes) o q p first.releases more.releases first.led more.led;
    taken = taken_both first.releases more.releases first.taken more.taken;
  }

  pub refuses_then : (o p q : O) → TakesEach takes o p → RefusesLast takes p q
      → RefusesLast takes o q
  refuses_then o p q first more = record {
    between = more.between;
    before = takes_both o p more.between first more.before;
    last = more.last;
    released = more.released;
    fault = more.fault;
    said = more.said;
  }

  pub heeds_on : (IsReported : Type 0) (o p q : O) → TakesEach takes o p
      → HeedsOutlet takes IsReported p q → HeedsOutlet takes IsReported o q
  heeds_on IsReported o p q first (inl more) = inl (takes_both o p q first more.0, more.1)
  heeds_on IsReported o p q first (inr more) = inr (refuses_then o p q first more.0, more.1)

  -- where it isn't told, each was taken
  pub each_taken : (IsReported : Type 0) (o p : O) → (IsReported → ⊥)
      → HeedsOutlet takes IsReported o p → TakesEach takes o p
  each_taken IsReported o p untold (inl each) = each.0
  each_taken IsReported o p untold (inr refused) = absurd (untold refused.1)

  -- lists of lines
  pub lines_taken : (first : ℕ) (lines : List Line) (o p : O)
      → Releases takes o (all_taken first lines) p → TakesEach takes o p
  lines_taken first lines o p led = record {
    releases = all_taken first lines;
    led = led;
    taken = all_are_taken first lines;
  }

  pub last_is_refused : (first : ℕ) (told : List Line) (line : Line) (o p : O)
      → Releases takes o (last_refused first told line) p → RefusesLast takes o p
  last_is_refused first told line o p led =
      let last : Begun = record {
        number = first + length told;
        line = line;
        said = Err (record {});
      } in
      let r = leads_before (Released takes) o p (all_taken first told) last led in
      record {
        between = r.0;
        before = lines_taken first told o r.0 r.1;
        last = last;
        released = r.2;
        fault = record {};
        said = refl;
      }

-- ---- a recovery

-- a fault of the disk, or one of what was found
pub disk_is_other : (fault : DiskFault) (why : RecoverFault) → why ≡ recover.Worker (Disk fault)
    → IsOutletFault why → ⊥
disk_is_other fault why is told =
    subst IsOutletFault is told

pub found_is_other : (old new : Medium) (why : RecoverFault) → HasSearchCause old new why
    → IsOutletFault why → ⊥
found_is_other old new (recover.Worker (Work why)) cause told = cause
found_is_other old new (recover.Replay why) cause told = cause
found_is_other old new other cause told = told

store_is_other : (why : StoreFault)
    → IsOutletFault (recover.Worker (fault_of_store why)) → ⊥
store_is_other (store.Disk fault) told = told
store_is_other store.Memory told = told
store_is_other store.Failed told = told
store_is_other store.Full told = told
store_is_other store.TooLong told = told
store_is_other store.TooBig told = told
store_is_other store.Damaged told = told
store_is_other (store.Layout fault) told = told

module _ {D O : Type 0} (medium : D → Medium) (takes : Taking O) (found : Found)
    (is : IsProcess found.process) (mid new : D) (o p : O) where
  replay_heeds : (why : ReplayFault)
      → ReplaysInVain takes found.process found.records.items why o p
      → HeedsOutlet takes (IsOutletFault (recover.Replay why)) o p
  replay_heeds replay.Diverged vain =
      let h = vain is.guest is.process is.shows in
      inl (
        lines_taken takes (suc found.process.host.released)
            (drop found.process.host.released h.0.process.host.lines) o p h.1.0,
        λ told. told,
      )
  replay_heeds replay.Memory vain =
      let h = vain is.guest is.process is.shows in
      inl (
        lines_taken takes (suc found.process.host.released)
            (drop found.process.host.released h.0.process.host.lines) o p h.1.0,
        λ told. told,
      )
  replay_heeds replay.Outlet vain =
      let h = vain is.guest is.process is.shows in
      inr (
        last_is_refused takes (suc found.process.host.released) h.1.told h.1.line o p h.1.refused,
        tt,
      )

  replay_takes : (v : ProcessValue) → Replays takes found.process found.records.items v o p
      → TakesEach takes o p
  replay_takes v replays =
      let r = replays.shown is.guest is.process is.shows in
      lines_taken takes (suc found.process.host.released)
      (drop found.process.host.released r.process.host.lines) o p r.told

  -- whatever comes of what was found
  pub revival_heeds : (result : Result DurableValue RecoverFault)
      → RevivesFound medium takes found result mid new o p
      → HeedsOutlet takes (SaysOutletFault result) o p
  revival_heeds (Ok w) revives =
      inl (replay_takes w.process revives.0.replays, λ told. told)
  revival_heeds (Err why) (inl stops) =
      subst (λ e. HeedsOutlet takes (IsOutletFault e) o p) (sym stops.is)
      (replay_heeds stops.fault stops.stops)
  revival_heeds (Err why) (inr for) =
      let none = for.none in
      inl (
        replay_takes for.process for.replayed.replays,
        λ told. store_is_other none.fault
            (subst IsOutletFault none.is told),
      )
