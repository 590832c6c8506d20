-- How a life ended, in the words of the law of lives.
use Rattle.std.proofs.Common.{◌≡◌, ℕ, ◌<◌, ◌≤◌, ◌++◌, List, [], length, refl, sym, ap, ◌∙◌, subst}
use Rattle.std.proofs.Common.{arith, inl, inr}
use Rattle.std.proofs.lemmas.Bool.Decides.{nat_tests}
use Rattle.std.specs.Prelude.{Bool, true, false, Result, Ok, Err, Option, Some, None, IsTrue}
use Rattle.std.specs.Prelude.{nat_le, ◌||◌, ◌⊎◌}
use Rattle.sector_disk.specs.declared.fault_disk.FaultDisk.{FaultDisk}
use Rattle.sector_disk.specs.declared.memory.MemDisk.{MemDisk}
use Rattle.sector_disk.specs.declared.fault_point.FaultPoint.{FaultPoint}
use Rattle.sector_disk.specs.rules.DiskImage.{DiskImage}
use Rattle.sector_disk.specs.rules.FaultDisk.{call_counts_of}
use Rattle.sector_disk.specs.rules.Medium.{IsAllSynced}
use Rattle.sector_disk.specs.laws.Memory.{memory_stays}
use Rattle.sector_disk.specs.rules.Memory.{memory_medium, MemoryState, memory_state_of, after_cut}
use Rattle.sector_disk.specs.rules.Trouble.{point_numbers, has_begun, call_number}
use Rattle.worker_store.specs.restart_theorem.Lives.{Act, Cause, OfDisk, End, Inputs}
use Rattle.worker_store.specs.restart_theorem.Lives.End.{Finished as finished, Stopped as stopped}
use Rattle.worker_store.specs.restart_theorem.Lives.End.{Failed as failed}
use Rattle.worker_store.specs.restart_theorem.Courses.{HasDiskFault, HasStopped, HasNotStopped}
use Rattle.worker_store.specs.restart_theorem.Between.{NextFinds, IsFoundAfterCut}
use Rattle.worker.specs.declared.recover_fault.RecoverFault.{RecoverFault}
use Rattle.worker.specs.rules.OneLife.{IsCauseOf, undone_acts}
use Rattle.worker.specs.laws.OneLife.{EndsBy, IsLater}
use Rattle.worker.specs.declared.story.report.LifeEnd.{LifeEnd}
use Rattle.worker.specs.declared.story.report.LifeEnd.TheVariants.{Finished, Stopped, Failed}
use Rattle.worker.specs.rules.Planned.{call_at}
use Rattle.worker.specs.rules.StoryDisks.{story_medium, reported_end, StopSays}
use Rattle.worker.specs.rules.Told.{TellsLifeEnd}
use Rattle.worker.specs.LifeCalls.{LeavesSome}
use Rattle.worker.specs.Endings.{IsFoundBehind}

pub stopping_leaves_some : LeavesSome story_medium
stopping_leaves_some f = (f.inner.shown.items, memory_stays f.inner)

-- ---- stops

pub not_both : (stop : Option ℕ) (calls : ℕ) → HasStopped stop calls → HasNotStopped stop calls → ⊥
not_both None calls has not = has
not_both (Some k) calls has not = absurd (omega (arith, has, not))

-- the error that ended it is of this cause
cause_of : (why other : RecoverFault) (cause : Cause)
    → ◌≡◌ {A = Result (List Act) RecoverFault} (Err why) (Err other) → IsCauseOf other cause
    → IsCauseOf why cause
cause_of why other cause e is =
    let same : other ≡ why = cc in subst (λ (w : RecoverFault). IsCauseOf w cause) same is

-- how the life ended is told
pub tells_end : (inputs : Inputs) (calls : ℕ) (ended : Result (Unit {0}) RecoverFault) (b : Bool)
    (ends : End) → StopSays b inputs.stop calls → EndsBy inputs calls (undone_acts ended) ends
    → TellsLifeEnd ends (reported_end b ended)
tells_end inputs calls ended true finished has by =
    absurd (not_both inputs.stop calls has by.1)
tells_end inputs calls (Ok done) false finished has by = tt
tells_end inputs calls (Err why) false finished has by =
    let e = by.0 in absurd (cc)
tells_end inputs calls ended true stopped has by = tt
tells_end inputs calls ended false stopped has by = absurd (has by)
tells_end inputs calls ended true (failed cause) has by =
    absurd (not_both inputs.stop calls has by.3)
tells_end inputs calls (Ok done) false (failed cause) has by = let e = by.1 in absurd (cc)
tells_end inputs calls (Err why) false (failed cause) has by =
    cause_of why by.0 cause by.1 by.2

-- what is after it is what the next life finds
pub next_finds : (ends : End) (ended : LifeEnd) (last next : MemDisk) → TellsLifeEnd ends ended
    → IsFoundBehind ended last next → NextFinds memory_medium ends last next
next_finds finished Finished last next told behind = inl behind
next_finds finished Stopped last next told behind = absurd told
next_finds finished (Failed why) last next told behind = absurd told
next_finds stopped Finished last next told behind = absurd told
next_finds stopped Stopped last next told behind = inl behind
next_finds stopped (Failed why) last next told behind = absurd told
next_finds (failed cause) Finished last next told behind = absurd told
next_finds (failed cause) Stopped last next told behind = absurd told
next_finds (failed cause) (Failed why) last next told behind = behind

-- ---- faults

begun_so : (call n : ℕ) → IsTrue (nat_le call n || false) → call ≤ n
begun_so call n begun = by (nat_le call n) refl begun
  where
    by : (b : Bool) → nat_le call n ≡ b → IsTrue (b || false) → call ≤ n
    by true e is = grind (arith, nat_tests)
    by false e is = absurd (cc)

-- the fault points of one disk, as numbers, are those of another
same_points : (stop stop' fail fail' : Option FaultPoint)
    → point_numbers stop' ++ point_numbers fail' ++ [] ≡ point_numbers stop ++ point_numbers fail
    ++ [] → (call_at stop' ≡ call_at stop) × (call_at fail' ≡ call_at fail)
same_points None None None None told = (refl, refl)
same_points None None None (Some q) told = absurd (cc)
same_points None None (Some p) None told = absurd (cc)
same_points None None (Some p) (Some q) told =
    let same : q.call ≡ p.call = cc in (refl, ap (λ (n : ℕ). Some n) same)
same_points None (Some q) fail fail' told = absurd (cc)
same_points (Some p) None fail fail' told = absurd (cc)
same_points (Some p) (Some q) None None told =
    let same : q.call ≡ p.call = cc in (ap (λ (n : ℕ). Some n) same, refl)
same_points (Some p) (Some q) None (Some f) told = absurd (cc)
same_points (Some p) (Some q) (Some f) None told = absurd (cc)
same_points (Some p) (Some q) (Some f) (Some f') told =
    let same : q.call ≡ p.call = cc in
    let other : f'.call ≡ f.call = cc in
    (ap (λ (n : ℕ). Some n) same, ap (λ (n : ℕ). Some n) other)

-- the call of a fault point has begun
begun_at : (point : Option FaultPoint) (n : ℕ) → IsTrue (has_begun point n)
    → HasStopped (call_at point) n
begun_at None n begun = absurd (cc)
begun_at (Some point) n begun = begun_so point.call n (by (nat_le point.call n) begun)
  where
    by : (b : Bool) → IsTrue b → IsTrue (b || false)
    by true e = refl
    by false e = absurd (cc)

-- a disk has met trouble only at its stop, or where it was told to fail
met_as_told : (stop fail : Option FaultPoint) (n : ℕ)
    → IsTrue (has_begun stop n || has_begun fail n)
    → HasDiskFault (call_at fail) OfDisk n ⊎ HasStopped (call_at stop) n
met_as_told stop fail n met = by (has_begun stop n) refl met
  where
    failing : (fail : Option FaultPoint) → IsTrue (has_begun fail n)
        → HasDiskFault (call_at fail) OfDisk n
    failing None begun = absurd (cc)
    failing (Some point) begun = begun_at (Some point) n begun

    by : (b : Bool) → has_begun stop n ≡ b → IsTrue (b || has_begun fail n)
        → HasDiskFault (call_at fail) OfDisk n ⊎ HasStopped (call_at stop) n
    by true is e = inr (begun_at stop n is)
    by false is e = inl (failing fail e)

-- so it is over the calls of a life
pub faults_as_planned : (found last : FaultDisk MemDisk) (stop fail : Option FaultPoint)
    → found.stop ≡ stop → found.fail ≡ fail → IsLater (story_medium found) (story_medium last)
    → (story_medium found).faults < (story_medium last).faults
    → HasDiskFault (call_at fail) OfDisk (call_number (call_counts_of last))
    ⊎ HasStopped (call_at stop) (call_number (call_counts_of last))
faults_as_planned found last stop fail is fails later fell =
    let planned : point_numbers last.stop ++ point_numbers last.fail ++ []
    ≡ point_numbers stop ++ point_numbers fail ++ [] =
    later.fault_plan
    ∙ ap (λ (s : Option FaultPoint). point_numbers s ++ point_numbers found.fail ++ []) is
    ∙ ap (λ (f : Option FaultPoint). point_numbers stop ++ point_numbers f ++ []) fails in
    let same = same_points stop last.stop fail last.fail planned in
    let n : ℕ = call_number (call_counts_of last) in
    subst (λ (f : Option ℕ). HasDiskFault f OfDisk n ⊎ HasStopped (call_at stop) n) same.1
    (subst (λ (s : Option ℕ). HasDiskFault (call_at last.fail) OfDisk n ⊎ HasStopped s n) same.0
    (met_as_told last.stop last.fail n (last.was_met (omega (arith, fell)))))

-- ---- cuts

-- what a cut leaves is what the next life finds
pub is_found : (last next : MemDisk) (tears : List ℕ)
    → memory_state_of next ≡ after_cut (memory_state_of last) tears
    → (memory_medium last).crash_images (after_cut (memory_state_of last) tears).durable
    → (memory_medium next).shows (after_cut (memory_state_of last) tears).durable
    → IsAllSynced (memory_medium next) → IsFoundAfterCut (memory_medium last) (memory_medium next)
is_found last next tears cut was shows synced =
    let image : DiskImage = (after_cut (memory_state_of last) tears).durable in
    let durable : next.durable.items ≡ image = ap (λ (s : MemoryState). s.durable) cut in
    let is_disk_image = (memory_medium last).is_disk_image image was in
    record {
      image = image;
      was = was;
      fresh = record {
        only = λ shown kept may.
            let same = may.0 ∙ sym shows in (same, synced.same shown kept may ∙ same);
        unsynced = synced.unsynced;
      };
      sectors = ap length durable ∙ is_disk_image.count;
    }
