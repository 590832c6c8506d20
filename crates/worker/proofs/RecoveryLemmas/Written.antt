-- What a recovery has told, and what a cut leaves while the next generation is written.
use Rattle.std.proofs.Common.{◌⊎◌, ℕ, suc, ◌+◌, ◌≤◌, List, [], length, drop, refl, arith}
use Rattle.std.specs.Prelude.{map}
use Rattle.wasm_syntax.specs.declared.module.Module.{Module}
use Rattle.wasi_abi.specs.rules.Configs.{Settings}
use Rattle.process_rules.specs.Processes.{ProcessState, Guest}
use Rattle.process.specs.rules.Values.{ProcessValue}
use Rattle.sector_disk.specs.rules.DiskImage.{DiskImage}
use Rattle.sector_disk.specs.rules.Medium.{Medium, LeavesOnly}
use Rattle.sector_disk.proofs.Moments.{leaves_weaker}
use Rattle.disk_layout.specs.rules.Journal.{Record}
use Rattle.record_replay.specs.rules.Calls.{Taking, Exchange, Tells, all_taken}
use Rattle.worker_store.specs.restart_theorem.Lives.{Inputs}
use Rattle.worker_store.specs.restart_theorem.Courses.{at_first}
use Rattle.worker_store.specs.restart_theorem.Promises.{Promise}
use Rattle.worker_store.specs.restart_theorem.Holds.{DiskImageHolds, KeepsPromise, CarriesPromise}
use Rattle.worker_store.specs.restart_theorem.Holds.{IsBounded, KeepsBounds}
use Rattle.worker_store.specs.rules.Savepoints.{Savepoint, IsAtSavepoint, BeginsAtPoint}
use Rattle.worker_store.specs.rules.BetweenCalls.{IsForetold}
use Rattle.worker_store.specs.laws.Telling.{ArePerformed, AddsLines}
use Rattle.worker_store.specs.rules.Carried.{count_at, IsHeldAt}
use Rattle.worker_store.specs.laws.Carried.{PromisesNoMore}
use Rattle.worker_store.specs.laws.Reopening.{IsReviving}
use Rattle.worker_store.proofs.LawLemmas.Carrying.{commit_carries, first_on_record, first_up_to}
use Rattle.worker_store.proofs.LawLemmas.Recovering.{retold_is_held}
use Rattle.worker_store.proofs.LawLemmas.Reopening.{lines_are_retold}
use Rattle.worker_store.proofs.LawLemmas.TurnLemmas.{told_still_holds, parts_leave_begun}
use Rattle.worker_store.proofs.LawLemmas.TurnLemmas.{same_no_more}
use Rattle.worker.specs.declared.found.Found.{Found}
use Rattle.worker.specs.rules.Recoveries.{IsJustSynced}
use Rattle.worker.proofs.RecoveryLemmas.There.{IsThere, leaves_join}
use Rattle.worker.proofs.RecoveryLemmas.Lives.{IsBack, whole_way, come_lives}
use Rattle.worker.proofs.RecoveryLemmas.NextPoint.{HasNext, next_within}
use Rattle.worker.proofs.DurableLemmas.Bounds.{within_later}

-- ---- what a cut leaves

-- up to where the disk is synced and read, while lines are told
pub first_holds : (m : Module) (config : Settings) (promise promise' : Promise) (line : ℕ)
    (old mid : Medium) → IsJustSynced old mid → KeepsPromise m config promise old
    → AddsLines promise line promise' → LeavesOnly old mid (DiskImageHolds m config
    promise promise')
first_holds m config promise promise' line old mid just_synced keeps adds =
    leaves_weaker old mid old.crash_images (DiskImageHolds m config promise promise')
    just_synced.leaves (λ image crashed. told_still_holds m config promise promise' line
    adds promise image (same_no_more promise) (keeps image crashed))

pub first_within : (promise : Promise) (latest : ℕ) (old mid : Medium) → IsJustSynced old mid
    → KeepsBounds promise.events old → promise.events ≤ latest
    → LeavesOnly old mid (IsBounded latest old.sectors)
first_within promise latest old mid just_synced bounds more =
    leaves_weaker old mid old.crash_images (IsBounded latest old.sectors) just_synced.leaves
    (λ image crashed. within_later promise.events latest old.sectors image more
    (bounds image crashed))

-- ---- lines

-- the lines of a recovered process after those of its savepoint, as exchanges
abbrev pub retold_lines : {m : Module} {config : Settings} → Savepoint m config → ProcessState
    → List Exchange
retold_lines point last =
    map Tells (all_taken (suc point.saved.lines) (drop point.saved.lines last.host.lines))

-- they are told, and the process may be opened
pub record IsRetold (m : Module) (config : Settings) (promise : Promise) (inputs : Inputs)
    (point : Savepoint m config) (records : List Record) (last : ProcessState) : Type 0 where
  pub made : ArePerformed m config promise (at_first inputs) (length last.host.lines)
      (retold_lines point last)
  pub lives : IsReviving m config point.reached.guest made.promise' made.stage'
      (count_at point records) (length last.host.lines) last
  pub held : IsHeldAt made.promise' point records last
  pub no_more : PromisesNoMore promise made.promise'

pub is_retold : (m : Module) (config : Settings) (promise : Promise) (inputs : Inputs)
    (point : Savepoint m config) (records : List Record) (last : ProcessState)
    → IsHeldAt promise point records last
    → IsForetold (at_first inputs) (retold_lines point last)
    → IsRetold m config promise inputs point records last
is_retold m config promise inputs point records last held foretold =
    let guest : Guest = point.reached.guest in
    let lives = come_lives m config promise point records last held inputs
    (whole_way guest point.process last records held.recorded) in
    let told = lines_are_retold m config guest promise (at_first inputs) (count_at point records)
    point.saved.lines (suc point.saved.lines) last (drop point.saved.lines last.host.lines) lives
    (omega arith) refl foretold in
    let made = told.0 in
    let begun = parts_leave_begun m config promise made.promise' (at_first inputs) made.stage'
    (retold_lines point last) made.done in
    record {
      made = made;
      lives = told.1;
      held = retold_is_held m config promise made.promise' point records last held made.adds;
      no_more = begun.no_more;
    }

-- ---- while the next generation is written

pub below_next : (a b : ℕ) → a ≤ b → a ≤ b + 1
below_next a b le = omega (arith, le)

next_below : (a b : ℕ) → a ≤ b → a + 1 ≤ b + 1
next_below a b le = omega (arith, le)

module _ {D O : Type 0} (medium : D → Medium) (takes : Taking O) (m : Module)
    (config : Settings) (promise : Promise) (found : Found) (old mid new : D)
    (there : IsThere m config promise found (medium old).sectors (medium mid)) (v : ProcessValue)
    (count : ℕ) (outlet outlet' : O)
    (back : IsBack takes there.point there.last v count outlet outlet')
    (has : HasNext m config promise found (medium old).sectors (medium mid) (medium new) there v)
    (inputs : Inputs)
    (told : IsRetold m config promise inputs there.point found.records.items there.last)
    (just_synced : IsJustSynced (medium old) (medium mid)) where
  pub heard_all : length there.last.host.lines ≤ told.made.promise'.heard
  heard_all = (let lives = told.lives in lives.heard)

  -- a cut at any moment leaves what holds all that was promised first
  pub moments_hold : KeepsPromise m config promise (medium old)
      → CarriesPromise m config promise told.made.promise' (medium old) (medium new)
  moments_hold keeps =
      let carries = commit_carries medium m config promise told.made.promise' there.point
      has.next found.records.items [] there.last mid new told.no_more told.held
      (has.is_next.saves told.made.promise'
      (first_on_record m config told.made.promise' there.point found.records.items there.last
      has.next.front told.held has.front)
      (first_up_to m config told.made.promise' there.point found.records.items there.last
      has.next.front told.held has.front) heard_all) has.leaves in
      record {
        at_any_moment = leaves_join (medium old) (medium mid) (medium new)
            (DiskImageHolds m config promise told.made.promise')
            (first_holds m config promise told.made.promise' (length there.last.host.lines)
            (medium old) (medium mid) just_synced keeps told.made.adds) carries.at_any_moment;
        in_the_end = carries.in_the_end;
      }

  pub moments_within : KeepsBounds promise.events (medium old)
      → LeavesOnly (medium old) (medium new)
      (IsBounded (told.made.promise'.events + 1) (medium old).sectors)
  moments_within bounds =
      let adds = told.made.adds in
      let latest : ℕ = told.made.promise'.events + 1 in
      let P : DiskImage → Type 0 = λ disk.
      IsAtSavepoint there.point found.records.items there.last disk
      ⊎ BeginsAtPoint has.next disk in
      leaves_join (medium old) (medium mid) (medium new)
      (IsBounded (told.made.promise'.events + 1) (medium old).sectors)
      (first_within promise latest (medium old) (medium mid) just_synced bounds
      (below_next promise.events told.made.promise'.events adds.events))
      (leaves_weaker (medium mid) (medium new) P
      (IsBounded (told.made.promise'.events + 1) (medium old).sectors) has.leaves
      (λ disk at. next_within medium takes m config promise found (medium old).sectors mid new
      there v count outlet outlet' back has latest
      (next_below promise.events told.made.promise'.events adds.events) disk at))
