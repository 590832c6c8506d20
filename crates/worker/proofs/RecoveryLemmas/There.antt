-- The savepoint that all images of a synced disk are at, where they keep a promise and one of
-- them was found to be a worker.
use Rattle.std.proofs.Common.{◌≡◌, ⊎_elim, ℕ, ◌+◌, ◌≤◌, List, [], length, take, refl}
use Rattle.std.proofs.Common.{sym, ap, ◌∙◌, subst, arith}
use Rattle.std.specs.Prelude.{Ok}
use Rattle.wasm_syntax.specs.declared.module.Module.{Module}
use Rattle.wasi_abi.specs.rules.Configs.{Settings}
use Rattle.process_rules.specs.Processes.{ProcessState}
use Rattle.process.specs.rules.Values.{ProcessValue, waiting_in, lines_in}
use Rattle.state_image.specs.rules.ProcessImage.{Saved, process_image}
use Rattle.sector_disk.specs.rules.DiskImage.{DiskImage}
use Rattle.sector_disk.specs.rules.Medium.{Medium, LeavesOnly}
use Rattle.sector_disk.proofs.Moments.{goes_on, synced_only, stays_crashed}
use Rattle.disk_layout.specs.rules.Places.{geometry_of, total_sectors}
use Rattle.disk_layout.specs.rules.Journal.{Record}
use Rattle.worker_store.specs.restart_theorem.Promises.{Promise}
use Rattle.worker_store.specs.restart_theorem.Holds.{HoldsPromise, IsUnopened, KeepsPromise}
use Rattle.worker_store.specs.restart_theorem.Holds.{IsBounded, KeepsBounds}
use Rattle.worker_store.proofs.RestartLemmas.Disks.{stands_within}
use Rattle.worker_store.specs.rules.Savepoints.{Savepoint, places, IsAtSavepoint, LeavesAll}
use Rattle.worker_store.specs.laws.Savepoints.{point_of, StandsBySaved}
use Rattle.worker_store.specs.rules.Carried.{answers_at, IsHeldAt}
use Rattle.worker_store.proofs.LawLemmas.Carrying.{promise_is_held_at}
use Rattle.worker_store.proofs.LawLemmas.Points.{by_point, is_at_its_savepoint}
use Rattle.worker_store.proofs.LawLemmas.Points.{read_alike_is_at_savepoint}
use Rattle.worker.specs.declared.found.Found.{Found}
use Rattle.worker.specs.rules.Recoveries.{MarksDecide, IsJustSynced}
use Rattle.worker.specs.Findings.{IsFoundAt, FindsWorker}

-- ---- bounds

pub within_at : (m : Module) (config : Settings) (point : Savepoint m config)
    (records : List Record) (last : ProcessState) (latest sectors : ℕ) (disk : DiskImage)
    → IsAtSavepoint point records last disk → point.generation ≤ latest
    → total_sectors (places point) ≤ sectors → IsBounded latest sectors disk
within_at m config point records last latest sectors disk at early room =
    let by : StandsBySaved point (answers_at point records) last.steps disk =
    by_point m config point records last disk (answers_at point records) last.steps at refl refl in
    stands_within disk m config (answers_at point records) last.steps latest sectors by.stands
    (subst (λ g. g ≤ latest) (sym by.generation) early)
    (subst (λ l. total_sectors (geometry_of config (length l)) ≤ sectors) (sym by.wasm) room)

-- ---- moments

-- what a cut leaves first, and then
pub leaves_join : (old mid new : Medium) (P : DiskImage → Type 0) → LeavesOnly old mid P
    → LeavesOnly mid new P → LeavesOnly old new P
leaves_join old mid new P first then =
    let x = first.passes in
    let y = then.passes in
    record {
      each = λ image crashed. ⊎_elim
          (λ past. first.each image past)
          (λ now. now)
          (y.nothing_else old.moment image x.later crashed);
      passes = goes_on old mid new P P x y (λ image at. at);
    }

-- ---- what was found

-- how many lines the saved process has emitted, which were all released
pub released_is : (v : ProcessValue) (saved : Saved) → waiting_in v ≡ [] → lines_in v ≡ saved.lines
    → v.host.released ≡ saved.lines
released_is v saved none is =
    let count : length (waiting_in v) ≡ 0 = ap length none in
    let whole : v.host.released + length (waiting_in v) ≡ saved.lines = is in
    omega (arith, count, whole)

-- All images are there.
pub record IsThere (m : Module) (config : Settings) (promise : Promise) (found : Found)
    (sectors : ℕ) (mid : Medium) : Type 0 where
  pub wasm : List ℕ
  pub point : Savepoint m config
  pub last : ProcessState
  pub held : IsHeldAt promise point found.records.items last
  pub found_at : IsFoundAt wasm point found.records.items found
  pub all : LeavesAll mid (IsAtSavepoint point found.records.items last)
  pub some : (image : DiskImage) × IsAtSavepoint point found.records.items last image
  pub early : point.generation ≤ promise.events
  pub room : total_sectors (places point) ≤ sectors

module _ (m : Module) (config : Settings) (promise : Promise) (old mid : Medium)
    (just_synced : IsJustSynced old mid) (keeps : KeepsPromise m config promise old) (found : Found)
    (wasm : List ℕ)
    (finds : (image : DiskImage) → mid.shows image → FindsWorker old.sectors wasm image (Ok found))
    (marks : (image : DiskImage) → mid.shows image
    → MarksDecide {T = Found} image (Ok found)) where
  shown_of : (image : DiskImage) → mid.crash_images image → mid.shows image
  shown_of image crashed = synced_only mid just_synced.all_synced image crashed

  crashed_before : (image : DiskImage) → mid.crash_images image → old.crash_images image
  crashed_before image crashed = stays_crashed old mid just_synced.stays image crashed

  pub holds_of : (image : DiskImage) → mid.crash_images image
      → HoldsPromise m config promise promise image
  holds_of image crashed =
      ⊎_elim
      (λ (unopened : IsUnopened promise image).
      let decide = marks image (shown_of image crashed) in
      absurd (decide.always unopened.1))
      (λ (holds : HoldsPromise m config promise promise image). holds)
      (keeps image (crashed_before image crashed))

  module _ (bounds : KeepsBounds promise.events old) where
    within_of : (image : DiskImage) → (crashed : mid.crash_images image)
        → (let holds : HoldsPromise m config promise promise image = holds_of image crashed in
        (holds.stands.generation ≤ promise.events)
        × (total_sectors (geometry_of config (length holds.stands.wasm)) ≤ old.sectors))
    within_of image crashed =
        let holds = holds_of image crashed in
        bounds image (crashed_before image crashed) m config
        (take holds.held promise.kept) holds.steps holds.stands

    found_of : (image : DiskImage) → (crashed : mid.crash_images image)
        → (let holds : HoldsPromise m config promise promise image = holds_of image crashed in
        IsFoundAt wasm (point_of holds.stands) holds.stands.records found)
    found_of image crashed =
        let holds = holds_of image crashed in
        let within = within_of image crashed in
        finds image (shown_of image crashed) m config (point_of holds.stands) holds.stands.records
        holds.stands.last
        (is_at_its_savepoint image m config (take holds.held promise.kept) holds.steps
        holds.stands) within.1

    pub is_there : (first : DiskImage) → mid.crash_images first
        → IsThere m config promise found old.sectors mid
    is_there first crashed =
        let holds = holds_of first crashed in
        let within = within_of first crashed in
        let stands = holds.stands in
        let point : Savepoint m config = point_of stands in
        let here : IsFoundAt wasm (point_of stands) stands.records found = found_of first crashed in
        let at : IsAtSavepoint point stands.records stands.last first =
        is_at_its_savepoint first m config (take holds.held promise.kept) holds.steps stands in
        let same : stands.records ≡ found.records.items = sym here.records_are in
        let at_found : IsAtSavepoint point found.records.items stands.last first =
        subst (λ (l : List Record). IsAtSavepoint point l stands.last first) same at in
        record {
          wasm = wasm;
          point = point;
          last = stands.last;
          held = subst (λ (l : List Record). IsHeldAt promise point l stands.last) same
              (promise_is_held_at m config promise first holds);
          found_at = subst (λ (l : List Record). IsFoundAt wasm point l found) same here;
          all = λ other other_crashed.
              alike first crashed at_found other other_crashed;
          some = (first, at_found);
          early = within.0;
          room = within.1;
        }
      where
        alike : (first : DiskImage) → (crashed : mid.crash_images first)
            → (let holds : HoldsPromise m config promise promise first = holds_of first crashed in
            IsAtSavepoint (point_of holds.stands) found.records.items holds.stands.last first
            → (other : DiskImage) → mid.crash_images other
            → IsAtSavepoint (point_of holds.stands) found.records.items holds.stands.last other)
        alike first crashed at other other_crashed =
            let holds = holds_of first crashed in
            let others = holds_of other other_crashed in
            let point : Savepoint m config = point_of holds.stands in
            let next : Savepoint m config = point_of others.stands in
            let here : IsFoundAt wasm (point_of holds.stands) holds.stands.records found =
            found_of first crashed in
            let there : IsFoundAt wasm (point_of others.stands) others.stands.records found =
            found_of other other_crashed in
            let there_at : IsAtSavepoint next found.records.items others.stands.last other =
            subst (λ (l : List Record). IsAtSavepoint next l others.stands.last other)
            (sym there.records_are)
            (is_at_its_savepoint other m config (take others.held promise.kept) others.steps
            others.stands) in
            read_alike_is_at_savepoint m config point next found.records.items holds.stands.last
            others.stands.last first other at there_at (there.spelled ∙ sym here.spelled)
            (sym there.generation ∙ here.generation)
            (ap (λ (s : Saved). process_image s) (sym there.saved ∙ here.saved))
