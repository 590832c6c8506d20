-- What a look at a disk tells, by what was found there.
use Rattle.std.proofs.Common.{◌≡◌, inl, inr, ℕ, ◌<◌, ◌≤◌, List, length, refl, ap, ◌*◌, subst, arith}
use Rattle.std.specs.Prelude.{Result, Ok, Err}
use Rattle.wasm_syntax.specs.declared.module.Module.{Module}
use Rattle.wasi_abi.specs.declared.version.Version.{Version}
use Rattle.wasi_abi.specs.rules.Configs.{Settings}
use Rattle.process_rules.specs.Runs.{Kept}
use Rattle.state_image.specs.rules.ProcessImage.{Saved}
use Rattle.sector_disk.specs.declared.fault.DiskFault.{DiskFault}
use Rattle.sector_disk.specs.rules.DiskImage.{DiskImage}
use Rattle.sector_disk.specs.rules.Medium.{Medium, SyncsMedium, CallsUpTo}
use Rattle.disk_layout.specs.rules.Journal.{Record}
use Rattle.disk_layout.specs.rules.Stored.{OnlyReads}
use Rattle.worker_store.specs.restart_theorem.Stands.{StandsFor}
use Rattle.worker_store.specs.laws.Savepoints.{point_of}
use Rattle.worker_store.proofs.LawLemmas.Points.{is_at_its_savepoint}
use Rattle.worker.specs.declared.fault.WorkFault.TheVariants.{Disk}
use Rattle.worker.specs.declared.found.Found.{Found}
use Rattle.worker.specs.declared.recover_fault.RecoverFault.{RecoverFault}
use Rattle.worker.specs.declared.recover_fault.RecoverFault.TheVariants as recover
use Rattle.worker.specs.declared.surveyed.Survey.{Survey}
use Rattle.worker.specs.rules.Recoveries.{MarksDecide}
use Rattle.worker.specs.rules.Surveys.{Surveys, survey_of}
use Rattle.worker.specs.Findings.{FindsWorker, FindsOne, IsFoundAt, numbers_of_found}
use Rattle.worker.specs.Findings.{HasSearchCause}
use Rattle.worker.specs.FoundDisks.{FindsIn}
use Rattle.worker.proofs.AnswerLemmas.{found_there, surveyed, shown_version}
use Rattle.worker.proofs.RecoveryLemmas.Results.{is_just_synced, sync_faulted}

-- ---- the disk couldn't be synced

pub failed_sync_surveys : {T : Type 0} (old new : Medium) (fault : DiskFault) (why : RecoverFault)
    → SyncsMedium {T = T} (Err fault) old new → why ≡ recover.Worker (Disk fault)
    → Surveys (Err why) old new
failed_sync_surveys old new fault why syncs is =
    let calls = syncs.calls in
    inl (record {
      fault = fault;
      is = ap (λ e. Err e) is;
      stays = syncs.stays;
      calls = calls.begun;
      faulted = sync_faulted old new fault syncs;
      none_told = refl;
    })

-- ---- it was, and then it was read

-- the numbers of what was found are those of what is there
numbers_are : {disk : DiskImage} {m : Module} {config : Settings} {kept : List Kept} {n : ℕ}
    (wasm : List ℕ) (stands : StandsFor disk m config kept n) (found : Found)
    → IsFoundAt wasm (point_of stands) stands.records found
    → numbers_of_found found ≡ survey_of stands
numbers_are wasm stands found at =
    let generation : found.generation ≡ stands.generation = at.generation in
    let steps : found.process.steps ≡ stands.saved.steps =
    ap (λ (s : Saved). s.steps) at.saved in
    let answers : found.process.answers ≡ stands.saved.answers =
    ap (λ (s : Saved). s.answers) at.saved in
    let lines = ap (λ (s : Saved). s.lines) at.saved in
    let records = ap (λ (l : List Record). length l) at.records_are in
    let version = shown_version found.process (point_of stands).reached.guest stands.process
    at.shows in
    numbers_same generation steps answers lines records version
  where
    numbers_same : {g g' s s' a a' l l' r r' : ℕ} {v v' : Version} → g ≡ g' → s ≡ s' → a ≡ a'
        → l ≡ l' → r ≡ r' → v ≡ v'
        → ◌≡◌ {A = Survey}
        (record { generation = g; steps = s; answers = a; lines = l; records = r; version = v })
        (record {
          generation = g';
          steps = s';
          answers = a';
          lines = l';
          records = r';
          version = v';
        })
    numbers_same e f h i j k = rw (e, f, h, i, j, k) refl

module _ {T : Type 0} (old sync new : Medium) (done : T)
    (syncs : SyncsMedium {T = T} (Ok done) old sync) (reads : OnlyReads sync new)
    (few : CallsUpTo (2 * sync.sectors) sync new) where
  finds_there : (result : Result Found RecoverFault) (one : FindsOne sync.sectors new result)
      → (image : DiskImage) → new.shows image → FindsWorker old.sectors one.0 image result
  finds_there result one =
      let passes = syncs.passes in
      subst (λ n. (image : DiskImage) → new.shows image → FindsWorker n one.0 image result)
      passes.sectors one.1

  -- no worker was found
  pub unfound_surveys : (why : RecoverFault) (one : FindsOne sync.sectors new (Err why))
      → ((image : DiskImage) → new.shows image → MarksDecide {T = Found} image (Err why))
      → HasSearchCause sync new why
      → ((image : DiskImage) → new.shows image → FindsIn sync.sectors image (Err why))
      → Surveys (Err why) old new
  unfound_surveys why one marks cause shown = inr (
    is_just_synced old sync new done syncs reads few,
    λ fault is. (let same : why ≡ recover.Worker (Disk fault) = cc in
        since old.faults sync.faults new.faults earlier
        (subst (λ (e : RecoverFault). HasSearchCause sync new e) same cause)),
    λ image shows. (let decide = marks image shows in record {
      marks = record { only = decide.only; always = decide.always };
      tells = λ m config kept n stands room.
          finds_there (Err why) one image shows m config (point_of stands) stands.records
          stands.last (is_at_its_savepoint image m config kept n stands) room;
      shown = found_there old sync new done syncs (Err why) shown image shows;
    }),
  )
    where
      earlier : old.faults ≤ sync.faults
      earlier = (let passes = syncs.passes in passes.faults)

      since : (a b c : ℕ) → a ≤ b → b < c → a < c
      since a b c x y = omega (arith, x, y)

  -- one was
  pub found_surveys : (found : Found) (one : FindsOne sync.sectors new (Ok found))
      → ((image : DiskImage) → new.shows image → MarksDecide {T = Found} image (Ok found))
      → ((image : DiskImage) → new.shows image → FindsIn sync.sectors image (Ok found))
      → Surveys (Ok (numbers_of_found found)) old new
  found_surveys found one marks shown = inr (
    is_just_synced old sync new done syncs reads few,
    λ fault is. absurd (cc),
    λ image shows. (let decide = marks image shows in record {
      marks = record {
        only = λ denies. absurd denies;
        always = λ blank. absurd (decide.always blank);
      };
      tells = λ m config kept n stands room.
          numbers_are one.0 stands found
          (finds_there (Ok found) one image shows m config (point_of stands) stands.records
          stands.last (is_at_its_savepoint image m config kept n stands) room);
      shown = surveyed old.sectors image found
          (found_there old sync new done syncs (Ok found) shown image shows);
    }),
  )
