-- What is known of a worker whose disk holds what is promised.
use Rattle.std.proofs.Common.{◌≡◌, ℕ, ◌+◌, ◌-◌, ◌*◌, ◌≤◌, List, [], ◌++◌, length, sym, ◌∙◌, subst}
use Rattle.std.proofs.Common.{arith}
use Rattle.wasm_syntax.specs.declared.module.Module.{Module}
use Rattle.wasm_rules.specs.Validity.{IsValid}
use Rattle.wasi_abi.specs.rules.Configs.{Settings}
use Rattle.process_rules.specs.Processes.{ProcessState, Guest}
use Rattle.process_rules.specs.Runs.{Kept, Runs, Reaches}
use Rattle.process_rules.specs.Owing.{RunsQuietly}
use Rattle.process_rules.proofs.Quiet.{runs_join}
use Rattle.sector_disk.specs.rules.Medium.{Medium}
use Rattle.process.specs.rules.Values.{ProcessValue, ShowsProcess}
use Rattle.state_image.specs.rules.ProcessImage.{Saved}
use Rattle.state_image.specs.rules.Saving.{saved_of}
use Rattle.disk_layout.specs.declared.geometry.Geometry.{Geometry}
use Rattle.disk_layout.specs.declared.journal_sectors.TheConstants.{PAYLOAD_SIZE}
use Rattle.disk_layout.specs.rules.Journal.{TakesRecords}
use Rattle.journal.specs.rules.Packed.{sectors_for}
use Rattle.worker_store.specs.restart_theorem.Lives.{Act, Reply, Ended, kept_by_end}
use Rattle.worker_store.specs.restart_theorem.Promises.{Promise, after, saved_by, synced_by}
use Rattle.worker_store.specs.restart_theorem.Holds.{KeepsPromise}
use Rattle.worker_store.specs.rules.Carried.{count_at, SyncsAreHeld}
use Rattle.worker_store.proofs.LawLemmas.AtHand.{version_stays, version_shown}
use Rattle.worker_store.proofs.LawLemmas.Carrying.{carried_keeps, all_is_held}
use Rattle.worker_store.proofs.LawLemmas.Raising.{carried_is_reached, quiet_syncs_are_held}
use Rattle.worker_store.proofs.LawLemmas.Raising.{ended_carries}
use Rattle.worker_store.specs.declared.store.WorkerStore.{WorkerStore}
use Rattle.worker.specs.laws.Bounds.{OpenWorkersHaveOneVersion}
use Rattle.worker.specs.rules.OpenWorkers.{IsOnDisk, identity}

-- all kept answers lead there
pub record IsReachedBy (m : Module) (config : Settings) (guest : Guest) (promise : Promise)
    (p : ProcessState) : Type 0 where
  pub reached : Reaches m config promise.kept p.steps p
  pub guest_is : reached.guest ≡ guest

-- up to an earlier step
pub fewer_syncs : (m : Module) (config : Settings) (promise : Promise) (held step earlier : ℕ)
    → earlier ≤ step → SyncsAreHeld m config promise.kept held step
    → SyncsAreHeld m config promise.kept held earlier
fewer_syncs m config promise held step earlier le syncs k a below behind =
    syncs k a (up_to k below) behind
  where
    up_to : (k : ℕ) → k ≤ earlier → k ≤ step
    up_to k below = omega (arith, below, le)

module _ {D : Type 0} (medium : D → Medium) (m : Module) (config : Settings) (guest : Guest)
    (promise : Promise) (p : ProcessState) (step latest : ℕ) (store : WorkerStore) (disk : D)
    (is : IsOnDisk (identity m config guest) promise p step latest store (medium disk)) where
  pub valid_module : IsValid m
  valid_module = is.point.accepted.valid

  pub runs_there : Runs is.point.reached.guest is.now [] is.n p
  runs_there = subst (λ g. Runs g is.now [] is.n p) (sym is.same) is.runs

  pub reached_now : IsReachedBy m config guest promise p
  reached_now =
      let r = carried_is_reached medium m config promise is.point store.journal is.records
      is.pending is.last is.now p is.n disk is.carried is.on_record runs_there in
      record { reached = r.0; guest_is = r.1 ∙ is.same }

  pub keeps_now : KeepsPromise m config promise (medium disk)
  keeps_now =
      carried_keeps medium m config promise is.point store.journal is.records is.pending is.last
      is.now disk is.carried

  -- less is asked of it
  pub lowered_to : (earlier later : ℕ) → earlier ≤ step → latest ≤ later
      → IsOnDisk (identity m config guest) promise p earlier later store (medium disk)
  lowered_to earlier later le more = record {
    point = is.point;
    same = is.same;
    records = is.records;
    pending = is.pending;
    last = is.last;
    now = is.now;
    stores = is.stores;
    carried = is.carried;
    on_record = is.on_record;
    n = is.n;
    runs = is.runs;
    syncs = fewer_syncs m config promise (count_at is.point is.records) step earlier le is.syncs;
    early = (let early = is.early in omega (arith, early, more));
  }

  -- steps without answers
  pub stepped_to : (q : ProcessState) (k next : ℕ) → Runs guest p [] k q
      → SyncsAreHeld m config promise.kept (count_at is.point is.records) next
      → IsOnDisk (identity m config guest) promise q next latest store (medium disk)
  stepped_to q k next runs syncs = record {
    point = is.point;
    same = is.same;
    records = is.records;
    pending = is.pending;
    last = is.last;
    now = is.now;
    stores = is.stores;
    carried = is.carried;
    on_record = is.on_record;
    n = is.n + k;
    runs = runs_join guest is.now p q [] [] is.n k is.runs runs;
    syncs = syncs;
    early = is.early;
  }

  -- after which nothing is owed
  pub quiet_syncs : (q : ProcessState) (k : ℕ) → p.steps ≤ step → RunsQuietly guest p k q
      → SyncsAreHeld m config promise.kept (count_at is.point is.records) q.steps
  quiet_syncs q k here quiet =
      let by = reached_now in
      quiet_syncs_are_held m config promise.kept (count_at is.point is.records) k p q valid_module
      by.reached (subst (λ g. RunsQuietly g p k q) (sym by.guest_is) quiet)
      (fewer_syncs m config promise (count_at is.point is.records) step p.steps here is.syncs)

  -- a call ends that saves nothing
  pub ended_on : (act : Act) (reply : Reply) (held : ℕ) (shown : Saved)
      → kept_by_end act shown promise.kept ≡ promise.kept
      → ((count : ℕ) → saved_by act reply count ≡ 0) → synced_by reply shown.steps ≤ step
      → IsOnDisk (identity m config guest) (after promise (Ended act reply held shown)) p step
      latest
      store (medium disk)
  ended_on act reply held shown kept saves_none below = record {
    point = is.point;
    same = is.same;
    records = is.records;
    pending = is.pending;
    last = is.last;
    now = is.now;
    stores = is.stores;
    carried = ended_carries medium m config promise is.point store.journal is.records is.pending
        is.last is.now act reply held shown disk is.carried kept saves_none
        (fewer_syncs m config promise (count_at is.point is.records) step
        (synced_by reply shown.steps) below is.syncs);
    on_record = kept ∙ is.on_record;
    n = is.n;
    runs = is.runs;
    syncs = subst (λ (l : List Kept). SyncsAreHeld m config l (count_at is.point is.records) step)
        (sym kept) is.syncs;
    early = is.early;
  }

-- ---- its version

module _ (m : Module) (config : Settings) (guest : Guest) (promise : Promise) (p : ProcessState)
    (step latest : ℕ) (store : WorkerStore) (disk : Medium)
    (is : IsOnDisk (identity m config guest) promise p step latest store disk) where
  -- process, journal and savepoint are of one version
  pub version_now : p.host.version ≡ is.point.saved.version
  version_now =
      let held = all_is_held m config promise is.point store.journal is.records is.pending is.last
      is.now disk is.carried in
      version_stays m config is.point (is.records ++ is.pending) is.now p is.n held.recorded
      (subst (λ g. Runs g is.now [] is.n p) (sym is.same) is.runs)

  pub one_version : store.journal.version ≡ p.host.version
  one_version =
      let stores = is.stores in
      let journaled = stores.journaled in
      journaled.version ∙ sym version_now

  -- and the journal takes the records of it
  pub room_now : (v : ProcessValue) → ShowsProcess v guest p
      → TakesRecords (saved_of v).version config.journal
  room_now v shows =
      subst (λ w. TakesRecords w config.journal)
      (sym (version_shown guest v p shows ∙ version_now)) is.point.room

  -- it has room for the records that are pending
  pub records_fit : sectors_for (length store.journal.kept)
      ≤ store.geometry.journal_sectors - store.journal.used
  records_fit =
      let stores = is.stores in
      few_sectors (length store.journal.kept)
      (store.geometry.journal_sectors - store.journal.used)
      (subst (λ (g : Geometry). length store.journal.kept
      ≤ PAYLOAD_SIZE * (g.journal_sectors - store.journal.used)) (sym stores.geometry) stores.fits)
    where
      few_sectors : (kept n : ℕ) → kept ≤ PAYLOAD_SIZE * n → sectors_for kept ≤ n
      few_sectors kept n fits = omega (arith, fits)

-- ---- an open worker

pub open_workers_have_one_version : {D : Type 0} (medium : D → Medium)
    → OpenWorkersHaveOneVersion medium
open_workers_have_one_version medium m config guest promise stage p w disk opened = (
  version_shown guest w.process p opened.shows,
  one_version m config guest promise p p.steps promise.events w.store (medium disk)
      opened.on_disk,
  sym (version_now m config guest promise p p.steps promise.events w.store (medium disk)
      opened.on_disk),
)
