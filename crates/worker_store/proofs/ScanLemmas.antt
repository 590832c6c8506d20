-- What is read of a journal, by what a scan of it has found.
use Rattle.std.proofs.Common.{◌≡◌, ◌⊎◌, inl, inr, ℕ, ◌+◌, ◌<◌, refl, sym, subst, arith, add-zero}
use Rattle.std.specs.Prelude.{Result, Ok, Err, Vec, IsTrue, ◌↔◌}
use Rattle.std.specs.declared.alloc.Global.{Global}
use Rattle.wasi_abi.specs.declared.version.Version.{Version}
use Rattle.sector_disk.specs.declared.fault.DiskFault.{DiskFault}
use Rattle.sector_disk.specs.rules.DiskImage.{DiskImage, sector_at}
use Rattle.disk_layout.specs.declared.fault.LayoutFault.{LayoutFault}
use Rattle.disk_layout.specs.declared.damage.Damage.{Damage}
use Rattle.disk_layout.specs.declared.damage.Damage.TheVariants as damage
use Rattle.disk_layout.specs.declared.fault.LayoutFault.TheVariants as layout
use Rattle.disk_layout.specs.declared.geometry.Geometry.{Geometry}
use Rattle.disk_layout.specs.rules.Journal.{Record}
use Rattle.disk_layout.specs.rules.Places.{journal_place}
use Rattle.disk_layout.specs.rules.Sectors.{shown_generation}
use Rattle.journal.specs.declared.fault.JournalFault.{JournalFault}
use Rattle.journal.specs.declared.fault.JournalFault.TheVariants as journal
use Rattle.journal.specs.declared.scanned.ScannedJournal.{ScannedJournal}
use Rattle.journal.specs.rules.Steps.{JournalHolds, ShowsLater}
use Rattle.journal.proofs.HeldLemmas.{holds_one_list}
use Rattle.worker_store.specs.restart_theorem.Stands.{ShowsNoneLater}
use Rattle.worker_store.specs.declared.read_fault.ReadFault.{ReadFault}
use Rattle.worker_store.specs.declared.read_fault.ReadFault.TheVariants as read
use Rattle.worker_store.specs.Judging.{JudgesScan}
use Rattle.worker_store.specs.rules.AnyDisk.{TellsRecords}
use Rattle.worker_store.specs.rules.ReadFaults.{read_of_journal}
use Rattle.worker_store.specs.rules.Readings.{ReadsRecords}
use Rattle.worker_store.specs.rules.Savepoints.{places}

-- ---- what is told

module _ (geometry : Geometry) (version : Version) (g : ℕ) (disk : DiskImage) where
  -- of what was scanned
  pub judged_scan : (scanned : ScannedJournal)
      → JournalHolds geometry version g scanned.records.items disk
      → (IsTrue scanned.shows_later ↔ ShowsLater geometry g disk)
      → (result : Result (Vec Record Global) ReadFault) → JudgesScan scanned result
      → TellsRecords geometry version g disk result
  judged_scan scanned are later (Ok found) judges = (
    subst (λ (v : Vec Record Global). JournalHolds geometry version g v.items disk)
        (sym judges.0) are,
    λ shows. judges.1 (later.1 shows),
  )
  judged_scan scanned are later (Err why) judges =
      subst (λ (f : ReadFault). TellsRecords geometry version g disk (Err f)) (sym judges.0)
      (later.0 judges.1)

  told_of : (fault : JournalFault)
      → (fault ≡ journal.Memory) ⊎ ((d : DiskFault) × (fault ≡ journal.Disk d))
      → (fault ≡ journal.Memory → ShowsLater geometry g disk → ⊥)
      → TellsRecords geometry version g disk (Err (read_of_journal fault))
  told_of (journal.Disk d) which_fault memory = tt
  told_of journal.Memory which_fault memory = memory refl
  told_of journal.Full (inl is) memory = absurd (cc)
  told_of journal.Full (inr is) memory = let same = is.1 in absurd (cc)
  told_of journal.TooLong (inl is) memory = absurd (cc)
  told_of journal.TooLong (inr is) memory = let same = is.1 in absurd (cc)
  told_of journal.Failed (inl is) memory = absurd (cc)
  told_of journal.Failed (inr is) memory = let same = is.1 in absurd (cc)

  -- where it couldn't be scanned
  pub unscanned : (fault : JournalFault) (e : ReadFault) → e ≡ read_of_journal fault
      → (fault ≡ journal.Memory) ⊎ ((d : DiskFault) × (fault ≡ journal.Disk d))
      → (fault ≡ journal.Memory → ShowsLater geometry g disk → ⊥)
      → TellsRecords geometry version g disk (Err e)
  unscanned fault e is which_fault memory =
      subst (λ (f : ReadFault). TellsRecords geometry version g disk (Err f)) (sym is)
      (told_of fault which_fault memory)

-- a later generation is told by no fault of the journal
pub not_of_layout : (fault : JournalFault) (e : ReadFault) (why : LayoutFault)
    → e ≡ read_of_journal fault
    → ◌≡◌ {A = Result (Vec Record Global) ReadFault} (Err e) (Err (read.Layout why)) → ⊥
not_of_layout (journal.Disk d) e why is same = cc
not_of_layout journal.Full e why is same = cc
not_of_layout journal.TooLong e why is same = cc
not_of_layout journal.Memory e why is same = cc
not_of_layout journal.Failed e why is same = cc

-- it is told only where the scan says so, and as that
pub refused_later : (scanned : ScannedJournal) (result : Result (Vec Record Global) ReadFault)
    (why : Damage) → JudgesScan scanned result
    → result ≡ Err (read.Layout (layout.Damaged why))
    → (why ≡ damage.LaterGeneration) × IsTrue scanned.shows_later
refused_later scanned (Ok found) why judges same = absurd (cc)
refused_later scanned (Err e) why judges same = (cc, judges.1)

-- ---- where a savepoint is

none_shown_later : (geometry : Geometry) (disk : DiskImage) (g : ℕ)
    → ShowsNoneLater geometry disk g → ShowsLater geometry g disk → ⊥
none_shown_later geometry disk g none shows =
    let at = none.journal 0 shows.some in
    let later : g < shown_generation 1 (sector_at disk (journal_place geometry + 0)) =
    subst (λ n. g < shown_generation 1 (sector_at disk n)) (sym (add-zero (journal_place geometry)))
    shows.later in
    omega (arith, at, later)

-- what is told there are its records
pub reads_records : (geometry : Geometry) (version : Version) (g : ℕ) (disk : DiskImage)
    (result : Result (Vec Record Global) ReadFault) → TellsRecords geometry version g disk result
    → ReadsRecords geometry version g disk result
reads_records geometry version g disk (Ok found) tells =
    λ m config point records last at placed same_version same_generation.
    holds_one_list (places point) point.saved.version point.generation found.items records disk
    (subst (λ n. JournalHolds (places point) point.saved.version n found.items disk)
    same_generation (subst (λ v. JournalHolds (places point) v g found.items disk) same_version
    (subst (λ (p : Geometry). JournalHolds p version g found.items disk) placed tells.0)))
    at.in_journal
reads_records geometry version g disk
    (Err (read.Layout (layout.Damaged damage.LaterGeneration))) tells =
    λ m config point records last at placed same_version same_generation.
    none_shown_later (places point) disk point.generation at.none_later
    (subst (λ n. ShowsLater (places point) n disk) same_generation
    (subst (λ (p : Geometry). ShowsLater p g disk) placed tells))
reads_records geometry version g disk (Err (read.Journal journal.Memory)) tells =
    λ m config point records last at placed same_version same_generation. tt
reads_records geometry version g disk (Err (read.Disk fault)) tells =
    λ m config point records last at placed same_version same_generation. tt
reads_records geometry version g disk (Err other) tells = absurd tells
