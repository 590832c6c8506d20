-- What is read of any disk, step by step.
use Rattle.std.proofs.Common.{◌≡◌, ◌⊎◌, inl, inr, ℕ, List, refl, sym, ap, ◌∙◌, subst}
use Rattle.std.specs.Prelude.{Result, Ok, Err, Option, Some}
use Rattle.sector_disk.specs.rules.DiskImage.{DiskImage}
use Rattle.disk_layout.specs.declared.damage.Damage.TheVariants as damage
use Rattle.disk_layout.specs.declared.fault.LayoutFault.TheVariants as layout
use Rattle.disk_layout.specs.declared.geometry.Geometry.{Geometry}
use Rattle.disk_layout.specs.declared.head.Head.{Head}
use Rattle.wasi_abi.specs.declared.version.Version.{Version}
use Rattle.wasi_abi.specs.rules.Versions.{version_number}
use Rattle.wasi_abi.proofs.VersionLemmas.{own_number}
use Rattle.disk_layout.specs.rules.Sectors.{IsNewest, HoldsProcessImage}
use Rattle.disk_layout.specs.rules.Journal.{Record, TakesRecords}
use Rattle.process_rules.specs.Processes.{ProcessState}
use Rattle.wasi_abi.specs.rules.Configs.{Settings}
use Rattle.wasm_syntax.specs.declared.module.Module.{Module}
use Rattle.snapshot.specs.declared.fault.SnapshotFault.{SnapshotFault}
use Rattle.snapshot.specs.declared.fault.SnapshotFault.TheVariants as snapshot
use Rattle.snapshot.specs.rules.Heads.{FindsHead, HasNone}
use Rattle.state_image.specs.rules.ProcessImage.{process_image, IsMarkedOtherwise}
use Rattle.state_image.proofs.Marks.{own_mark}
use Rattle.snapshot.specs.rules.Newest.{NamesBytes, ReadsProcessImage}
use Rattle.snapshot.proofs.LawLemmas.{shows_one}
use Rattle.snapshot.proofs.ReadLemmas.{named_holds}
use Rattle.worker_store.specs.declared.newest.NewestProcessImage.{NewestProcessImage}
use Rattle.worker_store.specs.declared.read_fault.ReadFault.{ReadFault}
use Rattle.worker_store.specs.declared.read_fault.ReadFault.TheVariants as read
use Rattle.worker_store.specs.laws.Readings.{FindsSaved}
use Rattle.worker_store.specs.rules.Savepoints.{Savepoint, places, IsAtSavepoint}
use Rattle.worker_store.specs.rules.Readings.{ReadsNewest}
use Rattle.worker_store.proofs.LawLemmas.Reading.{finds_newest_point, finds_the_point}
use Rattle.worker_store.proofs.LawLemmas.Reading.{reads_undamaged}
use Rattle.worker_store.specs.rules.ReadFaults.{read_of_snapshot}
use Rattle.worker_store.specs.Judging.{JudgesMark}
use Rattle.worker_store.specs.rules.AnyDisk.{TellsNewest, HasOtherVersion, NamesVersion}
use Rattle.worker_store.specs.rules.AnyDisk.{LacksItsProcessImage, HasShortJournal, HasOtherMark}
use Rattle.worker_store.specs.rules.AnyDisk.{NamesProcessImage}

-- ---- the newest head

module _ (geometry : Geometry) (disk : DiskImage) (found : Option Head) (head : Head)
    (is : found ≡ Some head) (finds : FindsHead disk found) where
  newest : IsNewest disk head.generation head
  newest = subst (λ (o : Option Head). FindsHead disk o) is finds

  pub other_version : ((v : Version) → head.version ≡ version_number v → ⊥)
      → HasOtherVersion disk
  other_version other = record { head = head; newest = newest; other = other }

  -- of this version
  module _ (version : Version) (known : head.version ≡ version_number version) where
    its_version : NamesVersion version disk head
    its_version = record { newest = newest; known = known }

    pub short_journal : (TakesRecords version geometry.journal_sectors → ⊥)
        → TellsNewest geometry disk (Err (read.Layout (layout.Damaged damage.ShortJournal)))
    short_journal short = record {
      version = version;
      head = head;
      is = its_version;
      short = short;
    }

    -- of which the journal takes the longest record
    module _ (room : TakesRecords version geometry.journal_sectors) where
      names_it : (bytes : List ℕ) → NamesBytes geometry disk head bytes
          → NamesProcessImage geometry disk head.generation version bytes
      names_it bytes names = record {
        holds = subst (λ v. HoldsProcessImage geometry disk head.generation v bytes) known
            (named_holds geometry disk head bytes newest names);
        room = room;
      }

      pub judged : (bytes : List ℕ) → NamesBytes geometry disk head bytes
          → (result : Result NewestProcessImage ReadFault)
          → JudgesMark version head.generation bytes result → TellsNewest geometry disk result
      judged bytes names (Ok found) judges =
          subst (λ (f : NewestProcessImage). TellsNewest geometry disk (Ok f)) (sym judges.0)
          (names_it bytes names, judges.1)
      judged bytes names (Err why) judges =
          subst (λ (f : ReadFault). TellsNewest geometry disk (Err f)) (sym judges.0)
          (record {
            generation = head.generation;
            here = refl;
            version = version;
            bytes = bytes;
            named = names_it bytes names;
            other = judges.1;
          })

      unread_process_image : (fault : SnapshotFault) → (fault ≡ snapshot.Failed → ⊥)
          → ReadsProcessImage geometry disk head (Err fault)
          → TellsNewest geometry disk (Err (read_of_snapshot fault))
      unread_process_image snapshot.TooBig works reads = absurd reads
      unread_process_image snapshot.Damaged works reads = inr (record {
        version = version;
        head = head;
        is = its_version;
        room = room;
        lacks = reads;
      })
      unread_process_image (snapshot.Disk fault) works reads = tt
      unread_process_image snapshot.Memory works reads = record {
        version = version;
        head = head;
        is = its_version;
        room = room;
      }
      unread_process_image snapshot.Failed works reads = works refl

      pub process_image_wrong : (fault : SnapshotFault) (e : ReadFault) → e ≡ read_of_snapshot fault
          → (fault ≡ snapshot.Failed → ⊥) → ReadsProcessImage geometry disk head (Err fault)
          → TellsNewest geometry disk (Err e)
      process_image_wrong fault e same works reads =
          subst (λ (f : ReadFault). TellsNewest geometry disk (Err f)) (sym same)
          (unread_process_image fault works reads)

-- ---- where a savepoint is

module _ (geometry : Geometry) (disk : DiskImage) (m : Module) (config : Settings)
    (point : Savepoint m config) (records : List Record) (last : ProcessState)
    (at : IsAtSavepoint point records last disk) (placed : geometry ≡ places point) where
  saved : FindsSaved point disk
  saved = finds_newest_point m config point records last disk at

  -- an image that is named is that of the savepoint
  its_process_image : (generation : ℕ) (version : Version) (bytes : List ℕ)
      → NamesProcessImage geometry disk generation version bytes
      → (generation ≡ point.generation) × (version ≡ point.saved.version)
      × (bytes ≡ process_image point.saved)
  its_process_image generation version bytes names =
      let holds = at.holds in
      let found = shows_one.same (places point) disk generation point.generation
      (version_number version) (version_number point.saved.version) bytes
      (process_image point.saved) (subst (λ (p : Geometry). HoldsProcessImage p disk generation
      (version_number version) bytes) placed names.holds) holds in
      (found.0, own_number version point.saved.version found.1, found.2)

  its_snapshot : (s : NewestProcessImage) → TellsNewest geometry disk (Ok s)
      → (s.generation ≡ point.generation) × (s.version ≡ point.saved.version)
      × (s.process_image ≡ process_image point.saved)
  its_snapshot s tells = its_process_image s.generation s.version s.process_image tells.0

  -- the newest head is of the version of the savepoint
  head_version : (head : Head) → IsNewest disk head.generation head
      → head.version ≡ version_number point.saved.version
  head_version head newest =
      let there = finds_the_point m config point records last disk (Some head) at newest in
      let is = there.1 in
      let same : head ≡ there.0 = cc in
      ap (λ (h : Head). h.version) same ∙ there.3

  not_another : HasOtherVersion disk → ⊥
  not_another tells = tells.other point.saved.version (head_version tells.head tells.newest)

  not_lacking : LacksItsProcessImage geometry disk → ⊥
  not_lacking tells =
      let is = tells.is in
      reads_undamaged m config point records last disk tells.head at is.newest
      (subst (λ (p : Geometry). (bytes : List ℕ) → NamesBytes p disk tells.head bytes → ⊥) placed
      tells.lacks)

  not_damaged : HasNone disk ⊎ LacksItsProcessImage geometry disk → ⊥
  not_damaged (inl none) = let there = saved in there.some none
  not_damaged (inr lacks) = not_lacking lacks

  not_short : HasShortJournal geometry disk → ⊥
  not_short tells =
      let is = tells.is in
      let version : tells.version ≡ point.saved.version =
      own_number tells.version point.saved.version
      (sym is.known ∙ head_version tells.head is.newest) in
      tells.short (subst (λ v. TakesRecords v geometry.journal_sectors) (sym version)
      (subst (λ (p : Geometry). TakesRecords point.saved.version p.journal_sectors) (sym placed)
      point.room))

  not_marked : (area : ℕ) → HasOtherMark geometry disk area → ⊥
  not_marked area tells =
      let found = its_process_image tells.generation tells.version tells.bytes tells.named in
      own_mark point.saved (subst (λ v. IsMarkedOtherwise v (process_image point.saved)) found.1
      (subst (λ b. IsMarkedOtherwise tells.version b) found.2 tells.other))

-- what is told there is what was saved
pub reads_newest : (geometry : Geometry) (disk : DiskImage)
    (result : Result NewestProcessImage ReadFault) → TellsNewest geometry disk result
    → ReadsNewest geometry disk result
reads_newest geometry disk (Ok s) tells =
    λ m config point records last at placed.
    its_snapshot geometry disk m config point records last at placed s tells
reads_newest geometry disk (Err (read.Layout layout.Version)) tells =
    λ m config point records last at placed.
    not_another geometry disk m config point records last at placed tells
reads_newest geometry disk (Err (read.Layout (layout.Damaged damage.ShortJournal))) tells =
    λ m config point records last at placed.
    not_short geometry disk m config point records last at placed tells
reads_newest geometry disk (Err (read.Layout (layout.Damaged (damage.OtherMark area)))) tells =
    λ m config point records last at placed.
    not_marked geometry disk m config point records last at placed area tells
reads_newest geometry disk (Err (read.Snapshot snapshot.Damaged)) tells =
    λ m config point records last at placed.
    not_damaged geometry disk m config point records last at placed tells
reads_newest geometry disk (Err (read.Snapshot snapshot.Memory)) tells =
    λ m config point records last at placed. tt
reads_newest geometry disk (Err (read.Disk fault)) tells =
    λ m config point records last at placed. tt
reads_newest geometry disk (Err other) tells = absurd tells
