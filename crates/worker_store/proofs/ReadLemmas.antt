-- What is read of a disk that is at a savepoint.
use Rattle.std.proofs.Common.{◌≡◌, ◌≤◌, ℕ, List, refl, sym, subst}
use Rattle.std.specs.Prelude.{Result, Ok, Err, IfOk, IsTrue}
use Rattle.std.proofs.lemmas.Bool.{false≢true}
use Rattle.wasm_syntax.specs.declared.module.Module.{Module}
use Rattle.wasi_abi.specs.rules.Configs.{Settings}
use Rattle.process_rules.specs.Processes.{ProcessState}
use Rattle.sector_disk.specs.rules.DiskImage.{DiskImage}
use Rattle.disk_layout.specs.declared.fault.LayoutFault.{LayoutFault}
use Rattle.disk_layout.specs.declared.fault.LayoutFault.TheVariants as layout
use Rattle.disk_layout.specs.declared.reading.contents.Contents.{Contents}
use Rattle.disk_layout.specs.rules.Held.{GivesContents}
use Rattle.disk_layout.specs.rules.Journal.{Record}
use Rattle.disk_layout.specs.rules.Places.{total_sectors}
use Rattle.snapshot.specs.declared.snapshots.SaveState.{SaveState}
use Rattle.snapshot.specs.declared.snapshots.SaveState.TheVariants as state
use Rattle.snapshot.specs.declared.snapshots.Snapshots.{Snapshots}
use Rattle.snapshot.specs.rules.Snapshots.{has_failed, is_failed, is_idle, is_idle_state}
use Rattle.worker_store.specs.rules.Savepoints.{Savepoint, places, IsAtSavepoint}
use Rattle.worker_store.proofs.LawLemmas.Reading.{reads_the_module}
use Rattle.worker_store.specs.declared.read_fault.ReadFault.{ReadFault}
use Rattle.worker_store.specs.rules.ReadFaults.{read_of_layout}
use Rattle.worker_store.specs.rules.Readings.{ReadsContents}
use Rattle.snapshot.proofs.PushLemmas.{ok_no_err}

-- ---- configuration and module

module _ (sectors : ℕ) (disk : DiskImage) (m : Module) (config : Settings)
    (point : Savepoint m config) (records : List Record) (last : ProcessState)
    (at : IsAtSavepoint point records last disk)
    (room : total_sectors (places point) ≤ sectors) where
  abbrev stored : Contents
  stored = record { geometry = places point; config = config; wasm = point.wasm }

  pub contents_ok : (found : Contents) → GivesContents sectors disk (Ok found) → found ≡ stored
  contents_ok found gives =
      let same = reads_the_module m config point records last disk sectors (Ok found) at room tt
      gives in
      let P : Result Contents LayoutFault → Type 0 = λ r. IfOk r (λ c. found ≡ c) in
      subst P same refl

-- where it fails that says nothing of the disk
pub contents_failed : (sectors : ℕ) (disk : DiskImage) (fault : LayoutFault) (e : ReadFault)
    → e ≡ read_of_layout fault → GivesContents sectors disk (Err fault)
    → ReadsContents sectors disk (Err e)
contents_failed sectors disk layout.NotAWorker e same gives =
    λ m config point records last at room.
    absurd (ok_no_err _ layout.NotAWorker
    (sym (reads_the_module m config point records last disk
    sectors (Err layout.NotAWorker) at room tt gives)))
contents_failed sectors disk layout.Version e same gives =
    λ m config point records last at room.
    absurd (ok_no_err _ layout.Version (sym (reads_the_module m config point records last disk
    sectors (Err layout.Version) at room tt gives)))
contents_failed sectors disk layout.TooSmall e same gives =
    λ m config point records last at room.
    absurd (ok_no_err _ layout.TooSmall (sym (reads_the_module m config point records last disk
    sectors (Err layout.TooSmall) at room tt gives)))
contents_failed sectors disk (layout.Damaged why) e same gives =
    λ m config point records last at room.
    absurd (ok_no_err _ (layout.Damaged why)
    (sym (reads_the_module m config point records last disk
    sectors (Err (layout.Damaged why)) at room tt gives)))
contents_failed sectors disk layout.Memory e same gives =
    subst (λ (f : ReadFault). ReadsContents sectors disk (Err f)) (sym same)
    (λ m config point records last at room. tt)
contents_failed sectors disk (layout.Disk fault) e same gives =
    subst (λ (f : ReadFault). ReadsContents sectors disk (Err f)) (sym same)
    (λ m config point records last at room. tt)

-- ---- the snapshot

idle_works_in : (t : SaveState) → IsTrue (is_idle_state t) → IsTrue (has_failed t) → ⊥
idle_works_in state.Idle idle failed = false≢true failed
idle_works_in (state.Begun w) idle failed = false≢true failed
idle_works_in state.Failed idle failed = false≢true idle

pub idle_works : (s : Snapshots) → IsTrue (is_idle s) → IsTrue (is_failed s) → ⊥
idle_works s idle failed = idle_works_in s.state idle failed
