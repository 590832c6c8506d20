-- What `wasmhost save` does: all sectors of a worker's disk, or of a picture of it, are copied to a
-- new file (this project's own).
use Rattle.std.specs.Prelude.{◌≡◌, ◌⊎◌, ◌≤◌, ℕ, ◌++◌, List, take, Bool, codes}
use Rattle.std.specs.Prelude.{IsTrue, Result, Ok, Err, OnOk, IfErr}
use Rattle.std.specs.Fmt.{decimal}
use Rattle.sector_disk.specs.declared.copying.CopyFault.{CopyFault}
use Rattle.sector_disk.specs.declared.copying.CopyFault.TheVariants as copy_fault
use Rattle.sector_disk.specs.declared.file.FileDisk.{FileDisk}
use Rattle.sector_disk.specs.declared.open_fault.OpenFault.{OpenFault}
use Rattle.sector_disk.specs.rules.Copying.{FailsToCopy, IsCopied, WasOnlyRead, copying_writes}
use Rattle.sector_disk.specs.rules.DiskImage.{DiskImage, zeros}
use Rattle.sector_disk.specs.rules.File.{file_medium}
use Rattle.sector_disk.specs.rules.Known.{KnownFiles, KnownHandles}
use Rattle.sector_disk.specs.rules.Medium.{IsAllSynced, LeavesOnly, Medium, PerformsCalls}
use Rattle.sector_disk.specs.rules.Open.{IsMadeAt, IsUnmade}
use Rattle.disk_layout.specs.rules.Places.{total_sectors}
use Rattle.disk_layout.specs.rules.Sectors.{HasMarks}
use Rattle.worker.specs.declared.inspection.Inspection.{Inspection}
use Rattle.worker.specs.declared.recover_fault.RecoverFault.{RecoverFault}
use Rattle.worker.specs.rules.Inspections.{Inspects}
use Rattle.command_words.specs.rules.Printers.{PrinterState, Printers, printers}
use Rattle.command_words.specs.rules.Reports.{SaysLine, SaysOnOutput}
use Rattle.command_words.specs.declared.status.Status.{Status}
use Rattle.command_words.specs.declared.status.Status.TheVariants as exit
use Rattle.disk_commands.specs.rules.Inspectings.{SaysRefusal}
use Rattle.disk_commands.specs.rules.Openings.{CommandRun, EndsInFile, open_words}
use Rattle.disk_commands.specs.rules.SeenDisks.{DoesSeen}

-- the line that is printed of a copy
abbrev pub saved_line : ℕ → List ℕ
saved_line sectors = codes "saved " ++ decimal sectors ++ codes " sectors\n"

-- Of a copy with a sector or more, which began as zeros, a cut at any moment leaves no worker, for
-- want of a mark of the super, or the whole copy of what the original shows.
abbrev pub LeavesNoneOrCopy : Medium → Medium → Medium → Type 0
LeavesNoneOrCopy original old new = (shown : DiskImage) → original.shows shown → 1 ≤ old.sectors
    → ((image : DiskImage) → old.crash_images image → image ≡ zeros old.sectors)
    → LeavesOnly old new (λ image. (HasMarks image → ⊥) ⊎ (image ≡ take old.sectors shown))

-- what is told of a copy that isn't made: which of the two disks has failed
abbrev pub uncopied_words : CopyFault → List ℕ
uncopied_words copy_fault.Sizes =
    codes "failed K2 Io\nthe copy has no sectors, or more than the disk"
uncopied_words (copy_fault.Original why) =
    codes "failed K2 Io\nthe disk can't be read: see to its device"
uncopied_words (copy_fault.Copy why) =
    codes "failed K2 Io\nthe copy can't be written: see to its device"

-- the copy was made, and how many sectors it has is said; or a disk has failed, and that is
abbrev pub SaysCopied : ℕ → Result (Unit {0}) CopyFault → Printers → Printers → Status → Type 0
SaysCopied sectors (Ok done) before after status =
    SaysOnOutput (saved_line sectors) exit.Done before after status
SaysCopied sectors (Err why) before after status =
    SaysLine (uncopied_words why) exit.IoError before.err status after.err
    × (after.out ≡ before.out)

-- As many sectors of the original as the copy has were copied. Then each cut leaves the copy whole.
-- Or it is said that a disk has failed.
pub record SavesCopy (original original' copy copy' : Medium) (before after : Printers)
    (status : Status) : Type 0 where
  pub answer : Result (Unit {0}) CopyFault
  pub copied : OnOk answer (IsCopied original' copy')
  pub all_synced : OnOk answer (IsAllSynced copy')
  pub any_moment : LeavesNoneOrCopy original' copy copy'
  pub only_read : WasOnlyRead copy.sectors original original'
  pub calls : PerformsCalls (copying_writes copy.sectors) answer copy copy'
  pub cause : IfErr answer (FailsToCopy original original' copy copy')
  pub says : SaysCopied copy.sectors answer before after status

module _ {F : Type 0} (handles : KnownHandles F) (files : KnownFiles F) (path : List ℕ) where
  -- A file was made at this path, of so many sectors, and the disk copied there. It is left there
  -- where the status is `Done`, and else it was to be removed. By `begun` and `told` the copy had
  -- ended so, before the path was looked at.
  pub record IsSavedInFile (sectors : ℕ) (original original' : Medium) (run : CommandRun)
      : Type 0 where
    pub copy : FileDisk F
    pub copy' : FileDisk F
    pub made : IsMadeAt handles files path sectors copy
    pub closed : IsTrue (files.closed copy')
    pub begun : Status
    pub told : PrinterState
    pub saves : SavesCopy original original' (file_medium copy) (file_medium copy') run.before
        (printers run.after.out told) begun
    pub ends : EndsInFile files path copy' begun told run.status run.after.err

  -- No file is made at this path, or none is left, and it is said why. The disk wasn't read. Or one
  -- is made, and the disk copied there.
  abbrev pub MakesCopy : ℕ → Medium → Medium → CommandRun → Type 0
  MakesCopy sectors original original' run =
      ((why : OpenFault) × IsUnmade handles files path sectors why
      × WasOnlyRead 0 original original'
      × SaysLine (open_words path why) exit.IoError run.before.err run.status run.after.err
      × (run.after.out ≡ run.before.out))
      ⊎ IsSavedInFile sectors original original' run

  -- What is said of a disk that was looked into, and done then. All sectors of a worker's disk are
  -- copied to a new file. One that is refused isn't read further.
  abbrev pub SavesTold : {D : Type 0} → (D → Medium) → Result Inspection RecoverFault → D → D
      → CommandRun → Type 0
  SavesTold medium (Ok told) disk disk' run =
      MakesCopy (total_sectors told.contents.geometry) (medium disk) (medium disk') run
  SavesTold medium (Err why) disk disk' run =
      (disk' ≡ disk) × SaysRefusal why run.before run.after run.status

  -- the disk is synced, and looked into
  abbrev pub SavesInspected : {D : Type 0} → (D → Medium) → D → D → CommandRun → Type 0
  SavesInspected {D} medium disk disk' run =
      (answer : Result Inspection RecoverFault) × (read : D)
      × Inspects answer (medium disk) (medium read)
      × SavesTold medium answer read disk' run

-- The worker on the disk in a file, live or not, is so saved at the second path.
abbrev pub SavesFile : {F : Type 0} → KnownHandles F → KnownFiles F → List ℕ → List ℕ
    → CommandRun → Bool → Type 0
SavesFile handles files path copy =
    DoesSeen handles files path (λ (D : Type 0). SavesInspected handles files copy {D = D})
