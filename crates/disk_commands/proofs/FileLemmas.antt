-- A disk in a file, opened for a command.
use Rattle.std.proofs.Common.{◌≡◌, ◌<◌, ◌⊎◌, ◌∙◌, ap, subst, sym, inl, inr, ⊎_elim, ℕ, Bool}
use Rattle.std.proofs.Common.{true, false, List, [], ◌++◌, arith}
use Rattle.std.specs.Prelude.{Result, Ok, Err, IfErr, IfOk, IsTrue}
use Rattle.std.proofs.lemmas.List.{append-nil}
use Rattle.sector_disk.specs.declared.file.FileDisk.{FileDisk}
use Rattle.sector_disk.specs.declared.memory.MemDisk.{MemDisk}
use Rattle.sector_disk.specs.rules.Answered.{file_calls, unsynced_of}
use Rattle.sector_disk.specs.rules.Calls.{synced_writes}
use Rattle.sector_disk.specs.rules.File.{answers_of, file_medium}
use Rattle.sector_disk.specs.rules.Known.{KnownFiles, KnownHandles}
use Rattle.sector_disk.specs.rules.Medium.{IsAllSynced, Medium, spare}
use Rattle.sector_disk.specs.rules.Memory.{memory_medium}
use Rattle.sector_disk.specs.rules.Open.{IsOpenedAt}
use Rattle.sector_disk.specs.rules.Rewrite.{AddsNothing}
use Rattle.command_words.specs.declared.telling.Obstacle.TheVariants.{Unread}
use Rattle.command_words.specs.rules.Printers.{PrinterState, Printers, printers}
use Rattle.command_words.specs.rules.Reports.{SaysLine, obstacle_words}
use Rattle.command_words.specs.declared.status.Status.{Status}
use Rattle.command_words.specs.declared.status.Status.TheVariants as exit
use Rattle.disk_commands.specs.rules.LivePictures.{IsPictureAt}
use Rattle.disk_commands.specs.rules.Openings.{CommandRun, command_run, IsWrittenBack, IsOpenedFor}
use Rattle.disk_commands.specs.rules.Openings.{SaysUnopened}
use Rattle.disk_commands.specs.rules.SeenDisks.{DoesSeen}

module _ {F : Type 0} (opened disk : FileDisk F) where
  -- what was written back of an untouched disk
  pub is_written_back : answers_of opened ≡ []
      → AddsNothing (file_medium opened) (file_medium disk) → IsAllSynced (file_medium disk)
      → (file_medium disk).sectors ≡ (file_medium opened).sectors
      → (file_medium disk).calls
      ≡ synced_writes 0 (file_medium opened).sectors ++ (file_medium opened).calls
      → IsWrittenBack opened disk
  is_written_back untouched adds_nothing all_synced sectors calls =
      let first = synced_writes 0 (file_medium opened).sectors in
      record {
        adds_nothing = adds_nothing;
        all_synced = all_synced;
        calls = calls ∙ ap (λ rest. first ++ file_calls rest) untouched ∙ append-nil first
            ∙ ap (λ n. synced_writes 0 n) (sym sectors);
      }

  -- a rewrite of an untouched disk has room for all of its sectors
  pub has_failed : answers_of opened ≡ []
      → (spare (file_medium opened) < (file_medium opened).sectors)
      ⊎ ((file_medium opened).faults < (file_medium disk).faults)
      → (file_medium opened).faults < (file_medium disk).faults
  has_failed untouched cause =
      let none : unsynced_of (answers_of opened) ≡ 0 = ap unsynced_of untouched in
      let fits = (file_medium opened).fits in
      ⊎_elim (λ (lt : spare (file_medium opened) < (file_medium opened).sectors).
      absurd (omega (arith, lt, none, fits))) (λ failed. failed) cause

module _ {F : Type 0} (handles : KnownHandles F) (files : KnownFiles F) (rewrites : Bool)
    (path : List ℕ) (opened : FileDisk F) where
  -- a disk that isn't to be written back
  pub opened_plainly : rewrites ≡ false → IsOpenedAt handles files path opened
      → IsOpenedFor handles files rewrites path opened
  opened_plainly is at = subst (λ b. IsOpenedFor handles files b path opened) (sym is) at

  -- one that is
  pub opened_back : rewrites ≡ true → IsOpenedAt handles files path opened
      → (result : Result (FileDisk F) Status) → IfOk result (λ disk. IsWrittenBack opened disk)
      → IfOk result (λ disk. IsOpenedFor handles files rewrites path disk)
  opened_back is at (Ok disk) written =
      subst (λ b. IsOpenedFor handles files b path disk) (sym is) (opened, at, written)
  opened_back is at (Err status) written = tt

  -- one that couldn't be written back
  pub unrewritten : rewrites ≡ true → IsOpenedAt handles files path opened
      → (old new : PrinterState) (result : Result (FileDisk F) Status)
      → IfErr result (λ status. (left : FileDisk F)
      × ((file_medium opened).faults < (file_medium left).faults) × IsTrue (files.closed left))
      → IfErr result (λ status. SaysLine (obstacle_words Unread) exit.IoError old status new)
      → IfErr result (λ status. SaysUnopened handles files rewrites path old status new)
  unrewritten is at old new (Ok disk) failed said = tt
  unrewritten is at old new (Err status) failed said = inr (
    is,
    record {
      opened = opened;
      disk = failed.0;
      at = at;
      fails = failed.1;
      closed = failed.2;
      says = said;
    },
  )

module _ {F : Type 0} (handles : KnownHandles F) (files : KnownFiles F) (path : List ℕ)
    (Does : (D : Type 0) → (D → Medium) → D → D → CommandRun → Type 0) (is_live : Bool)
    (out err mid : PrinterState) (after : Printers) (status : Status) (quiet : mid ≡ err) where
  -- what is done with a disk that was opened at a path, and of whose opening nothing was said
  pub does_opened : (opened disk : FileDisk F) → is_live ≡ false
      → IsOpenedAt handles files path opened → IsTrue (files.closed disk)
      → Does (FileDisk F) file_medium opened disk (command_run (printers out mid) after status)
      → DoesSeen handles files path Does (command_run (printers out err) after status) is_live
  does_opened opened disk is at closed does = rw is (inl (
    opened,
    disk,
    at,
    closed,
    subst (λ old. Does (FileDisk F) file_medium opened disk
        (command_run (printers out old) after status)) quiet does,
  ))

  -- what is done with a picture that was had of a path, and of whose taking nothing was said
  pub does_pictured : (picture looked : MemDisk) → is_live ≡ true
      → IsPictureAt handles files path (Ok picture)
      → Does MemDisk memory_medium picture looked (command_run (printers out mid) after status)
      → DoesSeen handles files path Does (command_run (printers out err) after status) is_live
  does_pictured picture looked is pictured does = rw is (inl (
    picture,
    looked,
    pictured,
    subst (λ old. Does MemDisk memory_medium picture looked
        (command_run (printers out old) after status)) quiet does,
  ))
