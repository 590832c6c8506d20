-- A disk in a file as it was opened or made at a path, or why there is none.
use Rattle.std.specs.Prelude.{◌≡◌, ◌<◌, ◌≤◌, ◌⊎◌, ◌^◌, ◌*◌, ◌/◌, ℕ, List, [], true, false, IsTrue}
use Rattle.sector_disk.specs.rules.DiskImage.{DiskImage, zeros}
use Rattle.sector_disk.specs.rules.File.{answers_of, file_medium, file_of, first_of}
use Rattle.sector_disk.specs.rules.Known.{KnownFiles, KnownHandles}
use Rattle.sector_disk.specs.declared.file.FileDisk.{FileDisk}
use Rattle.sector_disk.specs.declared.open_fault.OpenCause.TheVariants.{NoDevice, NoRoom, TooLarge}
use Rattle.sector_disk.specs.declared.open_fault.OpenFault.{OpenFault}
use Rattle.sector_disk.specs.declared.open_fault.OpenFault.TheVariants.{Io}
use Rattle.sector_disk.specs.declared.sector.TheConstants.{SECTOR_SIZE}

-- no file can have so many sectors
abbrev pub IsTooLarge : ℕ → OpenFault → Type 0
IsTooLarge count why = (2 ^ 54 ≤ count) × (why ≡ Io TooLarge)

-- a file is no block device, or has fewer sectors
abbrev pub IsUnfit : {F : Type 0} → KnownHandles F → ℕ → F → OpenFault → Type 0
IsUnfit handles count file why = (IsTrue (handles.device file false) × (why ≡ Io NoDevice))
    ⊎ ((bytes : ℕ) × (image : DiskImage) × IsTrue (handles.measured file bytes image)
    × (bytes / SECTOR_SIZE < count) × (why ≡ Io NoRoom))

module _ {F : Type 0} (handles : KnownHandles F) (files : KnownFiles F) (path : List ℕ) where
  -- The disk in the file at this path, locked and not asked for anything yet. It has the image that
  -- was in the file's whole sectors.
  pub record IsOpenedAt (disk : FileDisk F) : Type 0 where
    pub opened : IsTrue (files.opened path (file_of disk))
    pub locked : IsTrue (handles.locked (file_of disk))
    pub bytes : ℕ
    pub measured : IsTrue (handles.measured (file_of disk) bytes (first_of disk))
    pub sectors : (file_medium disk).sectors ≡ bytes / SECTOR_SIZE
    pub untouched : answers_of disk ≡ []

  -- Why none is opened there: the system refuses the path, or a call of the file fails.
  abbrev pub IsUnopenedAt : OpenFault → Type 0
  IsUnopenedAt why = IsTrue (files.refused path why)
      ⊎ ((file : F) × IsTrue (files.opened path file) × IsTrue (handles.failed file why))

  -- The disk in the file at this path, opened to read and nothing else, without its lock, and not
  -- asked for anything yet.
  pub record IsSeenAt (disk : FileDisk F) : Type 0 where
    pub readable : IsTrue (files.readable path (file_of disk))
    pub bytes : ℕ
    pub measured : IsTrue (handles.measured (file_of disk) bytes (first_of disk))
    pub sectors : (file_medium disk).sectors ≡ bytes / SECTOR_SIZE
    pub untouched : answers_of disk ≡ []

  -- Why none is seen there: the system refuses the path, or a call of the file fails.
  abbrev pub IsUnseenAt : OpenFault → Type 0
  IsUnseenAt why = IsTrue (files.refused path why)
      ⊎ ((file : F) × IsTrue (files.readable path file) × IsTrue (handles.failed file why))

  -- The disk in a file that was made at this path, locked and not asked for anything yet: so many
  -- sectors of zeros.
  pub record IsMadeAt (count : ℕ) (disk : FileDisk F) : Type 0 where
    pub made : IsTrue (files.made path (file_of disk))
    pub locked : IsTrue (handles.locked (file_of disk))
    pub resized : IsTrue (handles.resized (file_of disk) (count * SECTOR_SIZE))
    pub sectors : (file_medium disk).sectors ≡ count
    pub first : first_of disk ≡ zeros count
    pub untouched : answers_of disk ≡ []
    pub in_place : IsTrue (files.in_place path disk)

  -- Why a file that was made there isn't filled: a call of it or of its folder has failed, or the
  -- path leads to another one by then.
  abbrev pub IsUnfilled : F → OpenFault → Type 0
  IsUnfilled file why = IsTrue (handles.failed file why) ⊎ IsTrue (files.unsynced path why)
      ⊎ IsTrue (files.displaced path why)

  -- Why none is made there. There are too many sectors; or the system refuses the path; or a file
  -- was made, it couldn't be filled in its place, and it was to be removed again.
  abbrev pub IsUnmade : ℕ → OpenFault → Type 0
  IsUnmade count why = IsTooLarge count why ⊎ IsTrue (files.refused path why)
      ⊎ ((file : F) × IsTrue (files.made path file) × IsTrue (files.removed path)
      × IsUnfilled file why)

  -- The disk on a block device at this path, locked and not asked for anything yet: its first so
  -- many sectors, of zeros.
  pub record IsTakenAt (count : ℕ) (disk : FileDisk F) : Type 0 where
    pub opened : IsTrue (files.opened path (file_of disk))
    pub locked : IsTrue (handles.locked (file_of disk))
    pub device : IsTrue (handles.device (file_of disk) true)
    pub bytes : ℕ
    pub before : DiskImage
    pub measured : IsTrue (handles.measured (file_of disk) bytes before)
    pub room : count ≤ bytes / SECTOR_SIZE
    pub sectors : (file_medium disk).sectors ≡ count
    pub first : first_of disk ≡ zeros count
    pub untouched : answers_of disk ≡ []

  -- Why none is taken there: there are too many sectors, or none is opened, or the file isn't fit.
  abbrev pub IsUntaken : ℕ → OpenFault → Type 0
  IsUntaken count why = IsTooLarge count why ⊎ IsUnopenedAt why
      ⊎ ((file : F) × IsTrue (files.opened path file) × IsUnfit handles count file why)
