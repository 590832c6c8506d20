-- What an error of the operating system says of a path.
use Rattle.std.specs.Prelude.{ℕ, ℤ, ◌==◌, if◌then◌else◌, Option, Some, None}
use Rattle.std.specs.Prelude.{unsigned_abs}
use Rattle.std.specs.IoError.{error_kind, raw_os_error}
use Rattle.std.specs.declared.io.Error as io
use Rattle.std.specs.declared.io.ErrorKind.{ErrorKind}
use Rattle.std.specs.declared.io.ErrorKind.TheVariants.{IsADirectory, NotADirectory, NotFound}
use Rattle.std.specs.declared.io.ErrorKind.TheVariants.{PermissionDenied, ReadOnlyFilesystem}
use Rattle.std.specs.declared.io.ErrorKind.TheVariants.{AlreadyExists, StorageFull, QuotaExceeded}
use Rattle.std.specs.declared.io.ErrorKind.TheVariants.{FileTooLarge, InvalidFilename}
use Rattle.std.specs.declared.io.ErrorKind.TheVariants.{FilesystemLoop, NotSeekable}
use Rattle.std.specs.declared.io.ErrorKind.TheVariants.{DirectoryNotEmpty}
use Rattle.std.specs.declared.fs.locks.TryLockError.{TryLockError}
use Rattle.std.specs.declared.fs.locks.TryLockError.TheVariants.{Error, WouldBlock}
use Rattle.sector_disk.specs.declared.open_fault.OpenCause.{OpenCause}
use Rattle.sector_disk.specs.declared.open_fault.OpenCause.TheVariants.{Folder, NoFolder, Missing}
use Rattle.sector_disk.specs.declared.open_fault.OpenCause.TheVariants.{Forbidden, ReadOnly, Exists}
use Rattle.sector_disk.specs.declared.open_fault.OpenCause.TheVariants.{NoRoom, Quota, TooLarge}
use Rattle.sector_disk.specs.declared.open_fault.OpenCause.TheVariants.{LongName, Loop, NoSectors}
use Rattle.sector_disk.specs.declared.open_fault.OpenCause.TheVariants.{NotEmpty, ManyFiles}
use Rattle.sector_disk.specs.declared.open_fault.OpenCause.TheVariants.{FailedDevice, Other}
use Rattle.sector_disk.specs.declared.open_fault.OpenFault.{OpenFault}
use Rattle.sector_disk.specs.declared.open_fault.OpenFault.TheVariants.{Busy, Io}

-- what an error of this kind says of a path
abbrev pub open_cause : ErrorKind → OpenCause
open_cause IsADirectory = Folder
open_cause NotADirectory = NoFolder
open_cause NotFound = Missing
open_cause PermissionDenied = Forbidden
open_cause ReadOnlyFilesystem = ReadOnly
open_cause AlreadyExists = Exists
open_cause StorageFull = NoRoom
open_cause QuotaExceeded = Quota
open_cause FileTooLarge = TooLarge
open_cause InvalidFilename = LongName
open_cause FilesystemLoop = Loop
open_cause DirectoryNotEmpty = NotEmpty
open_cause NotSeekable = NoSectors
open_cause kind = Other

-- What a number of Linux says of a path that has no kind: 5 is `EIO`, 23 `ENFILE` and 24 `EMFILE`.
abbrev pub numbered_cause : ℕ → Option OpenCause
numbered_cause number = if number == 5 then Some FailedDevice
    else (if number == 23 then Some ManyFiles
    else (if number == 24 then Some ManyFiles else None))

-- the number of an error of the system, and 0 of any other
abbrev pub system_number : Option ℤ → ℕ
system_number None = 0
system_number (Some number) = unsigned_abs number

-- the cause by the number, or else by the kind
abbrev pub cause_or : Option OpenCause → OpenCause → OpenCause
cause_or None cause = cause
cause_or (Some numbered) cause = numbered

-- what an error says of a path
abbrev pub error_cause : io.Error → OpenCause
error_cause error = cause_or (numbered_cause (system_number (raw_os_error error)))
    (open_cause (error_kind error))

-- a file is busy where its lock isn't to be had at once
abbrev pub lock_fault : TryLockError → OpenFault
lock_fault WouldBlock = Busy
lock_fault (Error error) = Io (error_cause error)
