-- What calls have said of files and of their paths. Nobody knows it but by such a call.
use Rattle.std.specs.Prelude.{ℕ, Bool, true, false, List, IsTrue}
use Rattle.sector_disk.specs.rules.DiskImage.{DiskImage}
use Rattle.sector_disk.specs.declared.file.FileDisk.{FileDisk}
use Rattle.sector_disk.specs.declared.open_fault.OpenFault.{OpenFault}

-- of handles
pub record KnownHandles (F : Type 0) : Type 0 where
  -- it was given the lock of its file
  pub locked : F → Bool
  -- its file ended after so many bytes, and had this image in its whole sectors
  pub measured : F → ℕ → DiskImage → Bool
  -- it made its file so many bytes long
  pub resized : F → ℕ → Bool
  -- its file was found to be a block device, or to be none
  pub device : F → Bool → Bool
  -- a call of it has failed so
  pub failed : F → OpenFault → Bool

-- of paths
pub record KnownFiles (F : Type 0) : Type 0 where
  -- whoever has these files may open the one there to write it
  pub may_write : List ℕ → Bool
  -- may open it to read it and nothing else
  pub may_read : List ℕ → Bool
  -- may make a new one there
  pub may_make : List ℕ → Bool
  -- this handle was opened there
  pub opened : List ℕ → F → Bool
  -- this one was opened there, to read and nothing else
  pub readable : List ℕ → F → Bool
  -- this one is of a file that was made there, where there was none
  pub made : List ℕ → F → Bool
  -- the file there couldn't be opened or made
  pub refused : List ℕ → OpenFault → Bool
  -- the entry of a new file there couldn't be made durable
  pub unsynced : List ℕ → OpenFault → Bool
  -- a new file there was found to be still the one that this disk is in, with all that it was given
  pub in_place : List ℕ → FileDisk F → Bool
  -- the path of a new file was found to lead to another one or to none, or couldn't be looked at
  pub displaced : List ℕ → OpenFault → Bool
  -- a new file was left there, or it was to be removed
  pub kept : List ℕ → Bool
  pub removed : List ℕ → Bool
  -- a disk was closed that had come to this
  pub closed : FileDisk F → Bool

-- A disk there may be opened: a live one to read it and nothing else, any other one to write it.
abbrev pub MayOpen : {F : Type 0} → KnownFiles F → Bool → List ℕ → Type 0
MayOpen files true path = IsTrue (files.may_read path)
MayOpen files false path = IsTrue (files.may_write path)

-- A new disk may be placed there: on a device, which is opened, or in a new file.
abbrev pub MayPlace : {F : Type 0} → KnownFiles F → Bool → List ℕ → Type 0
MayPlace files true path = IsTrue (files.may_write path)
MayPlace files false path = IsTrue (files.may_make path)

-- whatever a call says of a handle
abbrev pub all_said_of_handles : {F : Type 0} → KnownHandles F
all_said_of_handles = record {
  locked = λ file. true;
  measured = λ file bytes image. true;
  resized = λ file bytes. true;
  device = λ file is. true;
  failed = λ file why. true;
}

-- whatever a call says of files, by their paths, all of which it may open and make
abbrev pub all_said_of_files : {F : Type 0} → KnownFiles F
all_said_of_files = record {
  may_write = λ path. true;
  may_read = λ path. true;
  may_make = λ path. true;
  opened = λ path file. true;
  readable = λ path file. true;
  made = λ path file. true;
  refused = λ path why. true;
  unsynced = λ path why. true;
  in_place = λ path disk. true;
  displaced = λ path why. true;
  kept = λ path. true;
  removed = λ path. true;
  closed = λ disk. true;
}
