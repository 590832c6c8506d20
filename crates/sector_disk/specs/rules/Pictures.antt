-- A picture of a disk that another host may write meanwhile, by the answers of its file.
use Rattle.std.specs.Prelude.{◌≡◌, ◌≢◌, ◌⊎◌, ◌<◌, ◌++◌, ⊤, ℕ, zero, suc, List, [], ◌∷◌, min}
use Rattle.std.specs.Prelude.{Result, Ok, Err}
use Rattle.std.specs.List.{AllByRecursion}
use Rattle.sector_disk.specs.declared.fault.DiskFault.{DiskFault}
use Rattle.sector_disk.specs.declared.fault.DiskFault.TheVariants.{Io, Memory}
use Rattle.sector_disk.specs.declared.file_call.FileCall.{FileCall}
use Rattle.sector_disk.specs.declared.file_call.FileCall.TheVariants.{Failed, Read}
use Rattle.sector_disk.specs.declared.file_call.Failure.TheVariants.{OfRead, Refused}
use Rattle.sector_disk.specs.declared.memory.MemDisk.{MemDisk}
use Rattle.sector_disk.specs.declared.picture.PictureFault.{PictureFault}
use Rattle.sector_disk.specs.declared.picture.PictureFault.TheVariants as why
use Rattle.sector_disk.specs.rules.Answered.{AnsweredCalls, faults_of}
use Rattle.sector_disk.specs.rules.DiskImage.{DiskImage, IsDiskImage, sector_at}
use Rattle.sector_disk.specs.rules.Memory.{memory_medium}
use Rattle.sector_disk.specs.rules.Medium.{IsAllSynced}

-- The first sectors were read, so many, once each and in rising order, and gave those of this
-- image. The newest answer is the first of the list.
abbrev pub reads_of : ℕ → DiskImage → AnsweredCalls
reads_of zero image = []
reads_of (suc k) image = (Read k, sector_at image k) ∷ reads_of k image

-- a read, or one that wasn't made since the file is given up
abbrev pub IsOfRead : FileCall → Type 0
IsOfRead (Read k) = ⊤
IsOfRead (Failed OfRead) = ⊤
IsOfRead (Failed Refused) = ⊤
IsOfRead other = ⊥

-- Since these answers the file was read, and asked for nothing else.
abbrev pub WasRead : AnsweredCalls → AnsweredCalls → Type 0
WasRead old new = (more : AnsweredCalls) × (new ≡ more ++ old)
    × AllByRecursion (λ (answer : FileCall × List ℕ). IsOfRead answer.0) more

-- There was no memory, or a read has failed. The file was only read.
abbrev pub FailsToSee : AnsweredCalls → AnsweredCalls → DiskFault → Type 0
FailsToSee old new fault = WasRead old new
    × ((fault ≡ Memory) ⊎ ((fault ≡ Io) × (faults_of old < faults_of new)))

-- A disk in memory shows just this, and a cut leaves it.
pub record IsShownBy (image : DiskImage) (picture : MemDisk) : Type 0 where
  pub shows : (shown : DiskImage) → (memory_medium picture).shows shown → shown ≡ image
  pub there : (memory_medium picture).shows image
  pub synced : IsAllSynced (memory_medium picture)

-- So many sectors were read, and then the first few again: they gave the same, and the picture has
-- them. Or one had changed; or a read has failed, or there was no memory.
abbrev pub IsPictured : ℕ → ℕ → Result MemDisk PictureFault → AnsweredCalls → AnsweredCalls
    → Type 0
IsPictured count again (Ok picture) old new = (image : DiskImage) × IsDiskImage count image
    × IsShownBy image picture
    × (new ≡ reads_of (min again count) image ++ reads_of count image ++ old)
IsPictured count again (Err why.Changed) old new = (image : DiskImage) × (k : ℕ) × (bytes : List ℕ)
    × IsDiskImage count image × (k < min again count) × (bytes ≢ sector_at image k)
    × (new ≡ (Read k, bytes) ∷ reads_of k image ++ reads_of count image ++ old)
IsPictured count again (Err (why.Disk fault)) old new = FailsToSee old new fault
