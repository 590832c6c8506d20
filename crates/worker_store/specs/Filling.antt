-- What it does to a disk to push bytes of an image (this project's own).
use Rattle.std.specs.Prelude.{◌≡◌, ◌⊎◌, ℕ, ◌+◌, ◌*◌, ◌<◌, List, length, Result, Err, IsErr, OnOk}
use Rattle.wasi_abi.specs.rules.Versions.{version_number}
use Rattle.process.specs.rules.Values.{ProcessValue}
use Rattle.state_image.specs.rules.ProcessImage.{process_image}
use Rattle.state_image.specs.rules.Saving.{saved_of}
use Rattle.sector_disk.specs.declared.fault.DiskFault.{DiskFault}
use Rattle.sector_disk.specs.declared.sector.TheConstants.{SECTOR_SIZE}
use Rattle.sector_disk.specs.rules.Medium.{Medium}
use Rattle.disk_layout.specs.declared.geometry.Geometry.{Geometry}
use Rattle.snapshot.specs.Writing.{written_length}
use Rattle.snapshot.specs.declared.fault.SnapshotFault.{SnapshotFault}
use Rattle.snapshot.specs.declared.fault.SnapshotFault.TheVariants.{TooBig, Disk}
use Rattle.snapshot.specs.declared.snapshots.Snapshots.{Snapshots}
use Rattle.snapshot.specs.declared.writer.AreaWriter.{AreaWriter}
use Rattle.snapshot.specs.declared.writing.Writing.{Writing}
use Rattle.snapshot.specs.rules.Images.{PushesNext, FailsInArea, NewImage}
use Rattle.snapshot.specs.rules.Snapshots.{IsBegun}

-- These bytes of an image that is begun were pushed, in some pieces, up to the first error.
pub record TakesInto (geometry : Geometry) (bytes : List ℕ)
    (said : Result (Unit {0}) SnapshotFault) (w : AreaWriter) (now : Snapshots)
    (old new : Medium) : Type 0 where
  pub image : AreaWriter
  pub is : OnOk said (IsBegun now image)
  pub pushes : PushesNext geometry bytes said w image old new
  pub too_big : said ≡ Err TooBig
      → SECTOR_SIZE * geometry.area_sectors < written_length w + length bytes
  pub cause : IsErr said → (said ≡ Err TooBig)
      ⊎ ((fault : DiskFault) × (said ≡ Err (Disk fault)) × FailsInArea geometry w old new)

-- the same of the image that is begun
pub record TakesBytes (geometry : Geometry) (bytes : List ℕ)
    (said : Result (Unit {0}) SnapshotFault) (was now : Snapshots) (old new : Medium) : Type 0 where
  pub into : (w : AreaWriter) → IsBegun was w → TakesInto geometry bytes said w now old new

-- the image of a process, as this generation
abbrev pub snapshot_of : ℕ → Writing → ProcessValue → NewImage
snapshot_of g writing process = record {
  generation = g;
  version = version_number (saved_of process).version;
  writing = writing;
  bytes = process_image (saved_of process);
}

-- how many writes these are
abbrev pub behind_sectors : Geometry → ℕ
behind_sectors geometry = geometry.module_sectors + 2 + geometry.journal_sectors
