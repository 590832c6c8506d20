use Rattle.std.proofs.Common.{◌≡◌, ◌++◌}
use Rattle.sector_disk.specs.rules.DiskImage.{IsDiskImage}
use Rattle.sector_disk.specs.rules.File.{answers_of, file_medium}
use Rattle.sector_disk.specs.rules.Pictures.{reads_of}
use Rattle.sector_disk.proofs.picture.read_front.Given as goal

abbrev pub invariant-loop-sector : goal.invariant-loop-sector
invariant-loop-sector g l = record {
  image : IsDiskImage l.sector l.sectors.items;
  answers : answers_of l.disk ≡ reads_of l.sector l.sectors.items ++ answers_of l.fn.disk;
  sectors : (file_medium l.disk).sectors ≡ (file_medium l.fn.disk).sectors;
}
