use Rattle.sector_disk.specs.rules.DiskImage.{zeros}
use Rattle.sector_disk.proofs.disk_file.FileDiskFile.measure.Given as goal

-- any image would do
abbrev pub ghost-of : goal.ghost-of
ghost-of a = zeros a.sectors
