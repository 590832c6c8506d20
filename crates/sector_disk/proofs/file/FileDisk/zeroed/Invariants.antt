use Rattle.sector_disk.specs.rules.DiskImage.{zeros}
use Rattle.sector_disk.proofs.file.FileDisk.zeroed.Given as goal

-- the zeros that it was filled with
abbrev pub ghost-of : goal.ghost-of
ghost-of g a = zeros a.sectors
