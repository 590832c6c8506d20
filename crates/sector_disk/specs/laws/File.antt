-- Laws of a disk in a file.
use Rattle.std.specs.Prelude.{◌<◌, ◌^◌}
use Rattle.std.proofs.Common.{arith}
use Rattle.sector_disk.specs.declared.file.FileDisk.{FileDisk}

-- it has fewer sectors than there are numbers
pub count_fits : {F : Type 0} (d : FileDisk F) → d.count < 2 ^ 64
count_fits d = let small = d.small in omega arith
