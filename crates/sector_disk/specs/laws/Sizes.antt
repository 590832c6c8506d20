-- The size of a sector, as a number.
use Rattle.std.specs.Prelude.{◌≡◌}
use Rattle.sector_disk.specs.declared.sector.TheConstants.{SECTOR_SIZE}

pub record SectorSizeNumber : Type 0 where
  pub sector_size : SECTOR_SIZE ≡ 512
